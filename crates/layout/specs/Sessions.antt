-- A session as numbers, for hosts in C and Rust (include/puretakoi.h): 199 of them. Position, line, column, depth, the marks of list
-- and pool, the choices as flags; then for each of 64 slots its frame's number, and its label's start and length (0, 0 without a label).
--   frame_number, label_of, slot_numbers, frames_numbers   from a session to its numbers: frames
--   reading_flag, octal_flag, choices_number, numbers_of   choices, and all
--   label_in, frame_in, frames_in                          from any numbers at all to a session: frames
--   reading_in, octal_in, choices_in, session_in           choices, and all
--   are_choices, is_session                                which numbers are choices, and what a session's are
-- What is no frame is read as a text block without a label, and a session with a bit set that is no flag has depth 0: the gate refuses
-- both (12), and looks at no slot above the depth. `no_session` says so, and `session_again` that reading what was written gives the
-- session again (proofs/Again.antt).
use Rattle.std.specs.Prelude.{ℕ, zero, suc, ◌+◌, ◌*◌, ◌/◌, ◌%◌, Bool, true, ◌&&◌, ◌||◌, not, List, [], ◌∷◌, ◌++◌, leb, ltb, eqb, get_or, drop, if◌then◌else◌}
use Rattle.byte.specs.declared.Octal.{Octal}
use Rattle.state.specs.declared.Label.{Label}
use Rattle.state.specs.declared.Frame.{Frame}
use Rattle.state.specs.declared.Slot.{Slot}
use Rattle.state.specs.declared.Reading.{Reading}
use Rattle.state.specs.declared.Choices.{Choices}
use Rattle.state.specs.declared.Session.{Session}
use Rattle.state.specs.Bounds.{no_slot, no_label}

unfoldable pub frame_number : Frame → ℕ
frame_number Frame.Initial = 0
frame_number Frame.Scripting = 1
frame_number Frame.DoubleQuote = 2
frame_number Frame.ShellExec = 3
frame_number (Frame.Heredoc label) = 4
frame_number (Frame.Nowdoc label) = 5
frame_number Frame.LookingForVarname = 6
frame_number Frame.LookingForProperty = 7
frame_number Frame.VarOffset = 8

unfoldable pub label_of : Frame → Label
label_of (Frame.Heredoc label) = label
label_of (Frame.Nowdoc label) = label
label_of Frame.Initial = no_label
label_of Frame.Scripting = no_label
label_of Frame.DoubleQuote = no_label
label_of Frame.ShellExec = no_label
label_of Frame.LookingForVarname = no_label
label_of Frame.LookingForProperty = no_label
label_of Frame.VarOffset = no_label

abbrev pub slot_numbers : Slot → List ℕ
slot_numbers slot =
    frame_number slot.frame ∷ (label_of slot.frame).start ∷ (label_of slot.frame).len ∷ []

-- the first slots of a mode stack
unfoldable pub frames_numbers : ℕ → List Slot → List ℕ
frames_numbers zero frames = []
frames_numbers (suc count) frames = slot_numbers (get_or frames 0 no_slot) ++ frames_numbers count (drop 1 frames)

-- a reading as a flag, set or not
unfoldable pub reading_flag : Reading → ℕ
reading_flag Reading.Ported = 0
reading_flag Reading.Sheet = 1

unfoldable pub octal_flag : Octal → ℕ
octal_flag Octal.Rust = 0
octal_flag Octal.Manual = 1

-- the choices as flags in one number: 1 nowdoc blocks as sheets, 2 octal escapes as the manual has them
abbrev pub choices_number : Choices → ℕ
choices_number choices = reading_flag choices.nowdocs + 2 * octal_flag choices.octals

-- the seven numbers before the slots
abbrev pub head_numbers : Session → List ℕ
head_numbers s =
    s.position ∷ s.line ∷ s.column ∷ s.depth ∷ s.tokens ∷ s.bytes ∷ choices_number s.choices ∷ []

abbrev pub numbers_of : Session → List ℕ
numbers_of s = head_numbers s ++ frames_numbers 64 s.frames

-- a label's numbers have 16 bits
abbrev pub is_label_numbers : ℕ → ℕ → Bool
is_label_numbers start len = leb start 65535 && leb len 65535

unfoldable pub label_in : ℕ → ℕ → Label
label_in start len = if is_label_numbers start len then record { start = start; len = len } else no_label

unfoldable pub frame_in : ℕ → ℕ → ℕ → Frame
frame_in number start len =
    if eqb number 0 then Frame.Initial
    else if eqb number 1 then Frame.Scripting
    else if eqb number 2 then Frame.DoubleQuote
    else if eqb number 3 then Frame.ShellExec
    else if eqb number 4 then Frame.Heredoc (label_in start len)
    else if eqb number 5 then Frame.Nowdoc (label_in start len)
    else if eqb number 6 then Frame.LookingForVarname
    else if eqb number 7 then Frame.LookingForProperty
    else if eqb number 8 then Frame.VarOffset
    else Frame.Heredoc no_label

abbrev pub slot_in : List ℕ → Slot
slot_in numbers = record { frame = frame_in (get_or numbers 0 0) (get_or numbers 1 0) (get_or numbers 2 0) }

-- the first slots of a list of numbers
unfoldable pub frames_in : ℕ → List ℕ → List Slot
frames_in zero numbers = []
frames_in (suc count) numbers = slot_in numbers ∷ frames_in count (drop 3 numbers)

unfoldable pub reading_in : ℕ → Reading
reading_in flag = if eqb flag 0 then Reading.Ported else Reading.Sheet

unfoldable pub octal_in : ℕ → Octal
octal_in flag = if eqb flag 0 then Octal.Rust else Octal.Manual

-- no bit is set but flags
abbrev pub are_choices : ℕ → Bool
are_choices number = ltb number 4

abbrev pub choices_in : ℕ → Choices
choices_in number = record { nowdocs = reading_in (number % 2); octals = octal_in (number / 2 % 2) }

unfoldable pub depth_in : ℕ → ℕ → ℕ
depth_in depth choices = if are_choices choices then depth else 0

abbrev pub session_in : List ℕ → Session
session_in numbers = record {
  position = get_or numbers 0 0;
  line = get_or numbers 1 0;
  column = get_or numbers 2 0;
  depth = depth_in (get_or numbers 3 0) (get_or numbers 6 0);
  tokens = get_or numbers 4 0;
  bytes = get_or numbers 5 0;
  frames = frames_in 64 (drop 7 numbers);
  choices = choices_in (get_or numbers 6 0);
}

-- a frame's numbers: 0 to 8, and a label's where the frame has one
unfoldable pub is_frame_numbers : ℕ → ℕ → ℕ → Bool
is_frame_numbers number start len = leb number 8 && (not (eqb number 4 || eqb number 5) || is_label_numbers start len)

-- so many slots hold frames' numbers
unfoldable pub are_slots : ℕ → List ℕ → Bool
are_slots zero numbers = true
are_slots (suc count) numbers =
    is_frame_numbers (get_or numbers 0 0) (get_or numbers 1 0) (get_or numbers 2 0) && are_slots count (drop 3 numbers)

-- choices, and a frame in each slot up to the depth
unfoldable pub is_session : List ℕ → Bool
is_session numbers = are_choices (get_or numbers 6 0) && are_slots (get_or numbers 3 0) (drop 7 numbers)
