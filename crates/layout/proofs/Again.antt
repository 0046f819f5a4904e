-- Theorems on sessions as numbers. Assumes nothing.
--   choices_flags, choices_again, number_again   choices and the numbers whose bits are flags stand for each other, one
--                                                for one
--   session_again                                reading what was written gives the session again
--   held_in                                      what is read is such a session, whatever the numbers
--   held_moved, held_entered, held_left          it stays one at another place, with a frame more, with a frame less
--   good_session, no_session   numbers that are no session are refused: 11 for a source or tables
--                              that are too large, else 12
use Rattle.std.specs.Prelude.{if◌then◌else◌}
use Prim.Native.Nat.{ℕ, zero, suc, ◌≤◌, ◌<◌, ◌/◌, ◌%◌}
use mathlib.Core.Path.{◌≡◌, refl, sym, ◌∙◌}
use mathlib.Core.Bool.{Bool, true, false, ◌&&◌, false≢true}
use mathlib.Core.List.{List, [], ◌∷◌, ◌++◌}
use native.Mathlib.Omega.{arith}
use lib.Dec.{eqb}
use lib.ListN.{length, get_or, set, take, drop, length-set}
use borrow.Author.Tests.{eqb-true, eqb-false, lt-ltb, ltb-true}
use Rattle.byte.specs.declared.Octal.{Octal}
use Rattle.byte.specs.Words.{every}
use Rattle.byte.specs.Laid.{laid}
use Rattle.byte.specs.Refusals.{too_large, bad_session}
use Rattle.byte.proofs.Tests.{&&-left, &&-right, &&-both, choice}
use Rattle.source.specs.declared.Span.{Span}
use Rattle.state.specs.declared.Label.{Label}
use Rattle.state.specs.declared.Frame.{Frame}
use Rattle.state.specs.declared.Slot.{Slot}
use Rattle.state.specs.declared.Reading.{Reading}
use Rattle.state.specs.declared.Choices.{Choices}
use Rattle.state.specs.declared.Session.{Session}
use Rattle.state.specs.Bounds.{is_label, is_frame, is_bottom, no_slot, is_slot, is_stack, is_within, is_good, no_label}
use Rattle.state.specs.Calls.{moved, entered, left}
use Rattle.std.specs.Prelude.{Result, Err}
use Rattle.state.specs.Gates.{checked, source_fits, tables_fit, gate_refusal, lent_refusal}
use Rattle.state.proofs.Bounds.{is_within_facts}
use Rattle.layout.specs.Sessions.{frame_number, label_of, frames_numbers, reading_flag, octal_flag, choices_number, numbers_of, is_label_numbers, label_in, frame_in, frames_in, reading_in, octal_in, are_choices, choices_in, depth_in, session_in, is_frame_numbers, are_slots, is_session}
use Rattle.layout.proofs.Sessions.{length_frames_in, reading_flag_small, octal_flag_small}

-- a label's numbers have 16 bits
unfoldable pub is_held : Slot → Bool
is_held slot = is_label_numbers (label_of slot.frame).start (label_of slot.frame).len

-- what every session of the code is: 64 slots, and labels of 16 bits
pub record Held (s : Session) : Type 0 where
  pub slots : length s.frames ≡ 64
  pub labels : every is_held s.frames ≡ true

pub frame_again : (f : Frame) → is_label_numbers (label_of f).start (label_of f).len ≡ true
    → frame_in (frame_number f) (label_of f).start (label_of f).len ≡ f
unfolding frame_in frame_number label_of label_in
frame_again Frame.Initial h = refl
frame_again Frame.Scripting h = refl
frame_again Frame.DoubleQuote h = refl
frame_again Frame.ShellExec h = refl
frame_again (Frame.Heredoc label) h = rw h
frame_again (Frame.Nowdoc label) h = rw h
frame_again Frame.LookingForVarname h = refl
frame_again Frame.LookingForProperty h = refl
frame_again Frame.VarOffset h = refl

frames_again : (slots : List Slot) (rest : List ℕ) → every is_held slots ≡ true
    → frames_in (length slots) (frames_numbers (length slots) slots ++ rest) ≡ slots
unfolding frames_in frames_numbers every is_held
frames_again [] rest h = refl
frames_again (slot ∷ slots) rest h =
    let first = frame_again slot.frame (&&-left (is_held slot) (every is_held slots) h) in
    rw (first, frames_again slots rest (&&-right (is_held slot) (every is_held slots) h))

-- a choice gives a flag that gives the choice again, and a flag a choice that gives the flag again
reading_again : (reading : Reading) → reading_in (reading_flag reading) ≡ reading
unfolding reading_in reading_flag
reading_again Reading.Ported = refl
reading_again Reading.Sheet = refl

octal_again : (octals : Octal) → octal_in (octal_flag octals) ≡ octals
unfolding octal_in octal_flag
octal_again Octal.Rust = refl
octal_again Octal.Manual = refl

module _ (flag : ℕ) (h : flag < 2) where
  reading_flag_again : reading_flag (reading_in flag) ≡ flag
  unfolding reading_flag reading_in
  reading_flag_again =
      choice (λ (r : Reading). reading_flag r ≡ flag) (eqb flag 0) Reading.Ported Reading.Sheet
      (λ e. sym (eqb-true flag 0 e))
      (λ e. omega (arith, eqb-false flag 0 e))

  octal_flag_again : octal_flag (octal_in flag) ≡ flag
  unfolding octal_flag octal_in
  octal_flag_again =
      choice (λ (o : Octal). octal_flag o ≡ flag) (eqb flag 0) Octal.Rust Octal.Manual (λ e. sym (eqb-true flag 0 e))
      (λ e. omega (arith, eqb-false flag 0 e))

module _ (choices : Choices) where
  pub choices_flags : are_choices (choices_number choices) ≡ true
  choices_flags =
      lt-ltb (choices_number choices) 4
      (omega (arith, reading_flag_small choices.nowdocs, octal_flag_small choices.octals))

  -- each flag is a bit of the number
  low_bit : choices_number choices % 2 ≡ reading_flag choices.nowdocs
  low_bit = omega (arith, reading_flag_small choices.nowdocs)

  next_bit : choices_number choices / 2 % 2 ≡ octal_flag choices.octals
  next_bit = omega (arith, reading_flag_small choices.nowdocs, octal_flag_small choices.octals)

  pub choices_again : choices_in (choices_number choices) ≡ choices
  choices_again = rw (low_bit, next_bit, reading_again choices.nowdocs, octal_again choices.octals)

pub number_again : (number : ℕ) → are_choices number ≡ true → choices_number (choices_in number) ≡ number
number_again number h =
    rw (reading_flag_again (number % 2) (omega arith), octal_flag_again (number / 2 % 2) (omega arith))
    (omega (arith, ltb-true number 4 h))

depth_again : (depth : ℕ) (choices : Choices) → depth_in depth (choices_number choices) ≡ depth
unfolding depth_in
depth_again depth choices = rw (choices_flags choices)

module _ (s : Session) (h : Held s) where
  numbers_again : (rest : List ℕ) → session_in (numbers_of s ++ rest) ≡ s
  numbers_again rest =
      let all : frames_in 64 (frames_numbers 64 s.frames ++ rest) ≡ s.frames = rw (← h.slots) (frames_again s.frames rest h.labels) in
      rw (all, depth_again s.depth s.choices, choices_again s.choices)

  pub session_again : (lent : List ℕ) → session_in (laid lent 0 (numbers_of s)) ≡ s
  unfolding laid
  session_again lent = numbers_again _

label_in_held : (start len : ℕ) → is_label_numbers (label_in start len).start (label_in start len).len ≡ true
unfolding label_in
label_in_held start len =
    choice (λ (l : Label). is_label_numbers l.start l.len ≡ true) (is_label_numbers start len) (record { start = start; len = len }) no_label (λ e. e) (λ e. refl)

-- what holds of each frame that numbers can be read as
frame_in_each : (P : Frame → Type 0) (number start len : ℕ) → (number ≡ 0 → P Frame.Initial) → (number ≡ 1 → P Frame.Scripting)
    → (number ≡ 2 → P Frame.DoubleQuote) → (number ≡ 3 → P Frame.ShellExec) → (number ≡ 4 → P (Frame.Heredoc (label_in start len)))
    → (number ≡ 5 → P (Frame.Nowdoc (label_in start len))) → (number ≡ 6 → P Frame.LookingForVarname) → (number ≡ 7 → P Frame.LookingForProperty)
    → (number ≡ 8 → P Frame.VarOffset) → P (Frame.Heredoc no_label) → P (frame_in number start len)
unfolding frame_in
frame_in_each P number start len p0 p1 p2 p3 p4 p5 p6 p7 p8 none =
    choice P (eqb number 0) Frame.Initial _ (λ e. p0 (eqb-true number 0 e)) (λ e.
    choice P (eqb number 1) Frame.Scripting _ (λ e. p1 (eqb-true number 1 e)) (λ e.
    choice P (eqb number 2) Frame.DoubleQuote _ (λ e. p2 (eqb-true number 2 e)) (λ e.
    choice P (eqb number 3) Frame.ShellExec _ (λ e. p3 (eqb-true number 3 e)) (λ e.
    choice P (eqb number 4) (Frame.Heredoc (label_in start len)) _ (λ e. p4 (eqb-true number 4 e)) (λ e.
    choice P (eqb number 5) (Frame.Nowdoc (label_in start len)) _ (λ e. p5 (eqb-true number 5 e)) (λ e.
    choice P (eqb number 6) Frame.LookingForVarname _ (λ e. p6 (eqb-true number 6 e)) (λ e.
    choice P (eqb number 7) Frame.LookingForProperty _ (λ e. p7 (eqb-true number 7 e)) (λ e.
    choice P (eqb number 8) Frame.VarOffset (Frame.Heredoc no_label) (λ e. p8 (eqb-true number 8 e)) (λ e. none)))))))))

pub frame_in_held : (number start len : ℕ) → is_held (record { frame = frame_in number start len }) ≡ true
unfolding is_held label_of
frame_in_held number start len =
    frame_in_each (λ (f : Frame). is_label_numbers (label_of f).start (label_of f).len ≡ true) number start len (λ e. refl) (λ e. refl) (λ e. refl) (λ e. refl)
    (λ e. label_in_held start len) (λ e. label_in_held start len) (λ e. refl) (λ e. refl) (λ e. refl) refl

frames_in_held : (count : ℕ) (numbers : List ℕ) → every is_held (frames_in count numbers) ≡ true
unfolding frames_in every
frames_in_held zero numbers = refl
frames_in_held (suc count) numbers =
    &&-both _ _ (frame_in_held (get_or numbers 0 0) (get_or numbers 1 0) (get_or numbers 2 0)) (frames_in_held count (drop 3 numbers))

pub held_in : (numbers : List ℕ) → Held (session_in numbers)
held_in numbers = record { slots = length_frames_in 64 (drop 7 numbers); labels = frames_in_held 64 (drop 7 numbers) }

-- ---- it stays such a session

every_put : {A : Type 0} (test : A → Bool) (xs : List A) (i : ℕ) (a : A) → every test xs ≡ true → test a ≡ true
    → every test (set xs i a) ≡ true
unfolding every
every_put test [] i a e f = refl
every_put test (x ∷ xs) zero a e f = &&-both (test a) _ f (&&-right (test x) (every test xs) e)
every_put test (x ∷ xs) (suc i) a e f =
    &&-both (test x) _ (&&-left (test x) (every test xs) e)
    (every_put test xs i a (&&-right (test x) (every test xs) e) f)

module _ (s : Session) (h : Held s) where
  pub held_moved : (p : Span) → Held (moved s p)
  held_moved p = record { slots = h.slots; labels = h.labels }

  pub held_left : Held (left s)
  held_left = record { slots = h.slots; labels = h.labels }

  pub held_entered : (f : Frame) → is_held (record { frame = f }) ≡ true → Held (entered s f)
  held_entered f e = record {
    slots = length-set s.frames s.depth _ ∙ h.slots;
    labels = every_put is_held s.frames s.depth _ h.labels e;
  }

-- ---- numbers that are no session

-- a label that the gate lets in has a label's numbers
label_in_good : (src : List ℕ) (start len : ℕ) → is_label src (label_in start len) ≡ true → is_label_numbers start len ≡ true
unfolding label_in is_label
label_in_good src start len =
    choice (λ (l : Label). is_label src l ≡ true → is_label_numbers start len ≡ true) (is_label_numbers start len) (record { start = start; len = len }) no_label (λ e h. e) (λ e h. absurd (false≢true h))

frame_in_good : (src : List ℕ) (number start len : ℕ) → is_frame src (frame_in number start len) ≡ true → is_frame_numbers number start len ≡ true
unfolding is_frame is_frame_numbers is_label
frame_in_good src number start len =
    frame_in_each (λ (f : Frame). is_frame src f ≡ true → is_frame_numbers number start len ≡ true) number start len (λ e h. rw e) (λ e h. rw e) (λ e h. rw e) (λ e h. rw e)
    (λ e h. rw e (label_in_good src start len h)) (λ e h. rw e (label_in_good src start len h)) (λ e h. rw e) (λ e h. rw e) (λ e h. rw e) (λ h. absurd (false≢true h))

slots_good : (src : List ℕ) (count most : ℕ) (numbers : List ℕ) → count ≤ most → every (is_slot src) (take count (frames_in most numbers)) ≡ true
    → are_slots count numbers ≡ true
unfolding frames_in every are_slots
slots_good src zero most numbers h e = refl
slots_good src (suc count) zero numbers h e = absurd (omega arith)
slots_good src (suc count) (suc most) numbers h e =
    let f = frame_in (get_or numbers 0 0) (get_or numbers 1 0) (get_or numbers 2 0) in
    let rest = every (is_slot src) (take count (frames_in most (drop 3 numbers))) in
    &&-both _ _ (frame_in_good src (get_or numbers 0 0) (get_or numbers 1 0) (get_or numbers 2 0) (&&-left (is_frame src f) rest e)) (slots_good src count most (drop 3 numbers) (omega arith) (&&-right (is_frame src f) rest e))

pub depth_some : (depth choices : ℕ) → 1 ≤ depth_in depth choices → (are_choices choices ≡ true) × (depth_in depth choices ≡ depth)
unfolding depth_in
depth_some depth choices =
    choice (λ (d : ℕ). 1 ≤ d → (are_choices choices ≡ true) × (d ≡ depth)) (are_choices choices) depth 0 (λ e h. (e, refl)) (λ e h. absurd (omega arith))

pub good_session : (src numbers : List ℕ) → is_good src (session_in numbers) ≡ true → is_session numbers ≡ true
unfolding is_good is_session is_stack
good_session src numbers e =
    let s = session_in numbers in
    let w = is_within_facts (length src) s (&&-left (is_within (length src) s) (is_stack src s) e) in
    let some = depth_some (get_or numbers 3 0) (get_or numbers 6 0) w.depth_low in
    let every-slot = &&-right (is_bottom (get_or s.frames 0 no_slot).frame) (every (is_slot src) (take s.depth s.frames)) (&&-right (is_within (length src) s) (is_stack src s) e) in
    &&-both _ _ some.0 (rw (← some.1) (slots_good src s.depth 64 (drop 7 numbers) w.depth_high every-slot))

-- the gate is shut for what is no session
not_good : (src numbers : List ℕ) → is_session numbers ≡ false → is_good src (session_in numbers) ≡ false
not_good src numbers e = go (is_good src (session_in numbers)) refl
  where
    go : (good : Bool) → is_good src (session_in numbers) ≡ good → good ≡ false
    go true h = absurd (false≢true (sym e ∙ good_session src numbers h))
    go false h = refl

shut : (fits : Bool) → checked fits false ≡ Err (if fits then bad_session else too_large)
shut true = refl
shut false = refl

module _ (src numbers : List ℕ) (e : is_session numbers ≡ false) where
  pub no_session : gate_refusal src (session_in numbers) ≡ Err (if source_fits src then bad_session else too_large)
  unfolding gate_refusal
  no_session = rw (not_good src numbers e) (shut (source_fits src))

  pub no_session_lent : (list pool : ℕ)
      → lent_refusal src list pool (session_in numbers) ≡ Err (if tables_fit list pool && source_fits src then bad_session else too_large)
  unfolding lent_refusal
  no_session_lent list pool = rw (not_good src numbers e) (shut (tables_fit list pool && source_fits src))
