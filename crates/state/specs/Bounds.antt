-- A session's bounds (document 01, refusal 12), one by one, and what tables may be lent (refusal 11).
--   label_bytes, no_label, is_label   the bytes that a label names; the range of none; 1 to 64 identifier bytes within
--                                     the source
--   is_frame                          a frame whose label, if it has one, is a label
--   is_scripting                      the step's table and the readings want this frame
--   is_bottom                         not VarOffset, not LookingForProperty
--   is_stack                          the bottom frame may stand there, and each frame up to the depth is one; those
--                                     above are not looked at
--   are_frames                        the same of so many frames, each told by its place
--   are_within, is_within             position, line and column, and the depth, are within their bounds; a session's
--   is_good       all of these
--   fits_tables   the marks are not past their tables; a list of n numbers has n / 8 places
use Rattle.std.specs.Prelude.{ℕ, ◌+◌, ◌/◌, Bool, true, false, ◌&&◌, List, leb, length, get_or, take, drop}
use Rattle.std.specs.List.{list_all, range_with_len}
use Rattle.byte.specs.Words.{every}
use Rattle.byte.specs.Bytes.{is_identifier}
use Rattle.source.specs.declared.Span.{Span}
use Rattle.state.specs.declared.Label.{Label}
use Rattle.state.specs.declared.Frame.{Frame}
use Rattle.state.specs.declared.Slot.{Slot}
use Rattle.state.specs.declared.Session.{Session}

abbrev pub label_bytes : List ℕ → Label → List ℕ
label_bytes src l = take l.len (drop l.start src)

-- a frame or a mode without a label has this range
abbrev pub no_label : Label
no_label = record { start = 0; len = 0 }

unfoldable pub is_label : List ℕ → Label → Bool
is_label src l =
    leb 1 l.len && leb l.len 64 && leb (l.start + l.len) (length src) && every is_identifier (label_bytes src l)

unfoldable pub is_frame : List ℕ → Frame → Bool
is_frame src (Frame.Heredoc l) = is_label src l
is_frame src (Frame.Nowdoc l) = is_label src l
is_frame src Frame.Initial = true
is_frame src Frame.Scripting = true
is_frame src Frame.DoubleQuote = true
is_frame src Frame.ShellExec = true
is_frame src Frame.LookingForVarname = true
is_frame src Frame.LookingForProperty = true
is_frame src Frame.VarOffset = true

unfoldable pub is_scripting : Frame → Bool
is_scripting Frame.Scripting = true
is_scripting Frame.Initial = false
is_scripting Frame.DoubleQuote = false
is_scripting Frame.ShellExec = false
is_scripting (Frame.Heredoc label) = false
is_scripting (Frame.Nowdoc label) = false
is_scripting Frame.LookingForVarname = false
is_scripting Frame.LookingForProperty = false
is_scripting Frame.VarOffset = false

unfoldable pub is_bottom : Frame → Bool
is_bottom Frame.VarOffset = false
is_bottom Frame.LookingForProperty = false
is_bottom Frame.Initial = true
is_bottom Frame.Scripting = true
is_bottom Frame.DoubleQuote = true
is_bottom Frame.ShellExec = true
is_bottom (Frame.Heredoc l) = true
is_bottom (Frame.Nowdoc l) = true
is_bottom Frame.LookingForVarname = true

-- what a list of slots gives past its end
abbrev pub no_slot : Slot
no_slot = record { frame = Frame.Initial }

abbrev pub is_slot : List ℕ → Slot → Bool
is_slot src slot = is_frame src slot.frame

unfoldable pub is_stack : List ℕ → Session → Bool
is_stack src s = is_bottom (get_or s.frames 0 no_slot).frame && every (is_slot src) (take s.depth s.frames)

unfoldable pub are_frames : List ℕ → ℕ → (ℕ → Frame) → Bool
are_frames src depth frame = is_bottom (frame 0) && list_all (λ i. is_frame src (frame i)) (range_with_len 0 depth)

abbrev pub are_within : ℕ → Span → ℕ → Bool
are_within size p depth =
    leb p.position size
    && leb 1 depth && leb depth 64
    && leb 1 p.line && leb p.line (p.position + 1)
    && leb 1 p.column && leb p.column (p.position + 1)

unfoldable pub is_within : ℕ → Session → Bool
is_within size s = are_within size (record { line = s.line; column = s.column; position = s.position }) s.depth

unfoldable pub is_good : List ℕ → Session → Bool
is_good src s = is_within (length src) s && is_stack src s

unfoldable pub fits_tables : ℕ → ℕ → Session → Bool
fits_tables list pool s = leb s.tokens (list / 8) && leb s.bytes pool
