-- What a session's type tells of any session that is passed by value: it has 64 slots, and labels of 16 bits. Assumes nothing.
use Prim.Native.Nat.{◌<◌}
use mathlib.Core.Path.{◌≡◌, refl}
use mathlib.Core.Bool.{true}
use mathlib.Core.List.{List, [], ◌∷◌}
use native.Mathlib.Omega.{arith}
use borrow.Author.Tests.{le-leb}
use mir.Val.{Val}
use denote.Shadow.{shadow}
use denote.Laws.{Is}
use denote.Array.{each}
use Rattle.byte.specs.Words.{every}
use Rattle.byte.proofs.Tests.{&&-both}
use Rattle.state.specs.declared.Label.{Label}
use Rattle.state.specs.declared.Frame.{Frame}
use Rattle.state.specs.declared.Slot.{Slot}
use Rattle.state.specs.declared.Session.{Session}
use Rattle.state.specs.contracts.Label as label-type
use Rattle.state.specs.contracts.Frame as frame-type
use Rattle.state.specs.contracts.Slot as slot-type
use Rattle.state.specs.contracts.Session as session-type
use Rattle.layout.specs.Sessions.{is_label_numbers, label_of}
use Rattle.layout.proofs.Again.{is_held, Held}

label_held : (l : Label) (vs : List Val) → Is label-type.the_row l vs → is_label_numbers l.start l.len ≡ true
label_held l vs p =
    let start : l.start < 65536 = p.1.1.0.1 in
    let len : l.len < 65536 = p.1.1.1.0.1 in
    &&-both _ _ (le-leb l.start 65535 (omega (arith, start))) (le-leb l.len 65535 (omega (arith, len)))

frame_held : (f : Frame) (vs : List Val) → Is frame-type.the_row f vs
    → is_label_numbers (label_of f).start (label_of f).len ≡ true
unfolding label_of
frame_held (Frame.Heredoc l) vs p = label_held l _ p.1.1.1.1.0
frame_held (Frame.Nowdoc l) vs p = label_held l _ p.1.1.1.1.0
frame_held Frame.Initial vs p = refl
frame_held Frame.Scripting vs p = refl
frame_held Frame.DoubleQuote vs p = refl
frame_held Frame.ShellExec vs p = refl
frame_held Frame.LookingForVarname vs p = refl
frame_held Frame.LookingForProperty vs p = refl
frame_held Frame.VarOffset vs p = refl

slots_held : (slots : List Slot) (us : List Val)
    → shadow (each (slot-type.the_row).Denot (slot-type.the_row).own_val slots us)
    → every is_held slots ≡ true
unfolding every is_held
slots_held [] us p = refl
slots_held (slot ∷ slots) [] p = absurd p
slots_held (slot ∷ slots) (u ∷ us) p = &&-both _ _ (frame_held slot.frame _ p.0.1.1.0) (slots_held slots us p.1)

pub session_held : (s : Session) (vs : List Val) → Is session-type.the_row s vs → Held s
session_held s vs p =
    let frames = p.1.1.1.1.1.1.1.1.0 in
    record {
      slots = frames.1.0.1;
      labels = slots_held s.frames frames.0 frames.1.1;
    }
