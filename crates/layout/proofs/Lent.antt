-- Lent numbers on each way through the functions that look at them. Assumes nothing.
--   frame_in_at       the frame in a slot
--   frame_told_past   Initial past the 64 slots
--   alone_session     the gate over numbers is the gate of their session
use Prim.Native.Nat.{ℕ, zero, suc, ◌+◌, ◌*◌, ◌≤◌, ◌<◌}
use Rattle.byte.specs.declared.Refusal.{Refusal}
use mathlib.Core.Path.{◌≡◌, refl, sym, ap, ◌∙◌}
use mathlib.Core.List.{List}
use native.Mathlib.Omega.{arith}
use lib.ListN.{length, get_or, drop}
use lib.Seq.{drop-drop}
use Rattle.std.proofs.lemmas.List.{get_or_past}
use Rattle.source.specs.declared.Span.{Span}
use Rattle.std.specs.Prelude.{Result}
use Rattle.state.specs.declared.Frame.{Frame}
use Rattle.state.specs.declared.Slot.{Slot}
use Rattle.state.specs.Bounds.{no_slot}
use Rattle.state.specs.Calls.{span_of}
use Rattle.state.specs.Gates.{gate_over, gate_refusal}
use Rattle.state.proofs.Gates.{gate_session}
use Rattle.layout.specs.Sessions.{slot_in, frames_in, depth_in, session_in}
use Rattle.layout.specs.Lent.{frame_told}
use Rattle.layout.proofs.Sessions.{length_frames_in}

-- the slot that stands i slots on
pub get_d_frames_in : (count i : ℕ) (numbers : List ℕ) → i < count
    → get_or (frames_in count numbers) i no_slot ≡ slot_in (drop (i * 3) numbers)
unfolding frames_in
get_d_frames_in zero i numbers h = absurd (omega (arith, h))
get_d_frames_in (suc count) zero numbers h = refl
get_d_frames_in (suc count) (suc i) numbers h =
    let e : 3 + i * 3 ≡ suc i * 3 = omega arith in
    get_d_frames_in count i (drop 3 numbers) (omega (arith, h))
    ∙ ap slot_in (drop-drop (i * 3) 3 numbers ∙ ap (λ (k : ℕ). drop k numbers) e)

pub frame_in_at : (numbers : List ℕ) (i : ℕ) (slot : Slot) → (199 ≤ length numbers) × (i < 64)
    → slot ≡ slot_in (drop (7 + i * 3) numbers)
    → slot.frame ≡ (get_or (frames_in 64 (drop 7 numbers)) i no_slot).frame
frame_in_at numbers i slot h e =
    ap (λ (x : Slot). x.frame) (e ∙ sym (get_d_frames_in 64 i (drop 7 numbers) h.1 ∙ ap slot_in (drop-drop (i * 3) 7 numbers)))

pub frame_told_past : (numbers : List ℕ) (i : ℕ) → 64 ≤ i → Frame.Initial ≡ frame_told numbers i
frame_told_past numbers i h =
    let frames = frames_in 64 (drop 7 numbers) in
    sym (ap (λ (x : Slot). x.frame) (get_or_past frames i no_slot (rw (length_frames_in 64 (drop 7 numbers)) h)))

-- the gate over the numbers is the gate of their session
pub alone_session : (src numbers : List ℕ) (p : Span) (depth : ℕ) (alone : Result (Unit {0}) Refusal) → p ≡ span_of (session_in numbers)
    → depth ≡ depth_in (get_or numbers 3 0) (get_or numbers 6 0) → alone ≡ gate_over src p depth (frame_told numbers)
    → alone ≡ gate_refusal src (session_in numbers)
alone_session src numbers p depth alone e d a = a ∙ rw d (gate_session src (session_in numbers) p e)
