-- A session in numbers that a host lends, where a call works over them: some are written, and the others stay.
--   place_numbers   the first six: place, depth and marks
--   slot_at         the three numbers of slot i
--   frame_told      the frame that they are
--   Rewritten       numbers written over others so that they stand for a session
use Rattle.std.specs.Prelude.{ℕ, ◌+◌, ◌*◌, ◌<◌, List, [], ◌∷◌, ◌⊎◌, ◌≡◌, length, get_or, take, drop}
use Rattle.source.specs.declared.Span.{Span}
use Rattle.state.specs.declared.Frame.{Frame}
use Rattle.state.specs.declared.Session.{Session}
use Rattle.state.specs.Bounds.{no_slot}
use Rattle.layout.specs.Sessions.{slot_numbers, head_numbers, frames_in, session_in}

abbrev pub place_numbers : Span → ℕ → ℕ → ℕ → List ℕ
place_numbers p depth tokens bytes = p.position ∷ p.line ∷ p.column ∷ depth ∷ tokens ∷ bytes ∷ []

abbrev pub slot_at : ℕ → List ℕ → List ℕ
slot_at i numbers = take 3 (drop (7 + i * 3) numbers)

-- past the 64 slots it is Initial
abbrev pub frame_told : List ℕ → ℕ → Frame
frame_told numbers i = (get_or (frames_in 64 (drop 7 numbers)) i no_slot).frame

-- a slot that was not changed has the numbers that it had, a changed one its frame's own
pub record Rewritten (before : List ℕ) (s : Session) (after : List ℕ) : Type 0 where
  pub size : length after ≡ length before
  pub reads : session_in after ≡ s
  pub head : take 7 after ≡ head_numbers s
  pub slots : (i : ℕ) → i < 64 → (slot_at i after ≡ slot_at i before) ⊎ (slot_at i after ≡ slot_numbers (get_or s.frames i no_slot))
  pub rest : drop 199 after ≡ drop 199 before
