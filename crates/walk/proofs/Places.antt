-- A call from the place where a walk stands. Assumes nothing.
--   still_next    a call that is not done keeps the frame
--   place_gives   what it makes is the call's turn
--   place_next    the gate is open at the place after it
use Prim.Native.Nat.{ℕ}
use mathlib.Core.Path.{◌≡◌, refl, sym, ap, ◌∙◌}
use mathlib.Core.Bool.{Bool, true, false, false≢true}
use mathlib.Core.List.{List}
use lib.Dec.{eqb}
use lib.ListN.{length}
use Rattle.lexer.proofs.Nexts.{roomy_cases}
use Rattle.std.specs.Prelude.{Ok}
use Rattle.byte.proofs.Tests.{choice}
use Rattle.byte.specs.declared.Refusal.{Refusal}
use Rattle.state.specs.declared.Session.{Session}
use Rattle.state.specs.Gates.{lent_refusal}
use Rattle.outcome.specs.declared.Call.{Call}
use Rattle.outcome.specs.declared.Change.{Change}
use Rattle.outcome.specs.Outcomes.{Outcome, Piece}
use Rattle.outcome.specs.Steps.{call_outcome}
use Rattle.outcome.proofs.Ways.{Still}
use Rattle.outcome.proofs.StepWays.{call_ways}
use Rattle.commit.specs.declared.Mark.{Mark}
use Rattle.commit.specs.declared.Next.{Next}
use Rattle.commit.specs.Records.{Tables, room_for, Reached, reached}
use Rattle.commit.specs.Code.{Committed}
use Rattle.lexer.specs.Turns.{Gives, mark_of, turn_of}
use Rattle.lexer.specs.Calls.{called}
use Rattle.lexer.proofs.Calls.{Lent, lent_opened, open_gives}
use Rattle.demands.specs.Walks.{is_done}
use Rattle.demands.proofs.Good.{StaysSound, call_sound}
use Rattle.demands.proofs.Steps.{call_open}

module _ (src : List ℕ) (m : Mark) (t : Tables) where
  abbrev Kept : Reached → Type 0
  Kept r = is_done r.next.answer ≡ false → r.next.change ≡ Change.Keep

  told_still : (pieces : List Piece) (after : ℕ) (change : Change) (finished : Bool)
      → Still (Outcome.Told pieces after change finished)
      → Kept (reached src m t (Outcome.Told pieces after change finished))
  unfolding reached is_done
  told_still pieces after change true h = roomy_cases Kept (room_for m t pieces) m t _ (λ e k. h) (λ refusal e k. refl)
  told_still pieces after change false h =
      roomy_cases Kept (room_for m t pieces) m t _ (λ e k. absurd (false≢true (sym k))) (λ refusal e k. refl)

  still_next : (o : Outcome) → Still o → Kept (reached src m t o)
  unfolding reached
  still_next (Outcome.Told pieces after change finished) h = told_still pieces after change finished h
  still_next (Outcome.Refused refusal place) h = λ k. refl
  still_next Outcome.Wait h = λ k. refl

-- after an open gate, where the call has made x
module _ (call : Call) (src : List ℕ) (end : Bool) (s : Session) (l q : List ℕ)
    (gate : lent_refusal src (length l) (length q) s ≡ Ok tt) (x : Next Refusal) (l' q' : List ℕ)
    (c : Committed src (mark_of s) l q (call_outcome call src end s) x l' q') where
  opened : Lent src s (length l) (length q)
  opened = lent_opened src s (length l) (length q) gate

  pub place_still : is_done x.answer ≡ false → x.change ≡ Change.Keep
  place_still k =
      let o = call_outcome call src end s in
      let kept = still_next src (mark_of s) (record { list = l; pool = q }) o (call_ways call src end s opened.numbers.position).still in
      ap (λ (y : Next Refusal). y.change) c.next ∙ kept (ap (λ (y : Next Refusal). is_done y.answer) (sym c.next) ∙ k)

  pub place_gives : Gives (called call src end s l q) (turn_of s x) l' q'
  place_gives = open_gives call src end s l q gate x l' q' c

  -- the call leaves the session sound, and list and pool as long as they were
  place_sound : StaysSound src l q (called call src end s l q)
  place_sound = call_sound src s l q (record { good = opened.good; tokens = opened.tokens; bytes = opened.bytes }) call end

  pub list_kept : length l' ≡ length l
  list_kept = ap length place_gives.list ∙ place_sound.list

  pub pool_kept : length q' ≡ length q
  pool_kept = ap length place_gives.pool ∙ place_sound.pool

  pub place_next : lent_refusal src (length l') (length q') (turn_of s x).session ≡ Ok tt
  place_next =
      rw (place_gives.list, place_gives.pool) (rw (← place_gives.turn) at (call_open call src end s l q gate))
