-- Demand 3 of step and the three readings: `call_waits_exactly`, for every part, good session and tables; `called_let`,
-- for all that the gate lets pass. Assumes nothing.
--   settled_other, settled_wait, settled_six   only the wait is answered with 6: room's refusals are 7 and 8, and an
--                                              outcome's own are others
--   wait_first                                 a wait comes before 7 and 8, however small the tables
use Prim.Native.Nat.{ℕ, ◌+◌, ◌/◌, ◌≤◌}
use Rattle.std.specs.Prelude.{Ok}
use Rattle.byte.specs.declared.Refusal.{Refusal}
use mathlib.Core.Path.{◌≡◌, refl, sym, ap, ◌∙◌}
use mathlib.Core.Bool.{Bool, true, false, false≢true, not}
use mathlib.Core.List.{List, [], ◌∷◌, ◌++◌, append-nil}
use lib.Dec.{eqb, leb}
use lib.ListN.{length}
use borrow.Author.Tests.{le-leb, not-true}
use Rattle.std.specs.Prelude.{Err}
use Rattle.byte.specs.Refusals.{is_same, list_full, pool_full}
use Rattle.byte.specs.Words.{every}
use Rattle.byte.specs.Demand.{is_byte}
use Rattle.byte.specs.Refusals.{wait}
use Rattle.byte.proofs.Tests.{choice, &&-both}
use Rattle.state.specs.declared.Session.{Session}
use Rattle.state.specs.Gates.{lent_refusal, tables_fit}
use Rattle.token.specs.Records.{room_refusal}
use Rattle.outcome.specs.declared.Call.{Call}
use Rattle.outcome.specs.Outcomes.{Outcome, values}
use Rattle.outcome.specs.Insides.{Inside}
use Rattle.outcome.specs.Steps.{call_outcome}
use Rattle.outcome.proofs.StepWays.{call_inside}
use Rattle.outcome.proofs.Demand.{told_waits, refused_waits}
use Rattle.outcome.proofs.StepDemand.{call_waits, call_never_waits}
use Rattle.commit.specs.Records.{answer_of, reached}
use Rattle.lexer.specs.Turns.{settled}
use Rattle.lexer.specs.Calls.{called}
use Rattle.lexer.proofs.Nexts.{settled_cases}
use Rattle.lexer.proofs.Calls.{lent_opened}
use Rattle.byte.proofs.Refusals.{among_every}
use Rattle.demands.proofs.Refusals.{room_among}
use Rattle.demands.specs.Walks.{is_wait}
use Rattle.demands.specs.Waits.{WaitsExactly}
use Rattle.demands.proofs.Good.{Sound, let_sound, position_inside}
use Rattle.demands.proofs.Longer.{settled_append, gate_open, sound_append}

room_other : (list pool tokens bytes count len : ℕ) (refusal : Refusal) → room_refusal list pool tokens bytes count len ≡ Err refusal
    → is_same refusal wait ≡ false
unfolding every
room_other list pool tokens bytes count len refusal e =
    not-true _
    (among_every (λ r. not (is_same r wait)) (list_full ∷ pool_full ∷ []) refl refusal
    (room_among list pool tokens bytes count len refusal e))

answer_other : (finished : Bool) → is_wait (answer_of finished) ≡ false
unfolding is_wait
answer_other true = refl
answer_other false = refl

module _ (src : List ℕ) (s : Session) (l q : List ℕ) where
  settled_other : (o : Outcome) (hi : ℕ) → Inside s.position hi o → (o ≡ Outcome.Wait → ⊥)
      → is_wait (settled src s l q o).turn.answer ≡ false
  unfolding is_wait
  settled_other o hi =
      settled_cases src s l q
      (λ o a. Inside s.position hi o → (o ≡ Outcome.Wait → ⊥) → is_wait a.turn.answer ≡ false)
      (λ pieces after change finished e i k. answer_other finished)
      (λ pieces after change finished refusal e i k.
      room_other (length l) (length q) s.tokens s.bytes (length pieces) (length (values pieces)) refusal e)
      (λ refusal place i k. i.told) (λ i k. absurd (k refl)) o

  settled_wait : (o : Outcome) (hi : ℕ) → Inside s.position hi o → is_wait (settled src s l q o).turn.answer ≡ true
      → o ≡ Outcome.Wait
  settled_wait (Outcome.Told pieces after change finished) hi i e =
      absurd (false≢true (sym (settled_other (Outcome.Told pieces after change finished) hi i told_waits) ∙ e))
  settled_wait (Outcome.Refused refusal place) hi i e =
      absurd (false≢true (sym (settled_other (Outcome.Refused refusal place) hi i refused_waits) ∙ e))
  settled_wait Outcome.Wait hi i e = refl

  settled_six : (o : Outcome) → o ≡ Outcome.Wait → is_wait (settled src s l q o).turn.answer ≡ true
  unfolding reached is_wait
  settled_six o e = rw e

module _ (call : Call) (part : List ℕ) (s : Session) (l q : List ℕ) (bytes : every is_byte part ≡ true) (short : length part ≤ 65536)
    (fit : tables_fit (length l) (length q) ≡ true) (h : Sound part (length l) (length q) s) where
  place : s.position ≤ length part
  place = position_inside part s l q h

  -- the gate is open, for every longer source too
  gives : (rest : List ℕ) (end : Bool) → length (part ++ rest) ≤ 65536
      → called call (part ++ rest) end s l q ≡ settled (part ++ rest) s l q (call_outcome call (part ++ rest) end s)
  unfolding called
  gives rest end k =
      rw (gate_open (part ++ rest) (length l) (length q) s (sound_append part rest (length l) (length q) s h) k fit)

  here : (end : Bool) → called call part end s l q ≡ settled part s l q (call_outcome call part end s)
  here end = rw (append-nil part) at (gives [] end (rw (append-nil part) short))

  -- a wait comes before 7 and 8, however small the tables
  pub wait_first : call_outcome call part false s ≡ Outcome.Wait → is_wait (called call part false s l q).turn.answer ≡ true
  wait_first e = rw (here false) (settled_six part s l q (call_outcome call part false s) e)

  waiting_six : is_wait (called call part false s l q).turn.answer ≡ true → call_outcome call part false s ≡ Outcome.Wait
  waiting_six e =
      settled_wait part s l q (call_outcome call part false s) (length part) (call_inside call part false s place)
      (rw (here false) at e)

  pub call_waits_exactly : WaitsExactly (λ xs end. called call xs end s l q) (λ xs. call_outcome call xs true s) part
  call_waits_exactly =
      let waiting = call_waits call part s bytes h.good in
      record {
        exactly = (λ e. waiting.exactly.0 (waiting_six e), λ x. wait_first (waiting.exactly.1 x));
        settled = λ e rest k.
            gives rest true k
            ∙ ap (settled (part ++ rest) s l q) (waiting.settled (λ z. false≢true (sym e ∙ wait_first z)) rest)
            ∙ settled_append part rest s l q place (call_outcome call part false s) (call_inside call part false s place)
            ∙ sym (here false);
        never =
            rw (here true)
            (settled_other part s l q (call_outcome call part true s) (length part) (call_inside call part true s place)
            (call_never_waits call part s bytes h.good));
      }

-- whatever frame is on top: a reading out of place is among them
pub called_let : (call : Call) (part : List ℕ) (s : Session) (l q : List ℕ) → every is_byte part ≡ true
    → lent_refusal part (length l) (length q) s ≡ Ok tt
    → WaitsExactly (λ xs end. called call xs end s l q) (λ xs. call_outcome call xs true s) part
unfolding tables_fit
called_let call part s l q bytes gate =
    let opened = lent_opened part s (length l) (length q) gate in
    call_waits_exactly call part s l q bytes opened.source
    (&&-both _ _ (le-leb _ _ opened.room) (le-leb _ _ opened.places))
    (let_sound part s (length l) (length q) gate)
