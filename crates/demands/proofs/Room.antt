-- How much room a call asks for, for every session and all tables. Assumes nothing.
--   call_few     a call writes at most two records
--   call_room    with two records free, and a byte of the pool for each byte left to read, no call lacks room
--   empty_room   so from empty tables: 16 numbers, and as many bytes as the source has
use Prim.Native.Nat.{ℕ, ◌+◌, ◌-◌, ◌*◌, ◌/◌, ◌≤◌}
use Rattle.byte.specs.declared.Refusal.{Refusal}
use mathlib.Core.Path.{◌≡◌, refl}
use mathlib.Core.Bool.{Bool, true, false, not, ◌||◌}
use mathlib.Core.List.{List}
use native.Mathlib.Omega.{arith}
use lib.Dec.{eqb}
use lib.ListN.{length}
use borrow.Author.Tests.{le-leb, not-true}
use Rattle.std.specs.Prelude.{Ok}
use Rattle.byte.specs.Refusals.{is_same}
use Rattle.byte.specs.declared.Octal.{Octal}
use Rattle.byte.specs.Refusals.{octal_refusals, list_full, pool_full}
use Rattle.byte.specs.Words.{every}
use Rattle.state.specs.declared.Session.{Session}
use Rattle.state.proofs.Refusals.{gate_refusals}
use Rattle.token.specs.Records.{room_refusal}
use Rattle.outcome.specs.declared.Call.{Call}
use Rattle.outcome.specs.Outcomes.{Piece, Outcome, values}
use Rattle.outcome.specs.Insides.{Inside}
use Rattle.outcome.specs.Steps.{call_outcome}
use Rattle.byte.proofs.Refusals.{among_every}
use Rattle.outcome.proofs.Ways.{Few}
use Rattle.outcome.proofs.Ways as outcome
use Rattle.outcome.proofs.StepWays.{call_numbers, call_ways}
use Rattle.commit.specs.Records.{answer_of, reached}
use Rattle.lexer.specs.Turns.{After, settled}
use Rattle.lexer.specs.Calls.{called}
use Rattle.lexer.proofs.Nexts.{room, settled_cases}
use Rattle.demands.specs.Emptied.{lacks_room}
use Rattle.demands.proofs.Refusals.{called_cases}

-- a refusal that is neither 7 nor 8
abbrev is_roomy : Refusal → Bool
is_roomy refusal = not (is_same refusal list_full || is_same refusal pool_full)

call_roomy : (octals : Octal) (call : Call) → every is_roomy (call_numbers octals call) ≡ true
unfolding every octal_refusals
call_roomy Octal.Rust Call.Step = refl
call_roomy Octal.Rust Call.Number = refl
call_roomy Octal.Rust Call.Single = refl
call_roomy Octal.Rust Call.Double = refl
call_roomy Octal.Manual Call.Step = refl
call_roomy Octal.Manual Call.Number = refl
call_roomy Octal.Manual Call.Single = refl
call_roomy Octal.Manual Call.Double = refl

answer_roomy : (finished : Bool) → lacks_room (answer_of finished) ≡ false
unfolding lacks_room
answer_roomy true = refl
answer_roomy false = refl

module _ (call : Call) (src : List ℕ) (end : Bool) (s : Session) (l q : List ℕ) where
  abbrev FewAfter : After → Type 0
  FewAfter a = a.turn.session.tokens ≤ s.tokens + 2

  pub call_few : (called call src end s l q).turn.session.tokens ≤ s.tokens + 2
  call_few =
      called_cases call src end s l q FewAfter
      (λ h.
      settled_cases src s l q (λ o a. Few o → FewAfter a) (λ pieces after change finished e f. omega (arith, f))
      (λ pieces after change finished refusal e f. omega arith) (λ refusal place f. omega arith) (λ f. omega arith)
      (call_outcome call src end s)
      (call_ways call src end s h).few)
      (λ refusal e. omega arith)

  module _ (places : (s.tokens + 2) * 8 ≤ length l) (bytes : s.bytes + (length src - s.position) ≤ length q) where
    abbrev RoomyAfter : After → Type 0
    RoomyAfter a = lacks_room a.turn.answer ≡ false

    fits : (pieces : List Piece) → s.tokens + length pieces ≤ length l / 8
        → s.bytes + length (values pieces) ≤ length q → room src s l q pieces ≡ Ok tt
    unfolding room_refusal
    fits pieces x y = rw (le-leb _ _ x, le-leb _ _ y)

    settled_room : (o : Outcome) → Inside s.position (length src) o → Few o
        → outcome.Refuses (call_numbers s.choices.octals call) o
        → RoomyAfter (settled src s l q o)
    unfolding reached lacks_room
    settled_room (Outcome.Told pieces after change finished) i f n =
        let enough : room src s l q pieces ≡ Ok tt =
        fits pieces (omega (arith, f)) (omega (arith, i.narrow, i.inside)) in
        rw enough (answer_roomy finished)
    settled_room (Outcome.Refused refusal place) i f n =
        not-true _
        (among_every is_roomy (call_numbers s.choices.octals call) (call_roomy s.choices.octals call) refusal n)
    settled_room Outcome.Wait i f n = refl

    pub call_room : lacks_room (called call src end s l q).turn.answer ≡ false
    unfolding lacks_room every
    call_room =
        called_cases call src end s l q RoomyAfter
        (λ h.
        let w = call_ways call src end s h in
        settled_room (call_outcome call src end s) w.lies w.few w.refusals)
        (λ refusal e. not-true _ (among_every is_roomy gate_refusals refl refusal e))

pub empty_room : (call : Call) (src : List ℕ) (end : Bool) (s : Session) (l q : List ℕ) → s.tokens ≡ 0 → s.bytes ≡ 0
    → 16 ≤ length l → length src ≤ length q
    → lacks_room (called call src end s l q).turn.answer ≡ false
empty_room call src end s l q tokens bytes places room =
    call_room call src end s l q (omega (arith, tokens)) (omega (arith, bytes))
