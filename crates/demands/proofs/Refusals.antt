-- Which refusals a call may give, for every session and all tables. Assumes nothing.
--   called_cases    a call whose gate is open, with the cursor inside, and one whose gate is shut
--   call_refusals   of the step and the three readings
--   walk_refusals   a walk gives those of the step
--   called_on_refusals a call and the steps after it give the call's and the step's; steps-refusals: of steps alone
--   refusals_told   every number is 1 to 13
use Prim.Native.Nat.{ℕ, zero, suc, ◌+◌, ◌/◌, ◌≤◌}
use Rattle.std.specs.Prelude.{Result}
use Rattle.byte.specs.declared.Refusal.{Refusal}
use mathlib.Core.Path.{◌≡◌, refl, sym}
use mathlib.Core.Bool.{Bool, true, false, ◌&&◌, false≢true}
use mathlib.Core.List.{List, [], ◌∷◌, ◌++◌}
use lib.Dec.{leb, eqb}
use lib.ListN.{length}
use borrow.Author.Tests.{eqb-true}
use Rattle.std.specs.Prelude.{Ok}
use Rattle.std.specs.Prelude.{Err, if◌then◌else◌}
use Rattle.byte.specs.declared.Octal.{Octal}
use Rattle.byte.specs.Refusals.{number_of, octal_refusals, wait, list_full, pool_full, too_large, bad_session, is_among}
use Rattle.byte.specs.Words.{every}
use Rattle.byte.proofs.Tests.{choice}
use Rattle.source.specs.Cursor.{origin}
use Rattle.state.specs.declared.Answer.{Answer}
use Rattle.state.specs.declared.Session.{Session}
use Rattle.state.specs.Bounds.{is_good, fits_tables}
use Rattle.state.specs.Calls.{span_of}
use Rattle.state.specs.Gates.{source_fits, tables_fit, lent_refusal}
use Rattle.state.proofs.Refusals.{Refuses, refuses_one, refuses_none, checked_among, gate_refusals}
use Rattle.token.specs.Records.{room_refusal}
use Rattle.outcome.specs.declared.Call.{Call}
use Rattle.outcome.specs.Outcomes.{Outcome, values}
use Rattle.outcome.specs.Steps.{call_outcome}
use Rattle.byte.proofs.Refusals.{among_every}
use Rattle.lexer.proofs.Nexts.{shut_cases, roomy_cases}
use Rattle.outcome.proofs.Ways as outcome
use Rattle.outcome.proofs.StepWays.{call_numbers, call_ways}
use Rattle.commit.specs.Records.{answer_of, Reached, reached}
use Rattle.lexer.specs.Turns.{After, refusing, reaching, settled}
use Rattle.lexer.specs.Calls.{called, stepped}
use Rattle.lexer.proofs.Calls.{lent_opened}
use Rattle.lexer.proofs.Nexts.{room}
use Rattle.demands.specs.Refusals.{refusals}
use Rattle.demands.specs.Walks.{gone_on, walked, called_on}
use Rattle.demands.proofs.Choices.{call_choices}

pub refusals_told : (octals : Octal) (call : Call) → every (λ r. leb 1 (number_of r) && leb (number_of r) 13) (refusals octals call) ≡ true
unfolding refusals octal_refusals every
refusals_told Octal.Rust Call.Step = refl
refusals_told Octal.Rust Call.Number = refl
refusals_told Octal.Rust Call.Single = refl
refusals_told Octal.Rust Call.Double = refl
refusals_told Octal.Manual Call.Step = refl
refusals_told Octal.Manual Call.Number = refl
refusals_told Octal.Manual Call.Single = refl
refusals_told Octal.Manual Call.Double = refl

-- ---- a call

pub lent_among : (src : List ℕ) (list pool : ℕ) (s : Session) (refusal : Refusal) → lent_refusal src list pool s ≡ Err refusal
    → is_among refusal gate_refusals ≡ true
unfolding lent_refusal
lent_among src list pool s refusal =
    checked_among (tables_fit list pool && source_fits src) (is_good src s && fits_tables list pool s) refusal

pub called_cases : (call : Call) (src : List ℕ) (end : Bool) (s : Session) (l q : List ℕ) (P : After → Type 0)
    → (s.position ≤ length src → P (settled src s l q (call_outcome call src end s)))
    → ((refusal : Refusal) → is_among refusal gate_refusals ≡ true → P (refusing refusal origin s l q))
    → P (called call src end s l q)
unfolding called
called_cases call src end s l q P opened shut =
    shut_cases P (lent_refusal src (length l) (length q) s) s l q _
    (λ e. opened (lent_opened src s (length l) (length q) e).numbers.position)
    (λ refusal e. shut refusal (lent_among src (length l) (length q) s refusal e))

-- the wait, room and the gate
abbrev common : List Refusal
common = wait ∷ list_full ∷ pool_full ∷ too_large ∷ bad_session ∷ []

abbrev AllIn : List Refusal → List Refusal → Type 0
AllIn others refusals = every (λ r. is_among r others) refusals ≡ true

refusals_all : (octals : Octal) (call : Call)
    → AllIn (refusals octals call) common × AllIn (refusals octals call) (call_numbers octals call)
unfolding refusals octal_refusals every is_among
refusals_all Octal.Rust Call.Step = (refl, refl)
refusals_all Octal.Rust Call.Number = (refl, refl)
refusals_all Octal.Rust Call.Single = (refl, refl)
refusals_all Octal.Rust Call.Double = (refl, refl)
refusals_all Octal.Manual Call.Step = (refl, refl)
refusals_all Octal.Manual Call.Number = (refl, refl)
refusals_all Octal.Manual Call.Single = (refl, refl)
refusals_all Octal.Manual Call.Double = (refl, refl)

abbrev told_room : Bool → Bool → Result (Unit {0}) Refusal
told_room places room = if places then (if room then Ok tt else Err pool_full) else Err list_full

pub room_among : (list pool tokens bytes count len : ℕ) (refusal : Refusal)
    → room_refusal list pool tokens bytes count len ≡ Err refusal
    → is_among refusal (list_full ∷ pool_full ∷ []) ≡ true
unfolding room_refusal is_among
room_among list pool tokens bytes count len refusal =
    go (leb (tokens + count) (list / 8)) (leb (bytes + len) pool)
  where
    go : (places room : Bool) → told_room places room ≡ Err refusal
        → is_among refusal (list_full ∷ pool_full ∷ []) ≡ true
    go true true e = cc
    go true false e = let z : pool_full ≡ refusal = cc in rw (← z) refl
    go false room e = let z : list_full ≡ refusal = cc in rw (← z) refl

refuses_answer : (refused : List Refusal) (finished : Bool) → Refuses refused (answer_of finished)
refuses_answer refused true = record { among = λ n p f. cc }
refuses_answer refused false = refuses_none refused

module _ (call : Call) (src : List ℕ) (end : Bool) (s : Session) (l q : List ℕ) where
  abbrev octals : Octal
  octals = s.choices.octals

  abbrev Among : After → Type 0
  Among a = Refuses (refusals octals call) a.turn.answer

  -- some of what every call may refuse
  shared : (refused : List Refusal) → AllIn common refused → (refusal : Refusal) → is_among refusal refused ≡ true
      → is_among refusal (refusals octals call) ≡ true
  shared refused part refusal e =
      among_every _ common (refusals_all octals call).0 refusal (among_every _ refused part refusal e)

  settled_refuses : (o : Outcome) → outcome.Refuses (call_numbers octals call) o → Among (settled src s l q o)
  unfolding reached is_among every
  settled_refuses (Outcome.Told pieces after change finished) n =
      roomy_cases (λ (r : Reached). Among (reaching s r)) (room src s l q pieces) _ _ _
      (λ e. refuses_answer (refusals octals call) finished)
      (λ refusal e.
      refuses_one (refusals octals call) refusal (span_of s)
      (shared (list_full ∷ pool_full ∷ []) refl refusal
      (room_among (length l) (length q) s.tokens s.bytes (length pieces) (length (values pieces)) refusal e)))
  settled_refuses (Outcome.Refused refusal place) n =
      refuses_one (refusals octals call) refusal _
      (among_every _ (call_numbers octals call) (refusals_all octals call).1 refusal n)
  settled_refuses Outcome.Wait n =
      refuses_one (refusals octals call) wait (span_of s) (shared (wait ∷ []) refl wait refl)

  pub call_refusals : Refuses (refusals s.choices.octals call) (called call src end s l q).turn.answer
  unfolding is_among every
  call_refusals =
      called_cases call src end s l q Among
      (λ h. settled_refuses (call_outcome call src end s) (call_ways call src end s h).refusals)
      (λ refusal e. refuses_one (refusals octals call) refusal origin (shared gate_refusals refl refusal e))

-- ---- many steps

refuses_more : (refused others : List Refusal) → AllIn others refused → (a : Answer Refusal) → Refuses refused a → Refuses others a
refuses_more refused others part a r = record { among = λ n p f. among_every _ refused part n (r.among n p f) }

go_on_refuses : (refused : List Refusal) (a : Answer Refusal) (now later : After) → Refuses refused now.turn.answer
    → Refuses refused later.turn.answer → Refuses refused (gone_on a now later).turn.answer
unfolding gone_on
go_on_refuses refused Answer.Done now later x y = y
go_on_refuses refused Answer.Finished now later x y = x
go_on_refuses refused (Answer.Refused refusal span) now later x y = x

pub walk_refusals : (n : ℕ) (src : List ℕ) (end : Bool) (s : Session) (l q : List ℕ)
    → Refuses (refusals s.choices.octals Call.Step) (walked n src end s l q).turn.answer
unfolding walked
walk_refusals zero src end s l q = refuses_none (refusals s.choices.octals Call.Step)
walk_refusals (suc n) src end s l q =
    let octals = s.choices.octals in
    let now = stepped src end s l q in
    go_on_refuses (refusals octals Call.Step) now.turn.answer now _ (call_refusals Call.Step src end s l q)
    (rw (call_choices Call.Step src end s l q) at
    (walk_refusals n src end now.turn.session now.list now.pool))

-- the call's and the step's
abbrev both : Octal → Call → List Refusal
both octals call = refusals octals call ++ refusals octals Call.Step

both_all : (octals : Octal) (call : Call)
    → AllIn (both octals call) (refusals octals call) × AllIn (both octals call) (refusals octals Call.Step)
    × AllIn (both octals call) gate_refusals
unfolding refusals octal_refusals every is_among
both_all Octal.Rust Call.Step = (refl, refl, refl)
both_all Octal.Rust Call.Number = (refl, refl, refl)
both_all Octal.Rust Call.Single = (refl, refl, refl)
both_all Octal.Rust Call.Double = (refl, refl, refl)
both_all Octal.Manual Call.Step = (refl, refl, refl)
both_all Octal.Manual Call.Number = (refl, refl, refl)
both_all Octal.Manual Call.Single = (refl, refl, refl)
both_all Octal.Manual Call.Double = (refl, refl, refl)

pub called_on_refusals : (call : Call) (n : ℕ) (src : List ℕ) (end : Bool) (s : Session) (l q : List ℕ)
    → Refuses (refusals s.choices.octals call ++ refusals s.choices.octals Call.Step)
    (called_on call n src end s l q).turn.answer
unfolding called_on
called_on_refusals call zero src end s l q =
    let octals = s.choices.octals in
    shut_cases (λ (a : After). Refuses (both octals call) a.turn.answer) (lent_refusal src (length l) (length q) s) s l q _
    (λ e. refuses_none (both octals call))
    (λ refusal e.
    refuses_one (both octals call) refusal origin
    (among_every _ gate_refusals (both_all octals call).2 refusal (lent_among src (length l) (length q) s refusal e)))
called_on_refusals call (suc n) src end s l q =
    let octals = s.choices.octals in
    let now = called call src end s l q in
    go_on_refuses (both octals call) now.turn.answer now _
    (refuses_more (refusals octals call) (both octals call) (both_all octals call).0 _
    (call_refusals call src end s l q))
    (refuses_more (refusals octals Call.Step) (both octals call) (both_all octals call).1 _
    (rw (call_choices call src end s l q) at (walk_refusals n src end now.turn.session now.list now.pool)))

step_twice : (octals : Octal) → AllIn (refusals octals Call.Step) (both octals Call.Step)
unfolding refusals octal_refusals every is_among
step_twice Octal.Rust = refl
step_twice Octal.Manual = refl

pub steps_refusals : (n : ℕ) (src : List ℕ) (end : Bool) (s : Session) (l q : List ℕ)
    → Refuses (refusals s.choices.octals Call.Step) (called_on Call.Step n src end s l q).turn.answer
steps_refusals n src end s l q =
    let octals = s.choices.octals in
    refuses_more (both octals Call.Step) (refusals octals Call.Step) (step_twice octals) _
    (called_on_refusals Call.Step n src end s l q)
