-- Which refusals skip, push and pop may give. Assumes nothing.
--   Refuses                        where a turn is refused, its number stands in a list
--   gate_refusals, checked_among   the gate's refusals are 11 and 12
--   skip_refusals                  10, 11, 12
--   push_refusals                  9, 10, 11, 12
--   pop_refusals                   10, 11, 12
use Prim.Native.Nat.{ℕ, ◌+◌}
use mathlib.Core.Path.{◌≡◌, refl, sym}
use mathlib.Core.Bool.{Bool, true, false, ◌||◌, false≢true}
use mathlib.Core.List.{List, [], ◌∷◌}
use lib.Dec.{leb, eqb, ltb}
use lib.ListN.{length}
use Rattle.std.specs.Prelude.{Result, Ok, Err}
use Rattle.byte.specs.declared.Refusal.{Refusal}
use Rattle.byte.specs.Refusals.{stack_full, out_of_place, too_large, bad_session, is_same, is_among}
use Rattle.byte.proofs.Tests.{choice}
use Rattle.source.specs.Cursor.{origin}
use Rattle.source.specs.declared.Span.{Span}
use Rattle.state.specs.declared.Answer.{Answer}
use Rattle.state.specs.declared.Frame.{Frame}
use Rattle.state.specs.declared.Session.{Session}
use Rattle.state.specs.declared.Turn.{Turn}
use Rattle.state.specs.Bounds.{is_good, is_frame}
use Rattle.state.specs.Gates.{checked, source_fits, gate_refusal}
use Rattle.state.specs.Calls.{span_of, gated, skipped, pushed, popped}

pub record Refuses (refusals : List Refusal) (a : Answer Refusal) : Type 0 where
  pub among : (refusal : Refusal) (span : Span) → a ≡ Answer.Refused refusal span → is_among refusal refusals ≡ true

pub refuses_one : (refusals : List Refusal) (refusal : Refusal) (span : Span) → is_among refusal refusals ≡ true
    → Refuses refusals (Answer.Refused refusal span)
refuses_one refusals refusal span e = record { among = λ n p f. let z : refusal ≡ n = cc in rw (sym z) e }

pub refuses_none : (refusals : List Refusal) → Refuses refusals Answer.Done
refuses_none refusals = record { among = λ n p f. cc }

pub checked_among : (fits good : Bool) (refusal : Refusal) → checked fits good ≡ Err refusal → is_among refusal (too_large ∷ bad_session ∷ []) ≡ true
unfolding is_among
checked_among true true refusal e = cc
checked_among true false refusal e = let z : bad_session ≡ refusal = cc in rw (← z) refl
checked_among false good refusal e = let z : too_large ≡ refusal = cc in rw (← z) refl

pub among_more : (refusal n : Refusal) (refusals : List Refusal) → is_among refusal refusals ≡ true → is_among refusal (n ∷ refusals) ≡ true
unfolding is_among
among_more refusal n refusals e = go (is_same refusal n)
  where
    go : (t : Bool) → (t || is_among refusal refusals) ≡ true
    go true = refl
    go false = e

-- the refusals of the gate, and of the calls
abbrev pub gate_refusals : List Refusal
gate_refusals = too_large ∷ bad_session ∷ []

abbrev move_refusals : List Refusal
move_refusals = out_of_place ∷ gate_refusals

abbrev pushed_refusals : List Refusal
pushed_refusals = stack_full ∷ move_refusals

module _ (src : List ℕ) (s : Session) where
  abbrev Among : List Refusal → Turn Refusal → Type 0
  Among refusals t = Refuses refusals t.answer

  gated_refuses : (refusals : List Refusal) (t : Turn Refusal)
      → ((refusal : Refusal) → is_among refusal gate_refusals ≡ true → is_among refusal refusals ≡ true)
      → Among refusals t → Among refusals (gated (gate_refusal src s) s t)
  unfolding gate_refusal
  gated_refuses refusals t more k =
      go (checked (source_fits src) (is_good src s)) (checked_among (source_fits src) (is_good src s))
    where
      go : (r : Result (Unit {0}) Refusal) → ((refusal : Refusal) → r ≡ Err refusal → is_among refusal gate_refusals ≡ true)
          → Among refusals (gated r s t)
      go (Ok passes) told = k
      go (Err refusal) told = refuses_one refusals refusal origin (more refusal (told refusal refl))

  move_more : (refusal : Refusal) → is_among refusal gate_refusals ≡ true → is_among refusal move_refusals ≡ true
  move_more refusal e = among_more refusal out_of_place gate_refusals e

  pub skip_refusals : (count : ℕ) → Refuses (out_of_place ∷ too_large ∷ bad_session ∷ []) (skipped src s count).answer
  unfolding skipped is_among
  skip_refusals count =
      gated_refuses move_refusals _ move_more
      (choice (Among move_refusals) (leb (s.position + count) (length src)) _ _ (λ e. refuses_none move_refusals)
      (λ e. refuses_one move_refusals out_of_place (span_of s) refl))

  pub push_refusals : (f : Frame) → Refuses (stack_full ∷ out_of_place ∷ too_large ∷ bad_session ∷ []) (pushed src s f).answer
  unfolding pushed is_among
  push_refusals f =
      gated_refuses pushed_refusals _ (λ n e. among_more n stack_full move_refusals (move_more n e))
      (choice (Among pushed_refusals) (is_frame src f) _ _
      (λ e.
      choice (Among pushed_refusals) (ltb s.depth 64) _ _ (λ g. refuses_none pushed_refusals)
      (λ g. refuses_one pushed_refusals stack_full (span_of s) refl))
      (λ e. refuses_one pushed_refusals out_of_place (span_of s) refl))

  pub pop_refusals : Refuses (out_of_place ∷ too_large ∷ bad_session ∷ []) (popped src s).answer
  unfolding popped is_among
  pop_refusals =
      gated_refuses move_refusals _ move_more
      (choice (Among move_refusals) (ltb 1 s.depth) _ _ (λ e. refuses_none move_refusals)
      (λ e. refuses_one move_refusals out_of_place (span_of s) refl))
