-- The number that a call of a host gives back: 0 to 13, of each call which, and 0 exactly where it is done or finished. Assumes nothing.
--   HostNumber, host_number   of a call that may refuse with some numbers
--   host_call, host_walk      the step and the three readings; the walk
--   host_skip, host_push, host_pop
--   fresh_which, past_which, file_which, list_which   the calls without a turn
--   which_most                                        so it is 13 at most
use Rattle.std.specs.Prelude.{Result, if◌then◌else◌}
use Prim.Native.Nat.{ℕ, ◌/◌, ◌%◌, ◌≤◌}
use mathlib.Core.Path.{◌≡◌, refl, sym, ◌∙◌}
use mathlib.Core.Bool.{Bool, true, false, ◌&&◌, ◌||◌, false≢true}
use mathlib.Core.List.{List, [], ◌∷◌}
use mathlib.Core.Logic.{◌⊎◌, inl, inr, ◌↔◌}
use lib.Dec.{leb, eqb}
use lib.ListN.{length}
use borrow.Author.Tests.{leb-true, eqb-true}
use Rattle.byte.specs.Words.{every, is_one_of, announced}
use Rattle.byte.specs.declared.Refusal.{Refusal}
use Rattle.byte.specs.Refusals.{number_of, list_full, pool_full, stack_full, out_of_place, too_large, bad_session}
use Rattle.byte.proofs.Tests.{choice, &&-left, &&-right}
use Rattle.state.specs.declared.Answer.{Answer}
use Rattle.state.specs.declared.Session.{Session}
use Rattle.state.specs.Calls.{skipped, pushed, popped}
use Rattle.state.proofs.Refusals.{Refuses, skip_refusals, push_refusals, pop_refusals}
use Rattle.token.specs.Files.{to_file_refusal, to_list_refusal}
use Rattle.outcome.specs.declared.Call.{Call}
use Rattle.lexer.specs.Calls.{called}
use Rattle.demands.specs.Walks.{called_on}
use Rattle.demands.specs.Refusals.{refusals}
use Rattle.demands.proofs.Refusals.{call_refusals, steps_refusals}
use Rattle.layout.specs.Sessions.{are_choices, frame_in, session_in}
use Rattle.layout.specs.Answers.{refusal_by, refusal_in}
use Rattle.puretakoi.specs.Told.{told_number, numbers_told}
use Rattle.puretakoi.proofs.Told.{number_some, told_among, one_of_more, one_of_here}
use Rattle.puretakoi.specs.Places.{is_small, span_in, past_refusal, Past}
use Rattle.puretakoi.specs.Calls.{are_long, Crossed, Answered, Walked, fresh_refusal, Begun, Filed}

-- no refusal
abbrev pub Unrefused : Answer Refusal → Type 0
Unrefused a = (a ≡ Answer.Done) ⊎ (a ≡ Answer.Finished)

-- a number of 0 to 13
pub which_most : (numbers : List ℕ) → every (λ n. leb n 13) numbers ≡ true → (r : ℕ) → is_one_of r numbers ≡ true → r ≤ 13
unfolding every is_one_of
which_most [] all r e = absurd (false≢true e)
which_most (n ∷ more) all r e =
    go (eqb r n) refl e (which_most more (&&-right (leb n 13) _ all) r)
  where
    go : (t : Bool) → eqb r n ≡ t → (t || is_one_of r more) ≡ true → (is_one_of r more ≡ true → r ≤ 13) → r ≤ 13
    go true z f later = rw (eqb-true r n z) (leb-true n 13 (&&-left (leb n 13) _ all))
    go false z f later = later f

-- ---- the calls with a session

-- 10 also where a slice is too short
pub record HostNumber (refused : List Refusal) (a : Answer Refusal) (session answer : List ℕ) (r : ℕ) : Type 0 where
  pub none : (r ≡ 0) ↔ ((are_long (length session) (length answer) ≡ true) × Unrefused a)
  pub which : is_one_of r (0 ∷ numbers_told (out_of_place ∷ refused)) ≡ true

module _ (session answer : List ℕ) (r : ℕ) (refused : List Refusal) (a : Answer Refusal) (told : Refuses refused a)
    (e : r ≡ (if are_long (length session) (length answer) then refusal_in a else number_of out_of_place)) where
  abbrev long : Bool
  long = are_long (length session) (length answer)

  unrefused_zero : Unrefused a → refusal_in a ≡ 0
  unfolding refusal_by
  unrefused_zero (inl x) = rw x
  unrefused_zero (inr x) = rw x

  zero_unrefused : (b : Answer Refusal) → a ≡ b → refusal_in b ≡ 0 → Unrefused a
  unfolding refusal_by
  zero_unrefused Answer.Done x z = inl x
  zero_unrefused Answer.Finished x z = inr x
  zero_unrefused (Answer.Refused refusal span) x z = absurd (number_some refusal z)

  abbrev Given : ℕ → Type 0
  Given n = is_one_of n (0 ∷ numbers_told (out_of_place ∷ refused)) ≡ true

  answer_which : (b : Answer Refusal) → a ≡ b → Given (refusal_in b)
  unfolding refusal_by
  answer_which Answer.Done x = one_of_here 0 _
  answer_which Answer.Finished x = one_of_here 0 _
  answer_which (Answer.Refused refusal span) x =
      let mine = told_among refusal refused (told.among refusal span x) in
      one_of_more (number_of refusal) 0 _ (one_of_more (number_of refusal) (number_of out_of_place) _ mine)

  pub host_number : HostNumber refused a session answer r
  host_number = record { none = (λ z. made long refl z, λ u. e ∙ rw u.0 (unrefused_zero u.1)); which = rw e (among long) }
    where
      made : (t : Bool) → long ≡ t → r ≡ 0 → (long ≡ true) × Unrefused a
      made true x z = (x, zero_unrefused a refl (rw x at (sym e ∙ z)))
      made false x z = absurd (number_some out_of_place (rw x at (sym e ∙ z)))

      among : (t : Bool) → Given (if t then refusal_in a else number_of out_of_place)
      among true = answer_which a refl
      among false = one_of_more (number_of out_of_place) 0 _ (one_of_here (number_of out_of_place) _)

module _ (src : List ℕ) (end : ℕ) (session list pool answer : List ℕ) (r : ℕ) (session' list' pool' answer' : List ℕ) where
  pub host_call : (call : Call) → Answered call src end session list pool answer r session' list' pool' answer'
      → HostNumber (refusals (session_in session).choices.octals call)
      (called call src (announced end) (session_in session) list pool).turn.answer session answer r
  host_call call c =
      host_number session answer r (refusals (session_in session).choices.octals call) _
      (call_refusals call src (announced end) (session_in session) list pool) c.number

  pub host_walk : (most : ℕ) → Walked src end most session list pool answer r session' list' pool' answer'
      → HostNumber (refusals (session_in session).choices.octals Call.Step)
      (called_on Call.Step most src (announced end) (session_in session) list pool).turn.answer
      session answer r
  host_walk most c =
      host_number session answer r (refusals (session_in session).choices.octals Call.Step) _
      (steps_refusals most src (announced end) (session_in session) list pool) c.number

module _ (src session answer : List ℕ) (r : ℕ) (session' answer' : List ℕ) where
  abbrev here : Session
  here = session_in session

  pub host_skip : (count : ℕ) → Crossed (skipped src here count) session answer r session' answer'
      → HostNumber (out_of_place ∷ too_large ∷ bad_session ∷ []) (skipped src here count).answer session answer r
  host_skip count c = host_number session answer r _ _ (skip_refusals src here count) c.number

  pub host_push : (number start len : ℕ) → Crossed (pushed src here (frame_in number start len)) session answer r session' answer'
      → HostNumber (stack_full ∷ out_of_place ∷ too_large ∷ bad_session ∷ []) (pushed src here (frame_in number start len)).answer
      session answer r
  host_push number start len c =
      host_number session answer r _ _ (push_refusals src here (frame_in number start len)) c.number

  pub host_pop : Crossed (popped src here) session answer r session' answer'
      → HostNumber (out_of_place ∷ too_large ∷ bad_session ∷ []) (popped src here).answer session answer r
  host_pop c = host_number session answer r _ _ (pop_refusals src here) c.number

-- ---- the calls without a turn

-- 0, or the number of one of these
abbrev Among : List Refusal → ℕ → Type 0
Among refused r = is_one_of r (0 ∷ numbers_told refused) ≡ true

-- what is told of a call
abbrev Told : List Refusal → Result (Unit {0}) Refusal → Type 0
Told refused told = Among refused (told_number told)

pub fresh_which : (choices : ℕ) (session : List ℕ) (r : ℕ) (session' : List ℕ) → Begun choices session r session'
    → Among (out_of_place ∷ bad_session ∷ []) r
unfolding fresh_refusal is_one_of
fresh_which choices session r session' c =
    rw c.number
    (choice Here (leb 199 (length session)) _ _
    (λ e. choice Here (are_choices choices) _ _ (λ f. refl) (λ f. refl)) (λ e. refl))
  where
    Here : Result (Unit {0}) Refusal → Type 0
    Here = Told (out_of_place ∷ bad_session ∷ [])

pub past_which : (part span : List ℕ) (r : ℕ) (after : List ℕ) → Past part span r after
    → Among (out_of_place ∷ too_large ∷ bad_session ∷ []) r
unfolding past_refusal is_one_of
past_which part span r after c =
    rw c.answer
    (choice Here (leb (length part) 65536) _ _
    (λ e. choice Here (eqb (length span) 3) _ _ (λ f. choice Here (is_small (span_in span)) _ _ (λ g. refl) (λ g. refl)) (λ f. refl))
    (λ e. refl))
  where
    Here : Result (Unit {0}) Refusal → Type 0
    Here = Told (out_of_place ∷ too_large ∷ bad_session ∷ [])

module _ (list file : ℕ) (lent values : List ℕ) (r : ℕ) (after : List ℕ) where
  pub file_which : Filed (to_file_refusal list file) lent values r after → Among (pool_full ∷ out_of_place ∷ too_large ∷ []) r
  unfolding to_file_refusal is_one_of
  file_which c =
      rw c.number
      (choice Here (leb (list / 8) 65537) _ _
      (λ e.
      choice Here (eqb (list % 8) 0) _ _ (λ f. choice Here (leb (list / 8) (file / 32)) _ _ (λ g. refl) (λ g. refl)) (λ f. refl))
      (λ e. refl))
    where
      Here : Result (Unit {0}) Refusal → Type 0
      Here = Told (pool_full ∷ out_of_place ∷ too_large ∷ [])

  pub list_which : Filed (to_list_refusal file list) lent values r after → Among (list_full ∷ out_of_place ∷ too_large ∷ []) r
  unfolding to_list_refusal is_one_of
  list_which c =
      rw c.number
      (choice Here (leb (file / 32) 65537 && leb (list / 8) 65537) _ _
      (λ e.
      choice Here (eqb (file % 32) 0) _ _ (λ f. choice Here (leb (file / 32) (list / 8)) _ _ (λ g. refl) (λ g. refl)) (λ f. refl))
      (λ e. refl))
    where
      Here : Result (Unit {0}) Refusal → Type 0
      Here = Told (list_full ∷ out_of_place ∷ too_large ∷ [])
