-- Octal escapes by the choice in a host's session, over its own numbers (document 02, P5). Assumes nothing.
--   host_call_octal, host_walk_octal   3 is given under the Rust's choice alone: flag 2 is not set
--   host_choices                       a step, a reading and a walk keep the choices, done or refused
--   session_chosen                     a host that writes other choices over those in its session has it with them
--   manual_chosen                      so where it adds flag 2
--   choose_filled                      it may do so between calls: its list stays one that was filled from empty
--   host_chosen                        where the Rust's choice does not give 3, the same call under the manual's
--                                      gives the same
use Rattle.std.specs.Prelude.{if◌then◌else◌}
use Prim.Native.Nat.{ℕ, zero, suc, ◌+◌, ◌/◌, ◌%◌, ◌≤◌, ◌<◌}
use mathlib.Core.Path.{◌≡◌, refl, sym, ap, ◌∙◌}
use mathlib.Core.Bool.{Bool, true, false, false≢true}
use mathlib.Core.List.{List, [], ◌∷◌}
use native.Mathlib.Omega.{arith}
use lib.Dec.{eqb}
use lib.ListN.{length, get_or, set}
use borrow.Author.Tests.{eqb-true, lt-ltb}
use Rattle.byte.specs.declared.Octal.{Octal}
use Rattle.byte.specs.Refusals.{number_of, invalid_octal_escape, out_of_place, octal_refusals}
use Rattle.byte.specs.Laid.{laid}
use Rattle.byte.specs.Words.{announced, is_one_of}
use Rattle.source.specs.declared.Span.{Span}
use Rattle.state.specs.declared.Answer.{Answer}
use Rattle.state.specs.declared.Choices.{Choices}
use Rattle.state.specs.declared.Session.{Session}
use Rattle.outcome.specs.declared.Call.{Call}
use Rattle.outcome.specs.Octals.{choosing, with_choices, chosen}
use Rattle.lexer.specs.Turns.{After}
use Rattle.demands.specs.Refusals.{refusals}
use Rattle.demands.specs.Walks.{called_on, calls_done}
use Rattle.demands.specs.Filled.{Filled, choose}
use Rattle.demands.proofs.Choices.{called_on_choices}
use Rattle.demands.proofs.Octals.{called_on_chosen, calls_done_chosen}
use Rattle.layout.specs.Sessions.{are_choices, reading_in, choices_in, octal_in, depth_in, session_in}
use Rattle.layout.specs.Answers.{refusal_by, refusal_in}
use Rattle.puretakoi.specs.Told.{numbers_told}
use Rattle.puretakoi.specs.Calls.{are_long, told_numbers, Answered, Turns, Walked}
use Rattle.puretakoi.proofs.Chain.{turns_cross, turns_stands}
use Rattle.puretakoi.proofs.Numbers.{host_call, host_walk}

-- ---- 3 under the Rust's choice alone

-- the flag of the manual's choice, set or not
abbrev pub flag_of : List ℕ → ℕ
flag_of session = get_or session 6 0 / 2 % 2

flag_unset : (flag : ℕ) → octal_in flag ≡ Octal.Rust → flag ≡ 0
unfolding octal_in
flag_unset flag e = go (eqb flag 0) refl e
  where
    go : (t : Bool) → eqb flag 0 ≡ t → (if t then Octal.Rust else Octal.Manual) ≡ Octal.Rust → flag ≡ 0
    go true z f = eqb-true flag 0 z
    go false z f = cc

-- of 0, 10 and a call's refusals
rust_number : (octals : Octal) (call : Call)
    → is_one_of (number_of invalid_octal_escape) (0 ∷ numbers_told (out_of_place ∷ refusals octals call)) ≡ true
    → octals ≡ Octal.Rust
unfolding refusals octal_refusals is_one_of
rust_number Octal.Rust call e = refl
rust_number Octal.Manual Call.Step e = absurd (false≢true e)
rust_number Octal.Manual Call.Number e = absurd (false≢true e)
rust_number Octal.Manual Call.Single e = absurd (false≢true e)
rust_number Octal.Manual Call.Double e = absurd (false≢true e)

module _ (src : List ℕ) (end : ℕ) (session list pool answer : List ℕ) (r : ℕ) (session' list' pool' answer' : List ℕ)
    (three : r ≡ number_of invalid_octal_escape) where
  pub host_call_octal : (call : Call) → Answered call src end session list pool answer r session' list' pool' answer'
      → flag_of session ≡ 0
  host_call_octal call c =
      flag_unset (flag_of session)
      (rust_number (session_in session).choices.octals call
      (rw three at (host_call src end session list pool answer r session' list' pool' answer' call c).which))

  pub host_walk_octal : (most : ℕ) → Walked src end most session list pool answer r session' list' pool' answer'
      → flag_of session ≡ 0
  host_walk_octal most c =
      flag_unset (flag_of session)
      (rust_number (session_in session).choices.octals Call.Step
      (rw three at (host_walk src end session list pool answer r session' list' pool' answer' most c).which))

-- ---- the choices stay

pub host_choices : (call : Call) (src : List ℕ) (end most : ℕ) (session list pool answer : List ℕ) (r : ℕ)
    (session' list' pool' answer' : List ℕ) → are_long (length session) (length answer) ≡ true
    → Turns call src end most session list pool answer r session' list' pool' answer'
    → (session_in session').choices ≡ (session_in session).choices
host_choices call src end most session list pool answer r session' list' pool' answer' long c =
    ap (λ (s : Session). s.choices)
    (turns_cross src end session list pool answer r session' list' pool' answer' long call most c)
    ∙ called_on_choices call most src (announced end) (session_in session) list pool

-- ---- a host that chooses otherwise

pub session_chosen : (session : List ℕ) (number : ℕ) → 199 ≤ length session → are_choices (get_or session 6 0) ≡ true
    → are_choices number ≡ true
    → session_in (set session 6 number) ≡ with_choices (choices_in number) (session_in session)
unfolding depth_in
session_chosen [] number long x y = absurd (omega arith)
session_chosen (a ∷ []) number long x y = absurd (omega arith)
session_chosen (a ∷ b ∷ []) number long x y = absurd (omega arith)
session_chosen (a ∷ b ∷ c ∷ []) number long x y = absurd (omega arith)
session_chosen (a ∷ b ∷ c ∷ d ∷ []) number long x y = absurd (omega arith)
session_chosen (a ∷ b ∷ c ∷ d ∷ e ∷ []) number long x y = absurd (omega arith)
session_chosen (a ∷ b ∷ c ∷ d ∷ e ∷ f ∷ []) number long x y = absurd (omega arith)
session_chosen (a ∷ b ∷ c ∷ d ∷ e ∷ f ∷ g ∷ rest) number long x y = rw (x, y)

manual_flags : (c : ℕ) → c < 2 → choices_in (c + 2) ≡ choosing Octal.Manual (choices_in c)
unfolding octal_in reading_in
manual_flags zero low = refl
manual_flags (suc zero) low = refl
manual_flags (suc (suc c)) low = absurd (omega arith)

pub manual_chosen : (session : List ℕ) → 199 ≤ length session → get_or session 6 0 < 2
    → session_in (set session 6 (get_or session 6 0 + 2)) ≡ chosen Octal.Manual (session_in session)
manual_chosen session long low =
    let c = get_or session 6 0 in
    session_chosen session (c + 2) long (lt-ltb c 4 (omega arith)) (lt-ltb (c + 2) 4 (omega arith))
    ∙ ap (λ (choices : Choices). with_choices choices (session_in session)) (manual_flags c low)

pub choose_filled : (session list pool : List ℕ) (number : ℕ) → 199 ≤ length session
    → are_choices (get_or session 6 0) ≡ true → are_choices number ≡ true
    → Filled (session_in session) list pool → Filled (session_in (set session 6 number)) list pool
choose_filled session list pool number long x y f =
    rw (session_chosen session number long x y) (choose (choices_in number) f)

-- ---- both choices beside each other

-- a call of a host under the Rust's choice, and the same with the manual's in its session
module _ (call : Call) (src : List ℕ) (end most : ℕ) (session other list pool answer : List ℕ)
    (rust : (session_in session).choices.octals ≡ Octal.Rust)
    (manual : session_in other ≡ chosen Octal.Manual (session_in session))
    (long : are_long (length session) (length answer) ≡ true) (long₂ : are_long (length other) (length answer) ≡ true)
    (r : ℕ) (session' list' pool' answer' : List ℕ)
    (c : Turns call src end most session list pool answer r session' list' pool' answer')
    (r₂ : ℕ) (other' list₂ pool₂ answer₂ : List ℕ)
    (c₂ : Turns call src end most other list pool answer r₂ other' list₂ pool₂ answer₂) where
  abbrev all : Session → After
  all s = called_on call most src (announced end) s list pool

  abbrev count : Session → ℕ
  count s = calls_done call most src (announced end) s list pool

  pub host_chosen : (r ≡ number_of invalid_octal_escape → ⊥)
      → (r₂ ≡ r) × (session_in other' ≡ chosen Octal.Manual (session_in session')) × (list₂ ≡ list') × (pool₂ ≡ pool')
      × (answer₂ ≡ answer')
  unfolding refusal_by
  host_chosen other-number =
      let s = session_in session in
      let x = turns_stands src end session list pool answer r session' list' pool' answer' long call most c in
      let y = turns_stands src end other list pool answer r₂ other' list₂ pool₂ answer₂ long₂ call most c₂ in
      let told : (span : Span) → (all s).turn.answer ≡ Answer.Refused invalid_octal_escape span → ⊥ =
      λ span e. other-number (x.number ∙ ap refusal_in e) in
      let same = ap all manual ∙ called_on_chosen call most src (announced end) s rust list pool told in
      let as_many = ap count manual ∙ calls_done_chosen call most src (announced end) s rust list pool told in (
        y.number ∙ ap (λ (a : After). refusal_in a.turn.answer) same ∙ sym x.number,
        y.reads ∙ ap (λ (a : After). a.turn.session) same ∙ ap (chosen Octal.Manual) (sym x.reads),
        y.records ∙ ap (λ (a : After). a.list) same ∙ sym x.records,
        y.values ∙ ap (λ (a : After). a.pool) same ∙ sym x.values,
        y.tells
            ∙ ap (λ (a : After). laid answer 0
            (told_numbers (length answer) a.turn.answer (count (session_in other)))) same
            ∙ ap (λ (k : ℕ). laid answer 0 (told_numbers (length answer) (all s).turn.answer k)) as_many
            ∙ sym x.tells,
      )
