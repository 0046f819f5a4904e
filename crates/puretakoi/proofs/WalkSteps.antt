-- A walk in one call gives what its steps give, one call each. Assumes nothing.
--   Shows, stands_shows     what a host has after a call, but for the sixth number of the answer, which counts the
--                           calls
--   DoneSteps, steps_here   steps in a row that are all told done, and where they lead
--   walk_steps   a walk and its steps
use Rattle.std.specs.Prelude.{if◌then◌else◌}
use Prim.Native.Nat.{ℕ, ◌+◌, ◌-◌, ◌<◌}
use mathlib.Core.Path.{◌≡◌, refl, sym, ap, subst, ◌∙◌}
use mathlib.Core.Bool.{Bool, true, false}
use mathlib.Core.Logic.{◌⊎◌, inl, inr}
use mathlib.Core.List.{List, [], ◌∷◌, ◌++◌}
use native.Mathlib.Omega.{arith}
use lib.Dec.{leb}
use lib.ListN.{length, get_or, take}
use lib.Seq.{get_or-take}
use Rattle.byte.specs.Words.{announced}
use Rattle.byte.specs.Laid.{laid}
use Rattle.byte.specs.declared.Refusal.{Refusal}
use Rattle.state.specs.declared.Answer.{Answer}
use Rattle.outcome.specs.declared.Call.{Call}
use Rattle.lexer.specs.Turns.{After}
use Rattle.lexer.specs.Calls.{stepped}
use Rattle.demands.specs.Walks.{walked, called_on}
use Rattle.demands.proofs.Cuts.{Ended, walk_more}
use Rattle.demands.proofs.Steps.{walked_next}
use Rattle.walk.proofs.Walks.{walked_some}
use Rattle.layout.specs.Sessions.{session_in}
use Rattle.layout.specs.Answers.{answer_by, answer_numbers, refusal_in}
use Rattle.puretakoi.specs.Calls.{are_long, told_numbers, Answered, Walked}
use Rattle.puretakoi.proofs.Chain.{Stands, turns_stands, reading_stands, turns_size}

-- what a host has after a call stands for what the call gives
pub record Shows (a : After) (r : ℕ) (session' list' pool' answer' : List ℕ) : Type 0 where
  pub number : r ≡ refusal_in a.turn.answer
  pub reads : session_in session' ≡ a.turn.session
  pub tells : take 5 answer' ≡ answer_numbers a.turn.answer
  pub records : list' ≡ a.list
  pub values : pool' ≡ a.pool

first_five : (answer : List ℕ) (t : Bool) (a : Answer Refusal) (done : ℕ)
    → take 5 (laid answer 0 (if t then answer_numbers a ++ (done ∷ []) else answer_numbers a)) ≡ answer_numbers a
unfolding laid answer_by
first_five answer true Answer.Done done = refl
first_five answer true Answer.Finished done = refl
first_five answer true (Answer.Refused refusal span) done = refl
first_five answer false Answer.Done done = refl
first_five answer false Answer.Finished done = refl
first_five answer false (Answer.Refused refusal span) done = refl

pub stands_shows : (a : After) (done : ℕ) (answer : List ℕ) (r : ℕ) (session' list' pool' answer' : List ℕ)
    → Stands a done answer r session' list' pool' answer' → Shows a r session' list' pool' answer'
unfolding told_numbers
stands_shows a done answer r session' list' pool' answer' s =
    record {
      number = s.number;
      reads = s.reads;
      tells = ap (take 5) s.tells ∙ first_five answer (leb 6 (length answer)) a.turn.answer done;
      records = s.records;
      values = s.values;
    }

shows_one : (a : After) (r r' : ℕ) (s s' l l' q q' t t' : List ℕ) → Shows a r s l q t → Shows a r' s' l' q' t'
    → (r ≡ r') × (session_in s ≡ session_in s') × (l ≡ l') × (q ≡ q') × (take 5 t ≡ take 5 t')
shows_one a r r' s s' l l' q q' t t' x y = (
  x.number ∙ sym y.number,
  x.reads ∙ sym y.reads,
  x.records ∙ sym y.records,
  x.values ∙ sym y.values,
  x.tells ∙ sym y.tells,
)

-- n steps in a row that are all told done (the answer's first number is 0), from a session, list and pool to others
pub data DoneSteps (src : List ℕ) (end : ℕ) (session list pool : List ℕ) : ℕ → List ℕ → List ℕ → List ℕ → Type 0 where
  none : DoneSteps src end session list pool 0 session list pool
  more : {n : ℕ} {s l q : List ℕ} → DoneSteps src end session list pool n s l q → (answer : List ℕ) (r : ℕ)
      (s' l' q' answer' : List ℕ) → are_long (length s) (length answer) ≡ true
      → Answered Call.Step src end s l q answer r s' l' q' answer' → get_or answer' 0 0 ≡ 0
      → DoneSteps src end session list pool (n + 1) s' l' q'

-- the first number of an answer
first_number : (answer : List ℕ) (a : Answer Refusal) → take 5 answer ≡ answer_numbers a → get_or answer 0 0 ≡ get_or (answer_numbers a) 0 0
first_number answer a e = sym (get_or-take 5 answer 0 0 (omega arith)) ∙ ap (λ (l : List ℕ). get_or l 0 0) e

done_told : (a : Answer Refusal) → get_or (answer_numbers a) 0 0 ≡ 0 → a ≡ Answer.Done
unfolding answer_by
done_told Answer.Done e = refl
done_told Answer.Finished e = absurd (omega (arith, e))
done_told (Answer.Refused refusal span) e = absurd (omega (arith, e))

ended : (a : Answer Refusal) → (get_or (answer_numbers a) 0 0 ≡ 0 → ⊥) → Ended a
unfolding answer_by
ended Answer.Done h = h refl
ended Answer.Finished h = tt
ended (Answer.Refused refusal span) h = tt

module _ (src : List ℕ) (end : ℕ) (session list pool : List ℕ) where
  abbrev after : ℕ → After
  after n = walked n src (announced end) (session_in session) list pool

  -- a session, list and pool stand where a walk is done
  pub record Here (n : ℕ) (s l q : List ℕ) : Type 0 where
    pub size : length s ≡ length session
    pub done : (after n).turn.answer ≡ Answer.Done
    pub reads : session_in s ≡ (after n).turn.session
    pub records : l ≡ (after n).list
    pub values : q ≡ (after n).pool

  -- one step more, with any answer
  step_more : (n : ℕ) (s l q : List ℕ) → Here n s l q → (answer : List ℕ) (r : ℕ) (s' l' q' answer' : List ℕ)
      → are_long (length s) (length answer) ≡ true → Answered Call.Step src end s l q answer r s' l' q' answer'
      → Shows (after (n + 1)) r s' l' q' answer'
  step_more n s l q h answer r s' l' q' answer' long c =
      let shows : Shows (stepped src (announced end) (session_in s) l q) r s' l' q' answer' =
      stands_shows _ _ answer r s' l' q' answer' (reading_stands src end s l q answer r s' l' q' answer' long Call.Step c) in
      let on = walked_next src (announced end) n (session_in session) list pool h.done in
      rw (on, ← h.reads, ← h.records, ← h.values) shows

  pub steps_here : (n : ℕ) (s l q : List ℕ) → DoneSteps src end session list pool n s l q → Here n s l q
  unfolding walked
  steps_here _ _ _ _ none = record { size = refl; done = refl; reads = refl; records = refl; values = refl }
  steps_here _ _ _ _ (more {n} {s} {l} {q} before answer r s' l' q' answer' long c d) =
      let h = steps_here n s l q before in
      let shows = step_more n s l q h answer r s' l' q' answer' long c in
      record {
        size = turns_size 1 _ _ _ s l q answer r s' l' q' answer' c ∙ h.size;
        done = done_told _ (sym (first_number answer' _ shows.tells) ∙ d);
        reads = shows.reads;
        records = shows.records;
        values = shows.values;
      }

  -- n steps are done, and one more is the last that is wanted, or is not done
  module _ (answer : List ℕ) (long : are_long (length session) (length answer) ≡ true) (n : ℕ) (s l q : List ℕ)
      (before : DoneSteps src end session list pool n s l q) (r : ℕ) (s' l' q' answer' : List ℕ)
      (c : Answered Call.Step src end s l q answer r s' l' q' answer') where
    steps_show : Shows (after (n + 1)) r s' l' q' answer'
    steps_show =
        let h = steps_here n s l q before in
        step_more n s l q h answer r s' l' q' answer' (rw h.size long) c

    steps_all : (most : ℕ) → n < most → (most ≡ n + 1) ⊎ (get_or answer' 0 0 ≡ 0 → ⊥) → after most ≡ after (n + 1)
    steps_all most less (inl e) = rw e
    steps_all most less (inr h) =
        let split : n + 1 + (most - (n + 1)) ≡ most = omega (arith, less) in
        rw split at
        (walk_more (n + 1) (most - (n + 1)) src (announced end) (session_in session) list pool
        (ended _ (λ z. h (first_number answer' _ steps_show.tells ∙ z))))

    pub walk_steps : (most : ℕ) → n < most → (most ≡ n + 1) ⊎ (get_or answer' 0 0 ≡ 0 → ⊥) → (r₂ : ℕ)
        (session₂ list₂ pool₂ answer₂ : List ℕ)
        → Walked src end most session list pool answer r₂ session₂ list₂ pool₂ answer₂
        → (r₂ ≡ r) × (session_in session₂ ≡ session_in s') × (list₂ ≡ l') × (pool₂ ≡ q') × (take 5 answer₂ ≡ take 5 answer')
    walk_steps most less why r₂ session₂ list₂ pool₂ answer₂ w =
        let x =
        stands_shows _ _ answer r₂ session₂ list₂ pool₂ answer₂
        (turns_stands src end session list pool answer r₂ session₂ list₂ pool₂ answer₂ long Call.Step most w) in
        let all : called_on Call.Step most src (announced end) (session_in session) list pool ≡ after (n + 1) =
        walked_some src (announced end) (session_in session) list pool most (omega (arith, less))
        ∙ steps_all most less why in
        shows_one (after (n + 1)) r₂ r session₂ s' list₂ l' pool₂ q' answer₂ answer'
        (subst (λ (a : After). Shows a r₂ session₂ list₂ pool₂ answer₂) all x) steps_show
