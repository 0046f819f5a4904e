-- What a host can rely on, beyond what each call says. Assumes nothing.
--   call_refused                        a call that is refused leaves session, list and pool as they were
--   walk_still                          a walk of no step, or whose first step is refused, leaves session, list and
--                                       pool as they were
--   crossed_one, begun_one, filed_one   two results that meet one statement are equal
--   walked_one   and of a walk or one call, all but the numbers of the session, which stand for
--                the same session
-- That reading what was written gives the session again, and that numbers which are no session are refused, is proved in crate layout.
use Rattle.std.specs.Prelude.{Result}
use Prim.Native.Nat.{ℕ}
use mathlib.Core.Path.{◌≡◌, refl, sym, ap, ◌∙◌}
use mathlib.Core.Bool.{Bool, true, false, ◌&&◌}
use mathlib.Core.Logic.{◌⊎◌, inl, inr}
use mathlib.Core.List.{List}
use lib.ListN.{length}
use Rattle.byte.specs.declared.Refusal.{Refusal}
use Rattle.state.specs.declared.Answer.{Answer}
use Rattle.state.specs.declared.Turn.{Turn}
use Rattle.outcome.specs.declared.Call.{Call}
use Rattle.lexer.specs.Turns.{After}
use Rattle.lexer.specs.Calls.{called, stepped}
use Rattle.demands.specs.Walks.{called_on, calls_done}
use Rattle.walk.specs.Walks.{is_written}
use Rattle.walk.proofs.Walks.{called_on_one, is_written_refused}
use Rattle.walk.proofs.Values.{unwritten}
use Rattle.layout.specs.Sessions.{session_in}
use Rattle.layout.specs.Answers.{refusal_by, refusal_in, is_unrefused}
use Rattle.puretakoi.specs.Calls.{are_long, Crossed, WalkCalled, Begun, FiledBy}

-- a number that is not 0 is a refusal's
refused_told : (a : Answer Refusal) → (refusal_in a ≡ 0 → ⊥) → is_unrefused a ≡ false
unfolding refusal_by
refused_told Answer.Done h = absurd (h refl)
refused_told Answer.Finished h = absurd (h refl)
refused_told (Answer.Refused refusal span) h = refl

-- a call and the steps after it leave session, list and pool as they were
module _ (most : ℕ) (first a : After) (done : ℕ) (session list pool answer : List ℕ) (r : ℕ)
    (session' list' pool' answer' : List ℕ)
    (c : WalkCalled most first a done session list pool answer r session' list' pool' answer') where
  still : (are_long (length session) (length answer) ≡ true → (is_written most first ≡ false) × (a.list ≡ list) × (a.pool ≡ pool))
      → (session' ≡ session) × (list' ≡ list) × (pool' ≡ pool)
  still h = go (are_long (length session) (length answer)) refl
    where
      go : (long : Bool) → are_long (length session) (length answer) ≡ long
          → (session' ≡ session) × (list' ≡ list) × (pool' ≡ pool)
      go false e = (c.stays (rw e), c.records ∙ rw e, c.values ∙ rw e)
      go true e = let k = h e in (c.stays (rw e k.0), c.records ∙ rw e k.1, c.values ∙ rw e k.2)

module _ (src : List ℕ) (end : Bool) (session list pool answer : List ℕ) (r : ℕ)
    (session' list' pool' answer' : List ℕ) where
  pub call_refused : (call : Call)
      → WalkCalled 1 (called call src end (session_in session) list pool) (called call src end (session_in session) list pool)
      (calls_done call 1 src end (session_in session) list pool) session list pool answer r session' list' pool' answer'
      → (r ≡ 0 → ⊥) → (session' ≡ session) × (list' ≡ list) × (pool' ≡ pool)
  call_refused call c h =
      let one = called call src end (session_in session) list pool in
      still 1 one one _ session list pool answer r session' list' pool' answer' c (λ e.
      let written = is_written_refused 1 one (refused_told one.turn.answer (λ z. h (c.number ∙ rw e z))) in
      let same = unwritten call src end (session_in session) list pool 1 written in
      let alone = called_on_one call src end (session_in session) list pool in
      (written, rw alone at same.1, rw alone at same.2))

  -- a walk that stands still: no step is wanted, or the first is refused
  module _ (most : ℕ) where
    abbrev first : After
    first = stepped src end (session_in session) list pool

    abbrev all : After
    all = called_on Call.Step most src end (session_in session) list pool

    pub walk_still : (most ≡ 0) ⊎ (refusal_in first.turn.answer ≡ 0 → ⊥)
        → WalkCalled most first all (calls_done Call.Step most src end (session_in session) list pool) session list pool answer r
        session' list' pool' answer'
        → (session' ≡ session) × (list' ≡ list) × (pool' ≡ pool)
    unfolding is_written
    walk_still why c =
        let same = unwritten Call.Step src end (session_in session) list pool most (written why) in
        still most first all _ session list pool answer r session' list' pool' answer' c
        (λ e. (written why, same.1, same.2))
      where
        written : (most ≡ 0) ⊎ (refusal_in first.turn.answer ≡ 0 → ⊥) → is_written most first ≡ false
        written (inl z) = rw z
        written (inr h) = is_written_refused most first (refused_told first.turn.answer h)

pub crossed_one : (t : Turn Refusal) (session answer : List ℕ) (r r' : ℕ) (s s' a a' : List ℕ) → Crossed t session answer r s a
    → Crossed t session answer r' s' a' → (r ≡ r') × (s ≡ s') × (a ≡ a')
crossed_one t session answer r r' s s' a a' x y = (x.number ∙ sym y.number, x.holds ∙ sym y.holds, x.tells ∙ sym y.tells)

-- the numbers of a session may differ where they stand for the same: in a slot that was changed back
pub walked_one : (most : ℕ) (first a : After) (done : ℕ) (session list pool answer : List ℕ) (r r' : ℕ)
    (s s' l l' q q' t t' : List ℕ)
    → WalkCalled most first a done session list pool answer r s l q t
    → WalkCalled most first a done session list pool answer r' s' l' q' t'
    → (r ≡ r') × (session_in s ≡ session_in s') × (l ≡ l') × (q ≡ q') × (t ≡ t')
walked_one most first a done session list pool answer r r' s s' l l' q q' t t' x y = (
  x.number ∙ sym y.number,
  go (are_long (length session) (length answer) && is_written most first) refl,
  x.records ∙ sym y.records,
  x.values ∙ sym y.values,
  x.tells ∙ sym y.tells,
)
  where
    go : (b : Bool) → (are_long (length session) (length answer) && is_written most first) ≡ b
        → session_in s ≡ session_in s'
    go true e = (x.holds e).reads ∙ sym (y.holds e).reads
    go false e = ap session_in (x.stays e ∙ sym (y.stays e))

pub begun_one : (choices : ℕ) (session : List ℕ) (r r' : ℕ) (s s' : List ℕ) → Begun choices session r s
    → Begun choices session r' s'
    → (r ≡ r') × (s ≡ s')
begun_one choices session r r' s s' x y = (x.number ∙ sym y.number, x.holds ∙ sym y.holds)

pub filed_one : {R : Type 0} (number_of : R → ℕ) (refusal : Result (Unit {0}) R) (lent values : List ℕ) (r r' : ℕ) (l l' : List ℕ)
    → FiledBy number_of refusal lent values r l
    → FiledBy number_of refusal lent values r' l'
    → (r ≡ r') × (l ≡ l')
filed_one number_of refusal lent values r r' l l' x y = (x.number ∙ sym y.number, x.holds ∙ sym y.holds)
