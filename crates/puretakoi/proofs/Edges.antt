-- Where the step ended that wrote a record, over the host's own numbers. Assumes nothing.
--   host_call_edges   each record that a step or a reading wrote ends at the session's position after it
--   host_walk_edges   each record that a walk wrote ends where its own step did; list and pool are those of the steps
use Prim.Native.Nat.{ℕ, zero, suc, ◌+◌, ◌*◌, ◌≤◌, ◌<◌}
use mathlib.Core.Path.{◌≡◌, refl, sym, ap, subst, ◌∙◌}
use mathlib.Core.Bool.{Bool, true}
use mathlib.Core.List.{List}
use native.Mathlib.Omega.{arith}
use lib.ListN.{length, get_or}
use Rattle.byte.specs.Words.{announced}
use Rattle.state.specs.declared.Session.{Session}
use Rattle.state.specs.Gates.{lent_refusal}
use Rattle.token.specs.Records.{token_in}
use Rattle.outcome.specs.declared.Call.{Call}
use Rattle.lexer.specs.Turns.{After}
use Rattle.lexer.specs.Calls.{called}
use Rattle.lexer.proofs.Nexts.{shut_cases}
use Rattle.demands.specs.Walks.{walked, called_on}
use Rattle.demands.specs.Edges.{Literally, IsNew, StepOf}
use Rattle.demands.proofs.Choices.{call_choices}
use Rattle.demands.proofs.Edges.{call_new}
use Rattle.demands.proofs.EdgeLists.{walk_new}
use Rattle.layout.specs.Sessions.{session_in}
use Rattle.puretakoi.specs.Calls.{are_long, Answered, Walked}
use Rattle.puretakoi.proofs.Chain.{Stands, turns_stands, reading_stands}

-- where none is wanted nothing is written
called_on_none : (src : List ℕ) (end : Bool) (s : Session) (l q : List ℕ) (i : ℕ)
    → IsNew s (called_on Call.Step 0 src end s l q) i → ⊥
unfolding called_on
called_on_none src end s l q i =
    shut_cases (λ (a : After). IsNew s a i → ⊥) (lent_refusal src (length l) (length q) s) s l q _
    (λ e new. omega (arith, new.0, new.1)) (λ refusal e new. omega (arith, new.0, new.1))

called_on_walk : (n : ℕ) (src : List ℕ) (end : Bool) (s : Session) (l q : List ℕ)
    → called_on Call.Step (suc n) src end s l q ≡ walked (suc n) src end s l q
unfolding called_on walked
called_on_walk n src end s l q = refl

module _ (src : List ℕ) (end : ℕ) (session list pool answer : List ℕ) (r : ℕ) (session' list' pool' answer' : List ℕ)
    (long : are_long (length session) (length answer) ≡ true) (i : ℕ) (low : get_or session 4 0 ≤ i)
    (high : i < get_or session' 4 0) where
  -- the end, the length, and the source's bytes of the record with this number
  pub host_call_edges : (c : Call) → Answered c src end session list pool answer r session' list' pool' answer'
      → (get_or list' (i * 8 + 7) 0 ≡ get_or session' 0 0)
      × (0 < get_or list' (i * 8 + 6) 0 → 0 < get_or list' (i * 8 + 7) 0)
      × Literally c (session_in session).choices.octals src pool' (token_in list' i)
  host_call_edges c t =
      let a = called c src (announced end) (session_in session) list pool in
      let s = reading_stands src end session list pool answer r session' list' pool' answer' long c t in
      let count : get_or session' 4 0 ≡ a.turn.session.tokens = ap (λ (x : Session). x.tokens) s.reads in
      let there : get_or session' 0 0 ≡ a.turn.session.position = ap (λ (x : Session). x.position) s.reads in
      let new = call_new c src (session_in session) list pool (announced end) i (low, omega (arith, high, count)) in
      let own = call_choices c src (announced end) (session_in session) list pool in
      rw (s.records, s.values) (new.ends ∙ sym there, new.stated, rw own at new.written)

  pub host_walk_edges : (most : ℕ) → Walked src end most session list pool answer r session' list' pool' answer'
      → (list' ≡ (walked most src (announced end) (session_in session) list pool).list)
      × (pool' ≡ (walked most src (announced end) (session_in session) list pool).pool)
      × StepOf most src (announced end) (session_in session) list pool i
  host_walk_edges most w =
      go most
      (turns_stands src end session list pool answer r session' list' pool' answer' long Call.Step most w)
    where
      go : (n : ℕ) {done : ℕ}
          → Stands (called_on Call.Step n src (announced end) (session_in session) list pool) done answer r session' list'
          pool' answer'
          → (list' ≡ (walked n src (announced end) (session_in session) list pool).list)
          × (pool' ≡ (walked n src (announced end) (session_in session) list pool).pool)
          × StepOf n src (announced end) (session_in session) list pool i
      go zero s =
          let count = ap (λ (x : Session). x.tokens) s.reads in
          absurd (called_on_none src (announced end) (session_in session) list pool i (low, omega (arith, high, count)))
      go (suc n) s =
          let same = called_on_walk n src (announced end) (session_in session) list pool in
          let count = ap (λ (x : Session). x.tokens) s.reads in
          let new : IsNew (session_in session) (walked (suc n) src (announced end) (session_in session) list pool) i =
          subst (λ (a : After). IsNew (session_in session) a i) same (low, omega (arith, high, count)) in (
            s.records ∙ ap (λ (a : After). a.list) same,
            s.values ∙ ap (λ (a : After). a.pool) same,
            walk_new src (announced end) (suc n) (session_in session) list pool i new,
          )
