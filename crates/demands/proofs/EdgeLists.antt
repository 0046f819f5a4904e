-- Where the steps ended that filled a list. Assumes nothing.
--   call_grows, walk_grows   records and value bytes that stood before a call, or a walk, stand after it
--   filled_edges             in a list that was filled from empty ends never fall
--   walk_new                 each record that a walk writes ends where its own step did
--   cuts_new                 so does each record of a script in parts: as in a walk over the uncut script
use Prim.Native.Nat.{ℕ, zero, suc, ◌+◌, ◌*◌, ◌≤◌, ◌<◌}
use mathlib.Core.Path.{◌≡◌, refl, sym, ap, subst, ◌∙◌}
use mathlib.Core.Bool.{Bool, true, false}
use mathlib.Core.List.{List, []}
use native.Mathlib.Omega.{arith}
use lib.Dec.{leb}
use lib.ListN.{length, take, drop}
use borrow.Author.Tests.{leb-true, leb-false}
use Rattle.byte.specs.declared.Octal.{Octal}
use Rattle.byte.specs.Demand.{is_byte}
use Rattle.byte.specs.Words.{every}
use Rattle.byte.specs.declared.Refusal.{Refusal}
use Rattle.state.specs.declared.Answer.{Answer}
use Rattle.state.specs.declared.Choices.{Choices}
use Rattle.state.specs.declared.Session.{Session}
use Rattle.state.specs.declared.Turn.{Turn}
use Rattle.state.specs.Calls.{fresh_session}
use Rattle.state.specs.Gates.{tables_fit}
use Rattle.state.proofs.Kept.{Stays, skip_stays, push_stays, pop_stays}
use Rattle.token.specs.declared.Token.{Token}
use Rattle.token.specs.Records.{token_in}
use Rattle.token.proofs.Tokens.{token_in_same}
use Rattle.outcome.specs.declared.Call.{Call}
use Rattle.outcome.specs.Steps.{call_outcome}
use Rattle.outcome.specs.Written.{AsWritten}
use Rattle.outcome.proofs.StepWays.{call_inside}
use Rattle.lexer.specs.Turns.{After}
use Rattle.lexer.specs.Calls.{called, stepped}
use Rattle.lexer.proofs.Nexts.{written, settled_cases}
use Rattle.demands.specs.Walks.{gone_on, walked, joined, fed}
use Rattle.demands.specs.Filled.{Filled, empty, call, lend, choose, skip, push, pop}
use Rattle.demands.specs.Edges.{value_in, written_in, IsNew, Literally, IsOnward, IsStated, NewToken, Edges}
use Rattle.demands.specs.Edges.{StepOf}
use Rattle.demands.proofs.Rising.{drop-take, go_on_either}
use Rattle.demands.proofs.Ends.{cuts_whole}
use Rattle.demands.proofs.Refusals.{called_cases}
use Rattle.demands.proofs.Narrow.{settled_narrow}
use Rattle.demands.proofs.Taken.{Grows, grows_none, grows_both, written_grows, take_less}
use Rattle.demands.proofs.Choices.{call_choices}
use Rattle.demands.proofs.Edges.{call_new}

-- ---- what stood before stands

module _ (src : List ℕ) (s : Session) (l q : List ℕ) where
  pub call_grows : (c : Call) (end : Bool) → Grows s l q (called c src end s l q)
  call_grows c end =
      called_cases c src end s l q (Grows s l q)
      (λ h.
      settled_cases src s l q (λ o a. Grows s l q a)
      (λ pieces after change finished e. written_grows src s l q pieces after change finished e)
      (λ pieces after change finished refusal e. grows_none s l q _) (λ refusal place. grows_none s l q _)
      (grows_none s l q _) (call_outcome c src end s))
      (λ number e. grows_none s l q _)

  call_onward : (c : Call) (end : Bool) → s.position ≤ (called c src end s l q).turn.session.position
  call_onward c end =
      called_cases c src end s l q (λ (a : After). s.position ≤ a.turn.session.position)
      (λ h. (settled_narrow src s l q h (call_outcome c src end s) (call_inside c src end s h)).forward)
      (λ number e. omega arith)

pub walk_grows : (n : ℕ) (src : List ℕ) (end : Bool) (s : Session) (l q : List ℕ)
    → Grows s l q (walked n src end s l q)
unfolding walked
walk_grows zero src end s l q = grows_none s l q Answer.Done
walk_grows (suc n) src end s l q =
    let now = stepped src end s l q in
    let first = call_grows src s l q Call.Step end in
    go_on_either (Grows s l q) now.turn.answer now _ first
    (grows_both first (walk_grows n src end now.turn.session now.list now.pool))

-- a token's record and its value are as they were
module _ {s : Session} {l q : List ℕ} {a : After} (g : Grows s l q a) where
  grows_token : (i : ℕ) → i < s.tokens → token_in a.list i ≡ token_in l i
  grows_token i h = token_in_same s.tokens i a.list l h g.list

  grows_value : (t : Token) → t.start + t.len ≤ s.bytes → value_in a.pool t ≡ value_in q t
  grows_value t h =
      sym (drop-take t.start t.len a.pool)
      ∙ ap (drop t.start) (take_less (t.start + t.len) s.bytes a.pool q h g.pool)
      ∙ drop-take t.start t.len q

-- ---- lists that were filled

-- before a mark, or from it on
side : (m i : ℕ) {P : Type 0} → (i < m → P) → (m ≤ i → P) → P
side m i {P} low high = go (leb m i) refl
  where
    go : (t : Bool) → leb m i ≡ t → P
    go true e = high (leb-true m i e)
    go false e = low (leb-false m i e)

end_same : {t u : Token} → t ≡ u → t.end ≡ u.end
end_same e = ap (λ (t : Token). t.end) e

call_edges : (c : Call) (src : List ℕ) (end : Bool) (s : Session) (l q : List ℕ) → Edges l s
    → Edges (called c src end s l q).list (called c src end s l q).turn.session
call_edges c src end s l q e =
    go (called c src end s l q) (call_grows src s l q c end) (call_onward src s l q c end) (call_new c src s l q end)
  where
    go : (a : After) → Grows s l q a → s.position ≤ a.turn.session.position → ((i : ℕ) → IsNew s a i → NewToken c src a (token_in a.list i))
        → Edges a.list a.turn.session
    go a g onward new = record {
      rising = λ i j h k.
          side s.tokens j
          (λ old.
          let first = end_same (grows_token g i (omega (arith, old, h))) in
          omega (arith, first, end_same (grows_token g j old), e.rising i j h old))
          (λ fresh.
          let after = (new j (fresh, k)).ends in
          side s.tokens i
          (λ old. omega (arith, end_same (grows_token g i old), after, e.last i old, onward))
          (λ both. omega (arith, after, (new i (both, omega (arith, h, k))).ends)));
      last = λ i h.
          side s.tokens i (λ old. omega (arith, end_same (grows_token g i old), e.last i old, onward))
          (λ fresh. omega (arith, (new i (fresh, h)).ends));
      onward = λ i h.
          side s.tokens i (λ old. subst IsOnward (sym (grows_token g i old)) (e.onward i old))
          (λ fresh. (new i (fresh, h)).onward);
      stated = λ i h.
          side s.tokens i (λ old. subst IsStated (sym (grows_token g i old)) (e.stated i old))
          (λ fresh. (new i (fresh, h)).stated);
    }

-- another list with the same records up to the mark, and a cursor that goes on
kept_edges : (s t : Session) (l l' : List ℕ) → t.tokens ≡ s.tokens → s.position ≤ t.position
    → take (s.tokens * 8) l' ≡ take (s.tokens * 8) l → Edges l s → Edges l' t
kept_edges s t l l' count onward e x =
    let same : (i : ℕ) → i < t.tokens → token_in l' i ≡ token_in l i =
    λ i h. token_in_same s.tokens i l' l (omega (arith, h, count)) e in
    record {
      rising = λ i j h k.
          let first = end_same (same i (omega (arith, h, k))) in
          omega (arith, first, end_same (same j k), x.rising i j h (omega (arith, k, count)));
      last = λ i h. omega (arith, end_same (same i h), x.last i (omega (arith, h, count)), onward);
      onward = λ i h. subst IsOnward (sym (same i h)) (x.onward i (omega (arith, h, count)));
      stated = λ i h. subst IsStated (sym (same i h)) (x.stated i (omega (arith, h, count)));
    }

stays_edges : (src : List ℕ) (s : Session) (l : List ℕ) (t : Turn Refusal) → Stays src s t → Edges l s → Edges l t.session
stays_edges src s l t k = kept_edges s t.session l l k.tokens k.onward refl

pub filled_edges : (s : Session) (l q : List ℕ) → Filled s l q → Edges l s
filled_edges s l q (empty e) = record {
  rising = λ i j h k. absurd (omega (arith, k, e));
  last = λ i h. absurd (omega (arith, h, e));
  onward = λ i h. absurd (omega (arith, h, e));
  stated = λ i h. absurd (omega (arith, h, e));
}
filled_edges s l q (call {s = t} {list = m} {pool = p} c src end f) =
    call_edges c src end t m p (filled_edges t m p f)
filled_edges s l q (lend {list = m} {pool = p} l' q' e f) =
    kept_edges s s m l refl (omega arith) e (filled_edges s m p f)
filled_edges s l q (choose {s = t} choices f) =
    kept_edges t s l l refl (omega arith) refl (filled_edges t l q f)
filled_edges s l q (skip {s = t} src count f) = stays_edges src t l _ (skip_stays src t count) (filled_edges t l q f)
filled_edges s l q (push {s = t} src frame f) = stays_edges src t l _ (push_stays src t frame) (filled_edges t l q f)
filled_edges s l q (pop {s = t} src f) = stays_edges src t l _ (pop_stays src t) (filled_edges t l q f)

-- ---- walks

module _ (src : List ℕ) (end : Bool) where
  -- the walk after a step
  abbrev after : ℕ → Session → List ℕ → List ℕ → After
  after n s l q =
      let now = stepped src end s l q in
      walked n src end now.turn.session now.list now.pool

  -- what a record is in the end, after a walk that ends as `a`, of a step that ended at a place
  record Ending (octals : Octal) (i place : ℕ) (a : After) : Type 0 where
    ends : (token_in a.list i).end ≡ place
    onward : IsOnward (token_in a.list i)
    stated : IsStated (token_in a.list i)
    written : Literally Call.Step octals src a.pool (token_in a.list i)

  -- of the first step, whatever is written after it
  first_ending : (s : Session) (l q : List ℕ) (i : ℕ) (a : After)
      → Grows (stepped src end s l q).turn.session (stepped src end s l q).list (stepped src end s l q).pool a
      → IsNew s (stepped src end s l q) i
      → Ending s.choices.octals i (stepped src end s l q).turn.session.position a
  first_ending s l q i a g new =
      let t = token_in (stepped src end s l q).list i in
      let here = call_new Call.Step src s l q end i new in
      let own = call_choices Call.Step src end s l q in
      let same : token_in a.list i ≡ t = grows_token g i new.1 in
      let literal : Literally Call.Step s.choices.octals src a.pool t =
      λ f.
      subst (λ (v : List ℕ). AsWritten Call.Step s.choices.octals t.kind v (written_in src t))
      (sym (grows_value g t here.inside))
      (rw own at (here.written f)) in
      record {
        ends = end_same same ∙ here.ends;
        onward = subst IsOnward (sym same) here.onward;
        stated = subst IsStated (sym same) here.stated;
        written = subst (Literally Call.Step s.choices.octals src a.pool) (sym same) literal;
      }

  -- a step and what the walk after it is known to do
  step_new : (n : ℕ) (s : Session) (l q : List ℕ) (i : ℕ)
      → (IsNew (stepped src end s l q).turn.session (after n s l q) i
      → StepOf n src end (stepped src end s l q).turn.session (stepped src end s l q).list
      (stepped src end s l q).pool i)
      → IsNew s (walked (suc n) src end s l q) i → StepOf (suc n) src end s l q i
  unfolding walked gone_on
  step_new n s l q i later new = go now.turn.answer refl
    where
      now : After
      now = stepped src end s l q

      -- nothing comes after the step
      alone : Ending s.choices.octals i now.turn.session.position now → now ≡ walked (suc n) src end s l q
          → now ≡ walked 1 src end s l q → StepOf (suc n) src end s l q i
      alone x e one = record {
        steps = 0;
        fewer = omega arith;
        before = new.0;
        within = subst (λ (a : After). i < a.turn.session.tokens) (sym e ∙ one) new.1;
        ends =
            subst (λ (a : After). (token_in a.list i).end ≡ now.turn.session.position) e x.ends
            ∙ ap (λ (a : After). a.turn.session.position) one;
        onward = subst (λ (a : After). IsOnward (token_in a.list i)) e x.onward;
        stated = subst (λ (a : After). IsStated (token_in a.list i)) e x.stated;
        written =
            subst (λ (a : After). Literally Call.Step s.choices.octals src a.pool (token_in a.list i)) e
            x.written;
      }

      go : (answer : Answer Refusal) → now.turn.answer ≡ answer → StepOf (suc n) src end s l q i
      go Answer.Done e =
          side now.turn.session.tokens i
          (λ old.
          let x = first_ending s l q i (after n s l q) (walk_grows n src end _ _ _) (new.0, old) in
          record {
            steps = 0;
            fewer = omega arith;
            before = new.0;
            within = rw e old;
            ends = rw e x.ends;
            onward = rw e x.onward;
            stated = rw e x.stated;
            written = rw e x.written;
          })
          (λ fresh.
          let r = later (fresh, rw e at new.1) in
          record {
            steps = suc r.steps;
            fewer = omega (arith, r.fewer);
            before = rw e r.before;
            within = rw e r.within;
            ends = rw e r.ends;
            onward = rw e r.onward;
            stated = rw e r.stated;
            written = rw e (rw (call_choices Call.Step src end s l q) at r.written);
          })
      go Answer.Finished e =
          alone (first_ending s l q i now (grows_none _ _ _ _) (new.0, rw e at new.1)) (rw e) (rw e)
      go (Answer.Refused refusal span) e =
          alone (first_ending s l q i now (grows_none _ _ _ _) (new.0, rw e at new.1)) (rw e) (rw e)

  pub walk_new : (n : ℕ) (s : Session) (l q : List ℕ) (i : ℕ) → IsNew s (walked n src end s l q) i
      → StepOf n src end s l q i
  unfolding walked
  walk_new zero s l q i new = absurd (omega (arith, new.0, new.1))
  walk_new (suc n) s l q i new =
      let now = stepped src end s l q in
      step_new n s l q i (walk_new n now.turn.session now.list now.pool i) new

-- ---- a script in parts

pub cuts_new : (n : ℕ) (parts : List (List ℕ)) (choices : Choices) (l q : List ℕ)
    → every is_byte (joined [] parts) ≡ true → length (joined [] parts) ≤ 65536
    → tables_fit (length l) (length q) ≡ true → 2 * length (joined [] parts) + 1 < n
    → (i : ℕ) → IsNew (fresh_session choices) (fed n [] parts (fresh_session choices) l q) i
    → (fed n [] parts (fresh_session choices) l q ≡ walked n (joined [] parts) true (fresh_session choices) l q)
    × StepOf n (joined [] parts) true (fresh_session choices) l q i
cuts_new n parts choices l q bytes short fit enough i new =
    let whole = cuts_whole n parts choices l q bytes short fit enough in
    (whole, walk_new (joined [] parts) true n (fresh_session choices) l q i (rw whole at new))
