-- Positions of records never fall: a step writes its records from the cursor on, and the cursor never goes back. Assumes nothing.
--   call_rising     where the records before have positions up to the cursor, so have the records after, up to the
--                   cursor after
--   walk_rising     so after any number of steps
--   empty_ordered   and from an empty list on
--   lent_ordered    another list with the same records keeps it
--   stays_rising   so do skip, push and pop
use Prim.Native.Nat.{ℕ, zero, suc, ◌+◌, ◌-◌, ◌*◌, ◌/◌, ◌≤◌}
use mathlib.Core.Path.{◌≡◌, refl, sym, ap, ◌∙◌}
use mathlib.Core.Bool.{Bool}
use mathlib.Core.List.{List, [], ◌∷◌, ◌++◌, append_assoc}
use native.Mathlib.Omega.{arith}
use native.Mathlib.Nat.{zero-add, suc-add}
use lib.Dec.{eqb}
use borrow.Author.Tests.{eqb-true}
use lib.ListN.{length, get_or, take, drop, length-take, length-drop}
use lib.Seq.{drop-drop, drop-nil, take-nil, get_or-take, take_at, drop_at, length-take-le}
use Rattle.lexer.proofs.Nexts.{shut_cases}
use Rattle.std.specs.Prelude.{Ok}
use Rattle.byte.specs.Laid.{laid}
use Rattle.source.specs.declared.Span.{Span}
use Rattle.byte.proofs.Tests.{choice}
use Rattle.source.proofs.Cursor.{passed_position}
use Rattle.byte.specs.declared.Refusal.{Refusal}
use Rattle.state.specs.declared.Answer.{Answer}
use Rattle.state.specs.declared.Session.{Session}
use Rattle.state.specs.declared.Turn.{Turn}
use Rattle.state.specs.Calls.{span_of}
use Rattle.state.specs.Gates.{lent_refusal}
use Rattle.state.proofs.Kept.{Stays}
use Rattle.outcome.specs.declared.Call.{Call}
use Rattle.outcome.specs.declared.Change.{Change}
use Rattle.outcome.specs.Outcomes.{Piece, Outcome, values}
use Rattle.outcome.specs.Insides.{AllInside, Inside}
use Rattle.outcome.specs.Steps.{call_outcome}
use Rattle.outcome.proofs.StepWays.{call_inside}
use Rattle.commit.specs.declared.Mark.{Mark}
use Rattle.commit.specs.Records.{span_at, past_piece, records}
use Rattle.commit.proofs.Putting.{room_facts, put_laid, put_length}
use Rattle.lexer.specs.Turns.{After, mark_of, settled}
use Rattle.lexer.specs.Calls.{called, stepped}
use Rattle.lexer.proofs.Nexts.{room, written, settled_cases}
use Rattle.demands.specs.Walks.{gone_on, walked}
use Rattle.demands.specs.Records.{positions, Rising}
use Rattle.demands.proofs.Good.{Sound, let_sound, position_inside}

-- ---- positions of a list in two parts

pub eight_on : (m : ℕ) → 8 + m * 8 ≡ suc m * 8
eight_on m = omega arith

positions_sum : (m k : ℕ) (zs : List ℕ) → positions (m + k) zs ≡ positions m zs ++ positions k (drop (m * 8) zs)
unfolding positions
positions_sum zero k zs = rw (zero-add k)
positions_sum (suc m) k zs =
    let more = positions_sum m k (drop 8 zs) in
    let there : drop (m * 8) (drop 8 zs) ≡ drop (suc m * 8) zs = drop-drop (m * 8) 8 zs ∙ ap (λ (i : ℕ). drop i zs) (eight_on m) in
    rw (suc-add m k, more, there)

pub drop-take : (n k : ℕ) (l : List ℕ) → drop n (take (n + k) l) ≡ take k (drop n l)
drop-take zero k l = rw (zero-add k)
drop-take (suc n) k [] = rw (take-nil {A = ℕ} (suc n + k), drop-nil {A = ℕ} (suc n), take-nil {A = ℕ} k)
drop-take (suc n) k (x ∷ l) = rw (suc-add n k) (drop-take n k l)

-- lists that begin alike have the same positions
pub positions_same : (m : ℕ) (zs ws : List ℕ) → take (m * 8) zs ≡ take (m * 8) ws → positions m zs ≡ positions m ws
unfolding positions
positions_same zero zs ws e = refl
positions_same (suc m) zs ws e =
    let first : get_or zs 4 0 ≡ get_or ws 4 0 =
    sym (get_or-take (suc m * 8) zs 4 0 (omega arith))
    ∙ ap (λ (l : List ℕ). get_or l 4 0) e
    ∙ get_or-take (suc m * 8) ws 4 0 (omega arith) in
    let f : take (8 + m * 8) zs ≡ take (8 + m * 8) ws = rw (eight_on m) e in
    let more : take (m * 8) (drop 8 zs) ≡ take (m * 8) (drop 8 ws) =
    sym (drop-take 8 (m * 8) zs) ∙ ap (drop 8) f ∙ drop-take 8 (m * 8) ws in
    rw (first, positions_same m (drop 8 zs) (drop 8 ws) more)

-- what stands before a write, and from it on
pub laid_front : (l : List ℕ) (i : ℕ) (vs : List ℕ) → i ≤ length l → take i (laid l i vs) ≡ take i l
unfolding laid
laid_front l i vs h = rw (append_assoc (take i l) vs (drop (i + length vs) l)) (take_at (take i l) _ i (length-take-le i l h))

pub laid_back : (l : List ℕ) (i : ℕ) (vs : List ℕ) → i ≤ length l → drop i (laid l i vs) ≡ vs ++ drop (i + length vs) l
unfolding laid
laid_back l i vs h = rw (append_assoc (take i l) vs (drop (i + length vs) l)) (drop_at (take i l) _ i (length-take-le i l h))

-- ---- what a step writes

places : List Piece → List ℕ
places [] = []
places (piece ∷ more) = piece.place ∷ places more

module _ (src : List ℕ) (p : Span) where
  pub span_place : (place : ℕ) → p.position ≤ place → place ≤ length src → (span_at src p place).position ≡ place
  span_place place h k =
      passed_position p (take (place - p.position) (drop p.position src))
      ∙ omega (arith, length-drop p.position src, length-take-le (place - p.position) (drop p.position src) (omega (arith, length-drop p.position src)))

records_positions : (src : List ℕ) (m : Mark) (n after : ℕ) (pieces : List Piece) (more : List ℕ)
    → m.span.position ≤ n → after ≤ length src → AllInside n after pieces
    → positions (length pieces) (records src after m pieces ++ more) ≡ places pieces
unfolding positions records places
records_positions src m n after [] more h k i = refl
records_positions src m n after (piece ∷ pieces) more h k i =
    rw (span_place src m.span piece.place (omega (arith, i.0.low)) (omega (arith, i.0.high)))
    (ap (λ (l : List ℕ). piece.place ∷ l)
    (records_positions src (past_piece m piece) piece.place after pieces more (omega (arith, i.0.low)) k i.1))

places_rising : (n after : ℕ) (pieces : List Piece) → n ≤ after → AllInside n after pieces → Rising n (places pieces) after
unfolding places
places_rising n after [] h i = h
places_rising n after (piece ∷ pieces) h i = (i.0.low, places_rising piece.place after pieces i.0.high i.1)

rising_append : (low mid high : ℕ) (xs ys : List ℕ) → Rising low xs mid → Rising mid ys high → Rising low (xs ++ ys) high
rising_append low mid high [] ys x y = lower ys y
  where
    lower : (zs : List ℕ) → Rising mid zs high → Rising low zs high
    lower [] z = omega (arith, x, z)
    lower (a ∷ zs) z = (omega (arith, x, z.0), z.1)
rising_append low mid high (a ∷ xs) ys x y = (x.0, rising_append a mid high xs ys x.1 y)

rising_higher : (low mid high : ℕ) (xs : List ℕ) → mid ≤ high → Rising low xs mid → Rising low xs high
rising_higher low mid high [] h x = omega (arith, x)
rising_higher low mid high (a ∷ xs) h x = (x.0, rising_higher a mid high xs h x.1)

-- ---- a step, and many

-- records up to the mark stand in the list, and have positions up to the cursor
pub record Ordered (l : List ℕ) (s : Session) : Type 0 where
  pub inside : s.tokens ≤ length l / 8
  pub rising : Rising 0 (positions s.tokens l) s.position

abbrev pub OrderedAfter : After → Type 0
OrderedAfter a = Ordered a.list a.turn.session

module _ (src : List ℕ) (s : Session) (l q : List ℕ) (h : Sound src (length l) (length q) s) (o : Ordered l s) where
  written_rising : (pieces : List Piece) (after : ℕ) (change : Change) (finished : Bool)
      → Inside s.position (length src) (Outcome.Told pieces after change finished) → room src s l q pieces ≡ Ok tt
      → OrderedAfter (written src s l q pieces after change finished)
  written_rising pieces after change finished i e =
      let fits = room_facts (length l) (length q) s.tokens s.bytes (length pieces) (length (values pieces)) e in
      let put-so = (put_laid src after pieces (mark_of s) (record { list = l; pool = q }) fits.0 fits.1).0 in
      let size = (put_length src after pieces (mark_of s) (record { list = l; pool = q }) fits.0 fits.1).0 in
      let m = s.tokens * 8 in
      let rs = records src after (mark_of s) pieces in
      let before : positions s.tokens (laid l m rs) ≡ positions s.tokens l =
      positions_same s.tokens (laid l m rs) l (laid_front l m rs (omega (arith, fits.0))) in
      let behind : drop m (laid l m rs) ≡ rs ++ drop (m + length rs) l = laid_back l m rs (omega (arith, fits.0)) in
      let new = records_positions src (mark_of s) s.position after pieces (drop (m + length rs) l) (omega arith)
      i.inside i.all in
      let all : positions (s.tokens + length pieces) (laid l m rs) ≡ positions s.tokens l ++ places pieces =
      rw (positions_sum s.tokens (length pieces) (laid l m rs), before, behind, new) in
      let there = span_place src (span_of s) after i.order i.inside in
      record {
        inside = rw size fits.0;
        rising =
            rw (put-so, all, there)
            (rising_append 0 s.position after (positions s.tokens l) (places pieces) o.rising
            (places_rising s.position after pieces i.order i.all));
      }

  settled_rising : (u : Outcome) → Inside s.position (length src) u → OrderedAfter (settled src s l q u)
  settled_rising =
      settled_cases src s l q (λ u a. Inside s.position (length src) u → OrderedAfter a)
      (λ pieces after change finished e i. written_rising pieces after change finished i e)
      (λ pieces after change finished refusal e i. o) (λ refusal place i. o) (λ i. o)

-- also where the gate is shut
pub call_rising : (src : List ℕ) (s : Session) (l q : List ℕ) (call : Call) (end : Bool) → Ordered l s
    → OrderedAfter (called call src end s l q)
unfolding called
call_rising src s l q call end o =
    shut_cases OrderedAfter (lent_refusal src (length l) (length q) s) s l q _
    (λ e.
    let h = let_sound src s (length l) (length q) e in
    settled_rising src s l q h o (call_outcome call src end s)
    (call_inside call src end s (position_inside src s l q h)))
    (λ refusal e. o)

-- what holds after the step and after the walk that goes on holds after both
pub go_on_either : (P : After → Type 0) (a : Answer Refusal) (now later : After) → P now → P later → P (gone_on a now later)
unfolding gone_on
go_on_either P Answer.Done now later x y = y
go_on_either P Answer.Finished now later x y = x
go_on_either P (Answer.Refused refusal span) now later x y = x

pub walk_rising : (n : ℕ) (src : List ℕ) (end : Bool) (s : Session) (l q : List ℕ) → Ordered l s
    → OrderedAfter (walked n src end s l q)
unfolding walked
walk_rising zero src end s l q o = o
walk_rising (suc n) src end s l q o =
    let now = stepped src end s l q in
    let next = call_rising src s l q Call.Step end o in
    go_on_either OrderedAfter now.turn.answer now _ next
    (walk_rising n src end now.turn.session now.list now.pool next)

-- an empty list is in order
pub empty_ordered : (l : List ℕ) (s : Session) → s.tokens ≡ 0 → Ordered l s
unfolding positions
empty_ordered l s e = record { inside = rw e (omega arith); rising = rw e (omega arith) }

-- so does another list with the same records up to the mark
pub lent_ordered : (s : Session) (l l' : List ℕ) → take (s.tokens * 8) l' ≡ take (s.tokens * 8) l → Ordered l s
    → Ordered l' s
lent_ordered s l l' e o = record {
  inside =
      omega
      (arith, o.inside, ap length e, length-take (s.tokens * 8) l, length-take (s.tokens * 8) l');
  rising = rw (positions_same s.tokens l' l e) o.rising;
}

-- a cursor that goes on keeps the order, as after skip, push and pop
pub stays_rising : (src : List ℕ) (s : Session) (l : List ℕ) (t : Turn Refusal) → Stays src s t → Ordered l s
    → Ordered l t.session
stays_rising src s l t k o = record {
  inside = rw k.tokens o.inside;
  rising = rw k.tokens (rising_higher 0 _ _ (positions s.tokens l) k.onward o.rising);
}
