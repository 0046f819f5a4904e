-- Lists that were filled from empty: walks and scripts in parts fill them too, and the positions of their records
-- never fall. Assumes nothing.
--   steps_filled, walk_filled                    steps in a row, a walk
--   fed_filled, called_on_filled                 a script in parts, a call and the steps after it
--   filled_ordered                               the records up to the mark stand in the list, and their positions
--                                                never fall
--   call_size, steps_size, walk_size, fed_size   the list keeps its length
use Prim.Native.Nat.{ℕ, zero, suc}
use Rattle.byte.specs.declared.Refusal.{Refusal}
use mathlib.Core.Bool.{Bool, true, false}
use mathlib.Core.List.{List, [], ◌∷◌, ◌++◌}
use mathlib.Core.Path.{◌≡◌, refl, ◌∙◌}
use lib.Dec.{eqb}
use lib.ListN.{length}
use borrow.Author.Tests.{eqb-true}
use Rattle.lexer.proofs.Nexts.{shut_cases}
use Rattle.std.specs.Prelude.{Ok}
use Rattle.std.specs.Prelude.{Err}
use Rattle.std.specs.Prelude.{Result}
use Rattle.byte.proofs.Tests.{choice}
use Rattle.state.specs.declared.Session.{Session}
use Rattle.state.specs.Gates.{lent_refusal}
use Rattle.state.proofs.Kept.{skip_stays, push_stays, pop_stays}
use Rattle.outcome.specs.declared.Call.{Call}
use Rattle.lexer.specs.Turns.{After}
use Rattle.lexer.specs.Calls.{called, stepped}
use Rattle.demands.specs.Walks.{walked, called_on, is_wait, fed}
use Rattle.demands.specs.Filled.{Filled, empty, call, lend, choose, skip, push, pop, FilledAfter, Round, stepped_on}
use Rattle.demands.proofs.Good.{let_sound, call_sound}
use Rattle.demands.proofs.Rising.{Ordered, empty_ordered, call_rising, go_on_either, lent_ordered, stays_rising}

-- ---- what fills a list

pub steps_filled : (rounds : List Round) (s : Session) (l q : List ℕ) → Filled s l q
    → FilledAfter (stepped_on rounds s l q)
unfolding stepped_on
steps_filled [] s l q f = f
steps_filled (round ∷ more) s l q f =
    let now = stepped round.source round.end s l q in
    steps_filled more now.turn.session now.list now.pool (call Call.Step round.source round.end f)

pub walk_filled : (n : ℕ) (src : List ℕ) (end : Bool) (s : Session) (l q : List ℕ) → Filled s l q
    → FilledAfter (walked n src end s l q)
unfolding walked
walk_filled zero src end s l q f = f
walk_filled (suc n) src end s l q f =
    let now = stepped src end s l q in
    let next = call Call.Step src end f in
    go_on_either FilledAfter now.turn.answer now _ next
    (walk_filled n src end now.turn.session now.list now.pool next)

-- a call and the steps after it; where none is wanted the gate's refusal keeps all
pub called_on_filled : (c : Call) (most : ℕ) (src : List ℕ) (end : Bool) (s : Session) (l q : List ℕ) → Filled s l q
    → FilledAfter (called_on c most src end s l q)
unfolding called_on
called_on_filled c zero src end s l q f =
    shut_cases FilledAfter (lent_refusal src (length l) (length q) s) s l q _ (λ e. f) (λ refusal e. f)
called_on_filled c (suc n) src end s l q f =
    let now = called c src end s l q in
    let next = call c src end f in
    go_on_either FilledAfter now.turn.answer now _ next
    (walk_filled n src end now.turn.session now.list now.pool next)

pub fed_filled : (n : ℕ) (src : List ℕ) (parts : List (List ℕ)) (s : Session) (l q : List ℕ) → Filled s l q
    → FilledAfter (fed n src parts s l q)
unfolding fed
fed_filled n src [] s l q f = walk_filled n src true s l q f
fed_filled n src (part ∷ more) s l q f =
    let now = walked n src false s l q in
    let next = walk_filled n src false s l q f in
    choice FilledAfter (is_wait now.turn.answer) _ _
    (λ e. fed_filled n (src ++ part) more now.turn.session now.list now.pool next) (λ e. next)

-- ---- its positions

pub filled_ordered : (s : Session) (l q : List ℕ) → Filled s l q → Ordered l s
filled_ordered s l q (empty e) = empty_ordered l s e
filled_ordered s l q (call {s = t} {list = m} {pool = p} c src end f) =
    call_rising src t m p c end (filled_ordered t m p f)
filled_ordered s l q (lend {list = m} {pool = p} l' q' e f) = lent_ordered s m l e (filled_ordered s m p f)
filled_ordered s l q (choose {s = t} choices f) =
    let o = filled_ordered t l q f in
    record { inside = o.inside; rising = o.rising }
filled_ordered s l q (skip {s = t} src count f) =
    stays_rising src t l _ (skip_stays src t count) (filled_ordered t l q f)
filled_ordered s l q (push {s = t} src frame f) =
    stays_rising src t l _ (push_stays src t frame) (filled_ordered t l q f)
filled_ordered s l q (pop {s = t} src f) = stays_rising src t l _ (pop_stays src t) (filled_ordered t l q f)

-- ---- its length

-- a call keeps it, refused or not
pub call_size : (c : Call) (src : List ℕ) (end : Bool) (s : Session) (l q : List ℕ)
    → length (called c src end s l q).list ≡ length l
unfolding called
call_size c src end s l q = go (lent_refusal src (length l) (length q) s) refl
  where
    go : (told : Result (Unit {0}) Refusal) → lent_refusal src (length l) (length q) s ≡ told
        → length (called c src end s l q).list ≡ length l
    go (Ok tt) e = (call_sound src s l q (let_sound src s (length l) (length q) e) c end).list
    go (Err refusal) e = rw e

pub steps_size : (rounds : List Round) (s : Session) (l q : List ℕ) → length (stepped_on rounds s l q).list ≡ length l
unfolding stepped_on
steps_size [] s l q = refl
steps_size (round ∷ more) s l q =
    let now = stepped round.source round.end s l q in
    steps_size more now.turn.session now.list now.pool
    ∙ call_size Call.Step round.source round.end s l q

pub walk_size : (n : ℕ) (src : List ℕ) (end : Bool) (s : Session) (l q : List ℕ)
    → length (walked n src end s l q).list ≡ length l
unfolding walked
walk_size zero src end s l q = refl
walk_size (suc n) src end s l q =
    let now = stepped src end s l q in
    let first = call_size Call.Step src end s l q in
    go_on_either (λ (a : After). length a.list ≡ length l) now.turn.answer now _ first
    (walk_size n src end now.turn.session now.list now.pool ∙ first)

pub fed_size : (n : ℕ) (src : List ℕ) (parts : List (List ℕ)) (s : Session) (l q : List ℕ)
    → length (fed n src parts s l q).list ≡ length l
unfolding fed
fed_size n src [] s l q = walk_size n src true s l q
fed_size n src (part ∷ more) s l q =
    let now = walked n src false s l q in
    let first = walk_size n src false s l q in
    choice (λ (a : After). length a.list ≡ length l) (is_wait now.turn.answer) _ _
    (λ e. fed_size n (src ++ part) more now.turn.session now.list now.pool ∙ first) (λ e. first)
