-- The list of a host that was filled from empty, over the host's own numbers: every call keeps it so, refused or not,
-- and `puretakoi_find` gives there what a full walk finds. Assumes nothing.
--   begun_filled, mark_filled                     after `puretakoi_fresh`, and wherever the token mark is 0
--   lent_filled                                   where another list and pool are lent
--   turns_filled, call_filled, host_walk_filled   after a call and the steps after it, a step or reading, a walk
--   skip_filled, push_filled, pop_filled          after skip, push and pop
--   finds_filled                                  what `puretakoi_find` then gives
use Prim.Native.Nat.{ℕ, ◌*◌, ◌/◌, ◌≤◌}
use mathlib.Core.Path.{◌≡◌, refl, sym, ap, ◌∙◌}
use mathlib.Core.Bool.{Bool, true, false}
use mathlib.Core.List.{List}
use lib.ListN.{length, get_or, take}
use borrow.Author.Tests.{le-leb}
use Rattle.byte.specs.Words.{announced}
use Rattle.byte.specs.Laid.{laid}
use Rattle.byte.specs.declared.Refusal.{Refusal}
use Rattle.state.specs.declared.Turn.{Turn}
use Rattle.state.specs.Calls.{fresh_session, skipped, pushed, popped}
use Rattle.outcome.specs.declared.Call.{Call}
use Rattle.lexer.specs.Turns.{After}
use Rattle.demands.specs.Filled.{Filled, empty, call, lend, skip, push, pop, FilledAfter}
use Rattle.demands.proofs.Filled.{called_on_filled}
use Rattle.layout.specs.Sessions.{numbers_of, frame_in, session_in, choices_in}
use Rattle.lookup.specs.Lookups.{position_in, end_in, searched}
use Rattle.lookup.specs.FullWalks.{last_before}
use Rattle.lookup.proofs.Promises.{filled_found}
use Rattle.puretakoi.specs.Calls.{are_long, Crossed, WalkCalled, Answered, Turns, Walked, Begun}
use Rattle.puretakoi.specs.Finds.{found_ended, finds_number, found_after, Finds}
use Rattle.puretakoi.proofs.Told.{told_none}
use Rattle.puretakoi.proofs.Chain.{Stands, turns_stands, reading_stands, skip_crosses, push_crosses, pop_crosses}

-- a host may set the token mark to 0: what the list held is forgotten
pub mark_filled : (session list pool : List ℕ) → get_or session 4 0 ≡ 0 → Filled (session_in session) list pool
mark_filled session list pool e = empty e

pub begun_filled : (choices : ℕ) (session : List ℕ) (r : ℕ) (session' list pool : List ℕ)
    → Begun choices session r session' → r ≡ 0
    → Filled (session_in session') list pool
unfolding laid
begun_filled choices session r session' list pool b e =
    let fresh : session' ≡ laid session 0 (numbers_of (fresh_session (choices_in choices))) = b.holds
    ∙ rw (told_none _ (sym b.number ∙ e)) in
    empty (ap (λ (l : List ℕ). get_or l 4 0) fresh)

-- a host may lend another list and pool, longer or shorter, with the same records up to the mark
pub lent_filled : (session list pool list' pool' : List ℕ)
    → take (get_or session 4 0 * 8) list' ≡ take (get_or session 4 0 * 8) list → Filled (session_in session) list pool
    → Filled (session_in session) list' pool'
lent_filled session list pool list' pool' e f = lend list' pool' e f

-- ---- the step, the readings and the walk

module _ (src : List ℕ) (end : ℕ) (session list pool answer : List ℕ) (r : ℕ) (session' list' pool' answer' : List ℕ)
    (f : Filled (session_in session) list pool) where
  abbrev Done : Type 0
  Done = Filled (session_in session') list' pool'

  -- what stands after the call is filled
  stands_filled : (a : After) (done : ℕ) → FilledAfter a → Stands a done answer r session' list' pool' answer' → Done
  stands_filled a done g s = rw (s.reads, s.records, s.values) g

  -- slices that are too short: nothing changes
  short_filled : (most : ℕ) (first a : After) (done : ℕ) → are_long (length session) (length answer) ≡ false
      → WalkCalled most first a done session list pool answer r session' list' pool' answer' → Done
  short_filled most first a done e c =
      let same : session' ≡ session = c.stays (rw e) in
      let records : list' ≡ list = c.records ∙ rw e in
      let values : pool' ≡ pool = c.values ∙ rw e in
      rw (same, records, values) f

  pub turns_filled : (c : Call) (most : ℕ)
      → Turns c src end most session list pool answer r session' list' pool' answer' → Done
  turns_filled c most t = go (are_long (length session) (length answer)) refl
    where
      go : (long : Bool) → are_long (length session) (length answer) ≡ long → Done
      go true e =
          stands_filled _ _ (called_on_filled c most src (announced end) (session_in session) list pool f)
          (turns_stands src end session list pool answer r session' list' pool' answer' e c most t)
      go false e = short_filled _ _ _ _ e t

  pub host_walk_filled : (most : ℕ) → Walked src end most session list pool answer r session' list' pool' answer' → Done
  host_walk_filled most w = turns_filled Call.Step most w

  pub call_filled : (c : Call) → Answered c src end session list pool answer r session' list' pool' answer' → Done
  call_filled c t = go (are_long (length session) (length answer)) refl
    where
      go : (long : Bool) → are_long (length session) (length answer) ≡ long → Done
      go true e =
          stands_filled _ _ (call c src (announced end) f)
          (reading_stands src end session list pool answer r session' list' pool' answer' e c t)
      go false e = short_filled _ _ _ _ e t

-- ---- skip, push and pop

module _ (src session answer : List ℕ) (r : ℕ) (session' answer' list pool : List ℕ)
    (f : Filled (session_in session) list pool) where
  abbrev Kept : Type 0
  Kept = Filled (session_in session') list pool

  crossed_filled : (t : Turn Refusal) → Filled t.session list pool
      → (are_long (length session) (length answer) ≡ true → session_in session' ≡ t.session)
      → Crossed t session answer r session' answer' → Kept
  crossed_filled t g crosses c = go (are_long (length session) (length answer)) refl
    where
      go : (long : Bool) → are_long (length session) (length answer) ≡ long → Kept
      go true e = rw (crosses e) g
      go false e = let same : session' ≡ session = c.holds ∙ rw e in rw same f

  pub skip_filled : (count : ℕ) → Crossed (skipped src (session_in session) count) session answer r session' answer'
      → Kept
  skip_filled count c =
      crossed_filled (skipped src (session_in session) count) (skip src count f)
      (λ e. skip_crosses src session answer r session' answer' e count c) c

  pub push_filled : (number start len : ℕ)
      → Crossed (pushed src (session_in session) (frame_in number start len)) session answer r session' answer' → Kept
  push_filled number start len c =
      crossed_filled (pushed src (session_in session) (frame_in number start len)) (push src (frame_in number start len) f)
      (λ e. push_crosses src session answer r session' answer' e number start len c) c

  pub pop_filled : Crossed (popped src (session_in session)) session answer r session' answer' → Kept
  pop_filled c =
      crossed_filled (popped src (session_in session)) (pop src f)
      (λ e. pop_crosses src session answer r session' answer' e c) c

-- ---- what is found

-- the number is 0, and the numbers tell what a full walk finds among the first so many records, the looks, and the end
-- of what it finds
pub finds_filled : (session list pool : List ℕ) (count byte : ℕ) (found : List ℕ) (r : ℕ) (found' : List ℕ)
    → Filled (session_in session) list pool → length list / 8 ≤ 65537 → count ≤ get_or session 4 0 → 3 ≤ length found
    → Finds list count byte found r found'
    → (r ≡ 0)
    × (found'
    ≡ laid found 0
    (found_ended (length found) (last_before (position_in list) byte count)
    (length (searched (position_in list) byte 0 count).trail) (end_in list (last_before (position_in list) byte count))))
unfolding finds_number found_after
finds_filled session list pool count byte found r found' f fit few room c =
    let walk = filled_found (session_in session) list pool count byte f fit few in
    (c.number ∙ rw (le-leb 3 (length found) room, walk), c.holds ∙ rw (le-leb 3 (length found) room, walk))
