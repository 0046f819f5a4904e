-- What document 02 says of a look-up, P3. Assumes nothing.
--   find_looks                             at most 17 looks
--   find_agrees                            lists of one count that agree on the records looked at get the same looks
--                                          and record, whatever their lengths; where its end agrees too, the same
--                                          answer
--   find_seen                              the record that is found was looked at and is at or before the byte; only
--                                          records that count are looked at
--   find_rising                            on a list whose positions never fall it is the full walk's answer
--   filled_found                           so on a list that was filled from empty by calls, each on the last one's
--                                          session, for every count up to the mark
--   steps_found, walked_found, fed_found   by steps, by a walk, and by a script in parts
--   cuts_found                             however a script is cut, the same is found
--   find_refusals   the refusals are 11 and 12, at the script's beginning
use Prim.Native.Nat.{ℕ, zero, suc, ◌+◌, ◌*◌, ◌/◌, ◌≤◌, ◌<◌}
use Rattle.byte.specs.declared.Refusal.{Refusal}
use mathlib.Core.Path.{◌≡◌, refl, sym, ap, ◌∙◌}
use mathlib.Core.Bool.{Bool, true}
use mathlib.Core.List.{List, [], ◌∷◌}
use native.Mathlib.Omega.{arith}
use lib.Dec.{leb, ltb, eqb}
use lib.ListN.{length, get_or, drop}
use lib.Seq.{get_or-drop}
use borrow.Author.Tests.{le-leb}
use Rattle.std.specs.Prelude.{Ok}
use Rattle.std.specs.Prelude.{Err}
use Rattle.std.specs.Prelude.{Result}
use Rattle.byte.specs.Words.{every}
use Rattle.byte.specs.Demand.{is_byte}
use Rattle.byte.specs.Refusals.{too_large, bad_session, is_among}
use Rattle.byte.proofs.Tests.{choice}
use Rattle.source.specs.Cursor.{origin}
use Rattle.source.specs.declared.Span.{Span}
use Rattle.state.specs.declared.Choices.{Choices}
use Rattle.state.specs.declared.Session.{Session}
use Rattle.state.specs.Calls.{fresh_session}
use Rattle.state.specs.Gates.{tables_fit}
use Rattle.lexer.specs.Turns.{After}
use Rattle.demands.specs.Walks.{walked, joined, fed}
use Rattle.demands.specs.Records.{positions, Rising}
use Rattle.demands.specs.Filled.{Filled, empty, Round, stepped_on}
use Rattle.demands.proofs.Rising.{Ordered}
use Rattle.demands.proofs.Ends.{cuts_same}
use Rattle.demands.proofs.Filled.{steps_filled, walk_filled, fed_filled, filled_ordered}
use Rattle.demands.proofs.Filled.{steps_size, walk_size, fed_size}
use Rattle.std.specs.Prelude.{Option}
use Rattle.lookup.specs.declared.Looked.{Looked}
use Rattle.lookup.specs.declared.Refused.{Refused}
use Rattle.state.proofs.Refusals.{checked_among}
use Rattle.lookup.specs.Lookups.{unless_refused, Search, position_in, end_in, searched, find_refusal, told, looked_up}
use Rattle.lookup.specs.FullWalks.{is_seen, NeverFalls, AsFullWalk, IsReached}
use Rattle.lookup.proofs.Searches.{searched_most, searched_inside, searched_seen, searched_reached}
use Rattle.lookup.proofs.Searches.{searched_agrees}
use Rattle.lookup.proofs.FullWalks.{rising_found}
use Rattle.lookup.proofs.Lookups.{find_bounded}

abbrev looked : Option ℕ → ℕ → ℕ → Looked
looked found looks end = record { found = found; looks = looks; end = end }

-- ---- every list that 11 and 12 let pass

module _ (list : List ℕ) (count byte : ℕ) (passes : find_refusal (length list) count ≡ Ok tt) where
  abbrev the : Search
  the = searched (position_in list) byte 0 count

  pub find_here : looked_up list count byte ≡ Ok (told list the)
  unfolding looked_up
  find_here = rw passes

  pub find_looks : length the.trail ≤ 17
  find_looks =
      let b = find_bounded (length list) count passes in
      searched_most (position_in list) byte 17 0 count (omega (arith, b.places, b.counted))

  pub find_seen : (is_seen the.found the.trail ≡ true) × (every (λ i. ltb i count) the.trail ≡ true)
      × IsReached (position_in list) byte the.found
  find_seen = (
    searched_seen (position_in list) byte count,
    searched_inside (position_in list) byte 0 count,
    searched_reached (position_in list) byte count,
  )

  pub find_rising : NeverFalls (position_in list) count → AsFullWalk list count byte
  find_rising rising =
      find_here
      ∙ ap (λ (f : Option ℕ). Ok (looked f (length the.trail) (end_in list f)))
      (rising_found (position_in list) byte count rising)

  module _ (list' : List ℕ) (passes' : find_refusal (length list') count ≡ Ok tt)
      (agree : every (λ i. eqb (position_in list i) (position_in list' i)) the.trail ≡ true) where
    same_search : the ≡ searched (position_in list') byte 0 count
    same_search = searched_agrees (position_in list) (position_in list') byte 0 count agree

    pub find_agrees : (the.trail ≡ (searched (position_in list') byte 0 count).trail)
        × (the.found ≡ (searched (position_in list') byte 0 count).found)
        × (end_in list the.found ≡ end_in list' the.found → looked_up list count byte ≡ looked_up list' count byte)
    unfolding looked_up
    find_agrees = (
      ap (λ (s : Search). s.trail) same_search,
      ap (λ (s : Search). s.found) same_search,
      λ e.
          rw (passes, passes')
          (ap (λ (n : ℕ). Ok (looked the.found (length the.trail) n)) e ∙ ap (λ (s : Search). Ok (told list' s)) same_search),
    )

-- ---- the refusals

pub find_which : (list count : ℕ) (refusal : Refusal) → find_refusal list count ≡ Err refusal
    → is_among refusal (too_large ∷ bad_session ∷ []) ≡ true
unfolding find_refusal
find_which list count refusal = checked_among (leb (list / 8) 65537) (leb count (list / 8)) refusal

pub find_refusals : (list : List ℕ) (count byte : ℕ) (refusal : Refusal) (span : Span)
    → looked_up list count byte ≡ Err (record { refusal = refusal; span = span })
    → (is_among refusal (too_large ∷ bad_session ∷ []) ≡ true) × (span ≡ origin)
unfolding looked_up
find_refusals list count byte refusal span = go (find_refusal (length list) count) (find_which (length list) count)
  where
    go : (shut : Result (Unit {0}) Refusal)
        → ((why : Refusal) → shut ≡ Err why → is_among why (too_large ∷ bad_session ∷ []) ≡ true)
        → unless_refused shut (told list (searched (position_in list) byte 0 count)) ≡ Err (record { refusal = refusal; span = span })
        → (is_among refusal (too_large ∷ bad_session ∷ []) ≡ true) × (span ≡ origin)
    go (Ok tt) among e = cc
    go (Err why) among e =
        let here : Refused = record { refusal = why; span = origin } in
        let same : here ≡ record { refusal = refusal; span = span } = cc in
        (rw (← ap (λ (r : Refused). r.refusal) same) (among why refl), sym (ap (λ (r : Refused). r.span) same))

-- ---- lists that were filled

-- records as positions tell them
position_at : (n i : ℕ) (l : List ℕ) → i < n → get_or (positions n l) i 0 ≡ position_in l i
unfolding positions
position_at zero i l h = absurd (omega arith)
position_at (suc n) zero l h = refl
position_at (suc n) (suc i) l h =
    position_at n i (drop 8 l) (omega arith) ∙ get_or-drop 8 l (i * 8 + 4) 0 ∙ ap (λ (k : ℕ). get_or l k 0) (omega arith)

length_positions : (n : ℕ) (l : List ℕ) → length (positions n l) ≡ n
unfolding positions
length_positions zero l = refl
length_positions (suc n) l = ap suc (length_positions n (drop 8 l))

rising_low : (low high j : ℕ) (xs : List ℕ) → Rising low xs high → j < length xs → low ≤ get_or xs j 0
rising_low low high j [] r h = absurd (omega arith)
rising_low low high zero (x ∷ xs) r h = r.0
rising_low low high (suc j) (x ∷ xs) r h = omega (arith, r.0, rising_low x high j xs r.1 (omega arith))

rising_order : (low high i j : ℕ) (xs : List ℕ) → Rising low xs high → i ≤ j → j < length xs → get_or xs i 0 ≤ get_or xs j 0
rising_order low high i j [] r h k = absurd (omega arith)
rising_order low high zero zero (x ∷ xs) r h k = omega arith
rising_order low high zero (suc j) (x ∷ xs) r h k = rising_low x high j xs r.1 (omega arith)
rising_order low high (suc i) zero (x ∷ xs) r h k = absurd (omega arith)
rising_order low high (suc i) (suc j) (x ∷ xs) r h k = rising_order x high i j xs r.1 (omega arith) (omega arith)

ordered_never_falls : (l : List ℕ) (s : Session) (count : ℕ) → Ordered l s → count ≤ s.tokens
    → NeverFalls (position_in l) count
ordered_never_falls l s count o h i j k m =
    let order = rising_order 0 s.position i j (positions s.tokens l) o.rising k
    (omega (arith, length_positions s.tokens l)) in
    rw (position_at s.tokens i l (omega arith), position_at s.tokens j l (omega arith)) at order

pub filled_found : (s : Session) (list pool : List ℕ) (count byte : ℕ) → Filled s list pool → length list / 8 ≤ 65537
    → count ≤ s.tokens → AsFullWalk list count byte
unfolding find_refusal
filled_found s list pool count byte f fit h =
    let o = filled_ordered s list pool f in
    find_rising list count byte (rw (le-leb _ _ fit, le-leb count (length list / 8) (omega (arith, o.inside))))
    (ordered_never_falls list s count o h)

-- by steps in a row, whatever source each lends and whatever it answers
pub steps_found : (rounds : List Round) (s : Session) (list pool : List ℕ) (count byte : ℕ) → s.tokens ≡ 0
    → length list / 8 ≤ 65537 → count ≤ (stepped_on rounds s list pool).turn.session.tokens
    → AsFullWalk (stepped_on rounds s list pool).list count byte
steps_found rounds s list pool count byte e fit h =
    filled_found _ _ _ count byte (steps_filled rounds s list pool (empty e)) (rw (steps_size rounds s list pool) fit) h

pub walked_found : (n : ℕ) (src : List ℕ) (end : Bool) (s : Session) (list pool : List ℕ) (count byte : ℕ)
    → s.tokens ≡ 0 → length list / 8 ≤ 65537 → count ≤ (walked n src end s list pool).turn.session.tokens
    → AsFullWalk (walked n src end s list pool).list count byte
walked_found n src end s list pool count byte e fit h =
    filled_found _ _ _ count byte (walk_filled n src end s list pool (empty e))
    (rw (walk_size n src end s list pool) fit) h

pub fed_found : (n : ℕ) (src : List ℕ) (parts : List (List ℕ)) (s : Session) (list pool : List ℕ) (count byte : ℕ)
    → s.tokens ≡ 0 → length list / 8 ≤ 65537 → count ≤ (fed n src parts s list pool).turn.session.tokens
    → AsFullWalk (fed n src parts s list pool).list count byte
fed_found n src parts s list pool count byte e fit h =
    filled_found _ _ _ count byte (fed_filled n src parts s list pool (empty e))
    (rw (fed_size n src parts s list pool) fit) h

-- however a script is cut, the same is found
pub cuts_found : (n : ℕ) (parts others : List (List ℕ)) (choices : Choices) (list pool : List ℕ) (count byte : ℕ)
    → joined [] others ≡ joined [] parts → every is_byte (joined [] parts) ≡ true → length (joined [] parts) ≤ 65536
    → tables_fit (length list) (length pool) ≡ true → 2 * length (joined [] parts) + 1 < n
    → looked_up (fed n [] others (fresh_session choices) list pool).list count byte
    ≡ looked_up (fed n [] parts (fresh_session choices) list pool).list count byte
cuts_found n parts others choices list pool count byte e bytes short fit enough =
    ap (λ (a : After). looked_up a.list count byte)
    (cuts_same n parts others choices list pool e bytes short fit enough)
