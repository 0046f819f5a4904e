-- `puretakoi_find` on each way through it, and what a host may rely on. Assumes nothing.
--   finds           the ways
--   finds_one       two results that meet one statement are equal
--   finds_which     the number is 0, 10, 11 or 12
--   finds_refused   where it is not 0, nothing is written
--   finds_looks     the third number is 17 at most
--   finds_end       the fourth, where it is lent, is the found record's eighth number, or 0
use Rattle.std.specs.Prelude.{if◌then◌else◌, drop, Option, None, Some, Result, Ok, Err}
use Prim.Native.Nat.{ℕ, ◌/◌, ◌≤◌, ◌<◌}
use mathlib.Core.Path.{◌≡◌, refl, sym, ap, ◌∙◌}
use mathlib.Core.Bool.{Bool, true, false}
use mathlib.Core.List.{List, [], ◌∷◌, ◌++◌}
use native.Mathlib.Omega.{arith}
use lib.Dec.{leb}
use lib.ListN.{length, get_or, set}
use borrow.Author.Tests.{le-leb, lt-leb}
use Rattle.byte.specs.Laid.{laid}
use Rattle.byte.specs.declared.Refusal.{Refusal}
use Rattle.byte.specs.Words.{is_one_of}
use Rattle.byte.specs.Refusals.{number_of, out_of_place, too_large, bad_session}
use Rattle.byte.proofs.Laid.{length_laid, laid_append, set_laid}
use Rattle.byte.proofs.Tests.{choice}
use Rattle.source.specs.declared.Span.{Span}
use Rattle.lookup.specs.declared.Looked.{Looked}
use Rattle.lookup.specs.declared.Refused.{Refused}
use Rattle.lookup.specs.Lookups.{Search, position_in, end_in, searched, find_refusal, unless_refused, looked_up}
use Rattle.lookup.proofs.Promises.{find_here, find_looks}
use Rattle.puretakoi.specs.Told.{told_number, numbers_told}
use Rattle.puretakoi.proofs.Told.{number_some, told_none}
use Rattle.puretakoi.specs.Finds.{found_numbers, found_ended, finds_number, found_after, Finds}

-- three numbers are copied to the start of a slice
module _ (found : Option ℕ) (looks : ℕ) (l copied numbers : List ℕ) (c : copied ≡ numbers) where
  pub found_none : found ≡ None → numbers ≡ 0 ∷ 0 ∷ looks ∷ [] → copied ++ drop 3 l ≡ laid l 0 (found_numbers found looks)
  unfolding laid found_numbers
  found_none e h = rw (c, e, h)

  pub found_some : (number : ℕ) → found ≡ Some number → numbers ≡ 1 ∷ number ∷ looks ∷ []
      → copied ++ drop 3 l ≡ laid l 0 (found_numbers found looks)
  unfolding laid found_numbers
  found_some number e h = rw (c, e, h)

length_found : (f : Option ℕ) (looks : ℕ) → length (found_numbers f looks) ≡ 3
unfolding found_numbers
length_found None looks = refl
length_found (Some number) looks = refl

-- the three numbers are written
module _ (found written : List ℕ) (f : Option ℕ) (looks end : ℕ) (long : 3 ≤ length found)
    (e : written ≡ laid found 0 (found_numbers f looks)) where
  size : length written ≡ length found
  size = ap length e ∙ length_laid found 0 (found_numbers f looks) (rw (length_found f looks) long)

  pub found_three : length written < 4 → written ≡ laid found 0 (found_ended (length found) f looks end)
  unfolding found_ended
  found_three h = e ∙ rw (lt-leb 4 (length found) (omega (arith, h, size)))

  pub found_four : 4 ≤ length written → set written 3 end ≡ laid found 0 (found_ended (length found) f looks end)
  unfolding found_ended
  found_four h =
      let room : 4 ≤ length found = omega (arith, h, size) in
      let three = length_found f looks in
      set_laid written 3 end (omega (arith, h))
      ∙ ap (λ (l : List ℕ). laid l 3 (end ∷ [])) e
      ∙ laid_append found 0 3 (found_numbers f looks) (end ∷ []) (omega (arith, three)) (rw three (omega (arith, room)))
      ∙ rw (le-leb 4 (length found) room)

module _ (list : List ℕ) (count byte : ℕ) (found : List ℕ) where
  pub finds_short : (r : ℕ) → length found < 3 → r ≡ number_of out_of_place → Finds list count byte found r found
  finds_short r h e = record { number = rw (e, lt-leb 3 (length found) h); holds = rw (lt-leb 3 (length found) h) }

  module _ (lookup : Result Looked Refused) (h : 3 ≤ length found) (e : lookup ≡ looked_up list count byte) where
    pub finds_told : (looked : Looked) (found' : List ℕ) → lookup ≡ Ok looked
        → found' ≡ laid found 0 (found_ended (length found) looked.found looked.looks looked.end)
        → Finds list count byte found 0 found'
    unfolding finds_number found_after
    finds_told looked found' k w =
        record { number = rw (le-leb 3 (length found) h, ← e, k); holds = rw (le-leb 3 (length found) h, ← e, k) w }

    pub finds_no : (refused : Refused) (number : ℕ) → lookup ≡ Err refused → number ≡ number_of refused.refusal
        → Finds list count byte found number found
    unfolding finds_number found_after
    finds_no refused number k n =
        record { number = rw (n, le-leb 3 (length found) h, ← e, k); holds = rw (le-leb 3 (length found) h, ← e, k) }

pub ruleset finds = (found_three, found_four, finds_short, finds_told, finds_no)

-- ---- what a host may rely on

after_refused : (l : Result Looked Refused) (slice : List ℕ) → (finds_number l ≡ 0 → ⊥) → found_after l slice ≡ slice
unfolding finds_number found_after
after_refused (Ok looked) slice h = absurd (h refl)
after_refused (Err refused) slice h = refl

refused_number : (told : Result (Unit {0}) Refusal) (looked : Looked)
    → finds_number (unless_refused told looked) ≡ told_number told
unfolding finds_number
refused_number (Ok passes) looked = refl
refused_number (Err refusal) looked = refl

third_looks : (found : Option ℕ) (looks end : ℕ) (slice : List ℕ)
    → get_or (laid slice 0 (found_ended (length slice) found looks end)) 2 0 ≡ looks
unfolding laid found_numbers found_ended
third_looks found looks end slice = go found (leb 4 (length slice))
  where
    go : (f : Option ℕ) (t : Bool)
        → get_or (laid slice 0 (if t then found_numbers f looks ++ (end ∷ []) else found_numbers f looks)) 2 0 ≡ looks
    go None true = refl
    go None false = refl
    go (Some number) true = refl
    go (Some number) false = refl

fourth_end : (found : Option ℕ) (looks end : ℕ) (slice : List ℕ) → 4 ≤ length slice
    → get_or (laid slice 0 (found_ended (length slice) found looks end)) 3 0 ≡ end
unfolding laid found_numbers found_ended
fourth_end found looks end slice h = rw (le-leb 4 (length slice) h) (go found)
  where
    go : (f : Option ℕ) → get_or (laid slice 0 (found_numbers f looks ++ (end ∷ []))) 3 0 ≡ end
    go None = refl
    go (Some number) = refl

pub finds_one : (list : List ℕ) (count byte : ℕ) (found : List ℕ) (r r' : ℕ) (f f' : List ℕ)
    → Finds list count byte found r f
    → Finds list count byte found r' f'
    → (r ≡ r') × (f ≡ f')
finds_one list count byte found r r' f f' x y = (x.number ∙ sym y.number, x.holds ∙ sym y.holds)

module _ (list : List ℕ) (count byte : ℕ) (found : List ℕ) (r : ℕ) (found' : List ℕ)
    (c : Finds list count byte found r found') where
  -- the number that is given back, in the order in which it is asked
  pub finds-number : r ≡ (if leb 3 (length found) then told_number (find_refusal (length list) count) else number_of out_of_place)
  unfolding looked_up
  finds-number =
      c.number
      ∙ ap (λ (n : ℕ). if leb 3 (length found) then n else number_of out_of_place) (refused_number (find_refusal (length list) count) _)

  -- 10, or one of the look-up's own
  pub finds_which : is_one_of r (0 ∷ numbers_told (out_of_place ∷ too_large ∷ bad_session ∷ [])) ≡ true
  unfolding find_refusal is_one_of
  finds_which =
      rw finds-number
      (choice Given (leb 3 (length found)) _ _
      (λ e.
      choice (λ (told : Result (Unit {0}) Refusal). Given (told_number told)) (leb (length list / 8) 65537) _ _
      (λ f.
      choice (λ (told : Result (Unit {0}) Refusal). Given (told_number told)) (leb count (length list / 8)) _ _ (λ g. refl) (λ g. refl))
      (λ f. refl))
      (λ e. refl))
    where
      Given : ℕ → Type 0
      Given n = is_one_of n (0 ∷ numbers_told (out_of_place ∷ too_large ∷ bad_session ∷ [])) ≡ true

  -- it is 0 exactly where a slice of three numbers is lent and neither 11 nor 12 is told
  unrefused : r ≡ 0 → (leb 3 (length found) ≡ true) × (find_refusal (length list) count ≡ Ok tt)
  unrefused e = go (leb 3 (length found)) (sym finds-number ∙ e)
    where
      go : (t : Bool) → (if t then told_number (find_refusal (length list) count) else number_of out_of_place) ≡ 0
          → (t ≡ true) × (find_refusal (length list) count ≡ Ok tt)
      go true h = (refl, told_none _ h)
      go false h = absurd (number_some out_of_place h)

  -- demand 1: a refusal writes nothing; the list is only read
  pub finds_refused : (r ≡ 0 → ⊥) → found' ≡ found
  finds_refused h = go (leb 3 (length found)) (looked_up list count byte) c.number c.holds
    where
      go : (t : Bool) (l : Result Looked Refused) → r ≡ (if t then finds_number l else number_of out_of_place)
          → found' ≡ (if t then found_after l found else found) → found' ≡ found
      go true l e g = g ∙ after_refused l found (λ z. h (e ∙ z))
      go false l e g = g

  abbrev the : Search
  the = searched (position_in list) byte 0 count

  finds_written : r ≡ 0
      → found' ≡ laid found 0 (found_ended (length found) the.found (length the.trail) (end_in list the.found))
  unfolding found_after
  finds_written e =
      let let-in = unrefused e in
      c.holds ∙ rw (let-in.0, find_here list count byte let-in.1)

  -- the third number
  pub finds_looks : r ≡ 0 → get_or found' 2 0 ≤ 17
  finds_looks e =
      rw (finds_written e, third_looks the.found (length the.trail) (end_in list the.found) found)
      (find_looks list count byte (unrefused e).1)

  -- and the fourth
  pub finds_end : r ≡ 0 → 4 ≤ length found → get_or found' 3 0 ≡ end_in list the.found
  finds_end e h = rw (finds_written e) (fourth_end the.found (length the.trail) (end_in list the.found) found h)
