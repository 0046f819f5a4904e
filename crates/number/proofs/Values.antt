-- The value of a number: what was read, without `_` and with `E` as `e` outside hexadecimal. With it: where a number
-- ends, and that at the announced end no reading waits.
--   Taken                                                                                      so many bytes from the head on were read, and this is their value
--   number_at_taken                                                                            of every number that is read
--   number_at_value, number_at_inside, number_at_shorter, number_at_value_of, number_at_ends   the same, told apart
--   digit_passes, point_passes                                                                 a number whose value has a byte ends after n: one that starts with a digit or a point
-- Assumes nothing.
use Rattle.std.specs.Prelude.{Option, Some, None}
use Prim.Native.Nat.{ℕ, suc, ◌+◌, ◌-◌, ◌≤◌, ◌<◌}
use Prim.Native.Char.{code}
use mathlib.Core.Path.{◌≡◌, refl, sym, ap, subst, ◌∙◌}
use mathlib.Core.Bool.{Bool, true, false, ◌&&◌, ◌||◌, false≢true}
use mathlib.Core.List.{List, [], ◌∷◌, ◌++◌}
use native.Mathlib.Omega.{arith}
use lib.Dec.{eqb}
use lib.ListN.{length, take, drop, length-drop}
use lib.Seq.{take-add, length-take-le}
use borrow.Author.Tests.{eqb-true, ne_eqb}
use Rattle.byte.specs.Bytes.{is_digit, is_octal, is_hex}
use Rattle.byte.proofs.Tests.{&&-left, &&-right, choice}
use Rattle.number.specs.declared.Ahead.{Ahead}
use Rattle.number.specs.declared.Base.{Base}
use Rattle.number.specs.declared.Extent.{Extent}
use Rattle.number.specs.declared.Literal.{Literal}
use Rattle.number.specs.Numbers.{Digits, Reading, is_one, base_named, base_of, is_exponent, is_sign, before, last, digits_more}
use Rattle.number.specs.Numbers.{digits, signed, onto, closing, followed, power, exponent, fraction, digit_ahead}
use Rattle.number.specs.Numbers.{power_ahead, decided, marked, tail, decimal, prefixed, number_in, number_at, lower_exponent}
use Rattle.number.specs.Numbers.{spelling, spelled, value_of}
use Rattle.number.specs.Code.{extent_at, extent_of}

-- by the two answers of a test
pub either : {P : Type 0} (t : Bool) → (t ≡ true → P) → (t ≡ false → P) → P
either true first second = first refl
either false first second = second refl

-- a byte that passes a test which k does not pass is another
pub other : (b k : ℕ) (test : ℕ → Bool) → test k ≡ false → test b ≡ true → eqb b k ≡ false
other b k test fails passes = ne_eqb b k (λ e. false≢true (sym fails ∙ rw e at passes))

-- what holds of both letters holds of a byte that is one of them
pub letter_either : (P : ℕ → Type 0) (x k l : ℕ) → (eqb x k || eqb x l) ≡ true → P k → P l → P x
letter_either P x k l h p q =
    either (eqb x k) (λ e. rw (eqb-true x k e) p)
    (λ e. let second : eqb x l ≡ true = rw e at h in rw (eqb-true x l second) q)

-- a byte that a value has as it is
abbrev Plain : Base → ℕ → Type 0
Plain base b = b ∷ [] ≡ spelled base (b ∷ [])

plain : (base : Base) (b : ℕ) → eqb b 95 ≡ false → eqb b 69 ≡ false → Plain base b
unfolding spelled spelling lower_exponent
plain Base.Binary b h e = rw (h, e) refl
plain Base.Octal b h e = rw (h, e) refl
plain Base.Decimal b h e = rw (h, e) refl
plain Base.Hex b h e = rw h refl

-- a byte that passes a test which `_` and `E` do not pass
passes_plain : (base : Base) (b : ℕ) (P : ℕ → Bool) → P 95 ≡ false → P 69 ≡ false → P b ≡ true → Plain base b
passes_plain base b P under upper h = plain base b (other b 95 P under h) (other b 69 P upper h)

one_plain : (base : Base) (b : ℕ) → is_one base b ≡ true → Plain base b
unfolding is_one is_digit is_octal is_hex spelled spelling
one_plain Base.Binary b h = passes_plain Base.Binary b (is_one Base.Binary) refl refl h
one_plain Base.Octal b h = passes_plain Base.Octal b (is_one Base.Octal) refl refl h
one_plain Base.Decimal b h = passes_plain Base.Decimal b (is_one Base.Decimal) refl refl h
one_plain Base.Hex b h = rw (other b 95 (is_one Base.Hex) refl h) refl

pub spelled_append : (base : Base) (xs ys : List ℕ) → spelled base (xs ++ ys) ≡ spelled base xs ++ spelled base ys
unfolding spelled
spelled_append base [] ys = refl
spelled_append base (b ∷ xs) ys =
    either (eqb b 95) (λ h. rw h (spelled_append base xs ys))
    (λ h. rw h (ap (λ (v : List ℕ). spelling base b ∷ v) (spelled_append base xs ys)))

-- a value has the same number of bytes in every base, and no more than its text
pub length_spelled : (base base' : Base) (xs : List ℕ)
    → (length (spelled base xs) ≡ length (spelled base' xs)) × (length (spelled base xs) ≤ length xs)
unfolding spelled
length_spelled base base' [] = (refl, omega arith)
length_spelled base base' (b ∷ xs) =
    let (same, shorter) = length_spelled base base' xs in
    either (eqb b 95) (λ h. rw h (same, omega arith)) (λ h. rw h (ap suc same, omega arith))

-- `count` bytes of xs were read, from n up to `after`, and `value` is theirs
pub record Taken (base : Base) (n : ℕ) (xs : List ℕ) (value : List ℕ) (after : ℕ) : Type 0 where
  pub count : ℕ
  pub place : after ≡ n + count
  pub inside : count ≤ length xs
  pub told : value ≡ spelled base (take count xs)

-- the same of an answer, which at the announced end is one
abbrev pub DigitsTaken : Base → Bool → ℕ → List ℕ → Digits → Type 0
DigitsTaken base end n xs (Digits.Read ds after) = Taken base n xs ds after
DigitsTaken base end n xs Digits.Undecided = end ≡ false

abbrev pub NumberTaken : Base → Bool → ℕ → List ℕ → Reading → Type 0
NumberTaken base end n xs (Reading.Number literal value after) = Taken base n xs value after
NumberTaken base end n xs Reading.Wait = end ≡ false

module _ (base : Base) where
  taken_none : (n : ℕ) (xs : List ℕ) → Taken base n xs [] n
  unfolding spelled
  taken_none n xs = record { count = 0; place = omega arith; inside = omega arith; told = refl }

  -- a byte that is told as it is spelled, or one with a `_` before it
  abbrev taken_one : (n b : ℕ) (xs value : List ℕ) → value ≡ spelled base (b ∷ []) → Taken base n (b ∷ xs) value (suc n)
  taken_one n b xs value p = record { count = 1; place = omega arith; inside = omega arith; told = p }

  taken_joined : (n b c : ℕ) (xs : List ℕ) → eqb b 95 ≡ true → Plain base c
      → Taken base n (b ∷ c ∷ xs) (c ∷ []) (suc (suc n))
  unfolding spelled
  taken_joined n b c xs under p = record { count = 2; place = omega arith; inside = omega arith; told = rw under p }

  -- what is read after what was read
  taken_append : (n m after : ℕ) (xs ds value : List ℕ) (t : Taken base n xs ds m)
      → Taken base m (drop t.count xs) value after → Taken base n xs (ds ++ value) after
  taken_append n m after xs ds value t u =
      let room : u.count ≤ length xs - t.count = rw length-drop at u.inside in
      record {
        count = t.count + u.count;
        place = omega (arith, t.place, u.place);
        inside = omega (arith, t.inside);
        told = rw (t.told, u.told, take-add t.count u.count xs)
            (sym (spelled_append base (take t.count xs) (take u.count (drop t.count xs))));
      }

  module _ (end : Bool) where
    last_taken : (n : ℕ) (xs : List ℕ) → DigitsTaken base end n xs (last end n)
    unfolding last
    last_taken n xs = either end (λ h. rw h (taken_none n xs)) (λ h. rw h refl)

    before_taken : (n m b : ℕ) (xs : List ℕ) (t : Taken base n xs (b ∷ []) m) (d : Digits)
        → DigitsTaken base end m (drop t.count xs) d → DigitsTaken base end n xs (before b d)
    unfolding before
    before_taken n m b xs t (Digits.Read ds after) u = taken_append n m after xs (b ∷ []) ds t u
    before_taken n m b xs t Digits.Undecided u = u

    one_taken : (n b : ℕ) (xs : List ℕ) (d : Digits) → Plain base b → DigitsTaken base end (suc n) xs d
        → DigitsTaken base end n (b ∷ xs) (before b d)
    one_taken n b xs d p u = before_taken n (suc n) b (b ∷ xs) (taken_one n b xs (b ∷ []) p) d u

    digits_more_taken : (n : ℕ) (xs : List ℕ) → DigitsTaken base end n xs (digits_more base end n xs)
    unfolding digits_more taken_joined
    digits_more_taken n [] = last_taken n []
    digits_more_taken n (b ∷ []) =
        either (is_one base b)
        (λ one. rw one (one_taken n b [] _ (one_plain base b one) (digits_more_taken (suc n) [])))
        (λ no. either (eqb b 95) (λ u. rw (no, u) (last_taken n (b ∷ []))) (λ u. rw (no, u) (taken_none n (b ∷ []))))
    digits_more_taken n (b ∷ c ∷ rest) =
        either (is_one base b)
        (λ one. rw one (one_taken n b (c ∷ rest) _ (one_plain base b one) (digits_more_taken (suc n) (c ∷ rest))))
        (λ no. rw no (choice (DigitsTaken base end n (b ∷ c ∷ rest)) (eqb b 95 && is_one base c) _ _
        (λ both. before_taken n _ c (b ∷ c ∷ rest)
        (taken_joined n b c rest (&&-left _ _ both) (one_plain base c (&&-right (eqb b 95) _ both))) _
        (digits_more_taken (suc (suc n)) rest))
        (λ _. taken_none n (b ∷ c ∷ rest))))

    pub digits_taken : (n : ℕ) (xs : List ℕ) → DigitsTaken base end n xs (digits base end n xs)
    unfolding digits
    digits_taken n [] = last_taken n []
    digits_taken n (b ∷ rest) =
        either (is_one base b) (λ one. rw one (one_taken n b rest _ (one_plain base b one) (digits_more_taken (suc n) rest)))
        (λ none. rw none (taken_none n (b ∷ rest)))

    closing_taken : (literal : Literal) (n : ℕ) (xs : List ℕ) (d : Digits) → DigitsTaken base end n xs d
        → NumberTaken base end n xs (closing literal d)
    unfolding closing
    closing_taken literal n xs (Digits.Read ds after) t = t
    closing_taken literal n xs Digits.Undecided t = t

    onto_taken : (n m : ℕ) (xs ds : List ℕ) (t : Taken base n xs ds m) (r : Reading)
        → NumberTaken base end m (drop t.count xs) r → NumberTaken base end n xs (onto ds r)
    unfolding onto
    onto_taken n m xs ds t (Reading.Number literal value after) u = taken_append n m after xs ds value t u
    onto_taken n m xs ds t Reading.Wait u = u

    followed_taken : (n : ℕ) (xs : List ℕ) (d : Digits) (next : ℕ → List ℕ → Reading) → ((m : ℕ) (ys : List ℕ) → NumberTaken base end m ys (next m ys)) → DigitsTaken base end n xs d → NumberTaken base end n xs (followed d (λ (after : ℕ). next after (drop (after - n) xs)))
    unfolding followed
    followed_taken n xs (Digits.Read ds after) next each t =
        let count : after - n ≡ t.count = omega (arith, t.place) in
        onto_taken n after xs ds t _ (rw count (each after (drop t.count xs)))
    followed_taken n xs Digits.Undecided next each t = t

-- after a point or an `e`, and before them
module _ (end : Bool) where
  signed_taken : (n : ℕ) (xs : List ℕ) → DigitsTaken Base.Decimal end n xs (signed end n xs)
  unfolding signed is_sign
  signed_taken n [] = last_taken Base.Decimal end n []
  signed_taken n (b ∷ rest) =
      choice (DigitsTaken Base.Decimal end n (b ∷ rest)) (is_sign b) _ _
      (λ sign. one_taken Base.Decimal end n b rest _ (passes_plain Base.Decimal b is_sign refl refl sign)
      (digits_taken Base.Decimal end (suc n) rest))
      (λ _. digits_taken Base.Decimal end n (b ∷ rest))

  -- `E` and `e` alike are told as `e`
  mark_told : (b : ℕ) → is_exponent b ≡ true → 101 ∷ [] ≡ spelled Base.Decimal (b ∷ [])
  unfolding is_exponent spelled spelling lower_exponent
  mark_told b h = letter_either (λ (k : ℕ). 101 ∷ [] ≡ spelled Base.Decimal (k ∷ [])) b 101 69 h refl refl

  power_taken : (n b : ℕ) (rest : List ℕ) → is_exponent b ≡ true → NumberTaken Base.Decimal end n (b ∷ rest) (power end (suc n) rest)
  unfolding power
  power_taken n b rest h =
      onto_taken Base.Decimal end n (suc n) (b ∷ rest) (101 ∷ [])
      (taken_one Base.Decimal n b rest (101 ∷ []) (mark_told b h)) _
      (closing_taken Base.Decimal end Literal.Float (suc n) rest _ (signed_taken (suc n) rest))

  exponent_taken : (n : ℕ) (xs : List ℕ) → NumberTaken Base.Decimal end n xs (exponent end n xs)
  unfolding exponent
  exponent_taken n [] = closing_taken Base.Decimal end Literal.Float n [] _ (last_taken Base.Decimal end n [])
  exponent_taken n (b ∷ rest) =
      either (is_exponent b) (λ mark. rw mark (power_taken n b rest mark)) (λ mark. rw mark (taken_none Base.Decimal n (b ∷ rest)))

  fraction_taken : (n : ℕ) (xs : List ℕ) → NumberTaken Base.Decimal end n xs (fraction end n xs)
  unfolding fraction
  fraction_taken n xs = followed_taken Base.Decimal end n xs _ (exponent end) exponent_taken (digits_taken Base.Decimal end n xs)

  -- a look ahead is undecided only where more may come
  abbrev Known : Ahead → Type 0
  Known Ahead.Yes = Unit {0}
  Known Ahead.No = Unit {0}
  Known Ahead.Undecided = end ≡ false

  digit_ahead_known : (xs : List ℕ) → Known (digit_ahead end xs)
  unfolding digit_ahead
  digit_ahead_known [] = choice Known end _ _ (λ _. tt) (λ h. h)
  digit_ahead_known (b ∷ rest) = choice Known (is_digit b) _ _ (λ _. tt) (λ _. tt)

  power_ahead_known : (xs : List ℕ) → Known (power_ahead end xs)
  unfolding power_ahead
  power_ahead_known [] = choice Known end _ _ (λ _. tt) (λ h. h)
  power_ahead_known (b ∷ rest) = choice Known (is_sign b) _ _ (λ _. digit_ahead_known rest) (λ _. digit_ahead_known (b ∷ rest))

  decided_taken : (n : ℕ) (xs : List ℕ) (ahead : Ahead) (some none : Reading) → Known ahead
      → NumberTaken Base.Decimal end n xs some → NumberTaken Base.Decimal end n xs none
      → NumberTaken Base.Decimal end n xs (decided ahead some none)
  unfolding decided
  decided_taken n xs Ahead.Yes some none k s t = s
  decided_taken n xs Ahead.No some none k s t = t
  decided_taken n xs Ahead.Undecided some none k s t = k

  tail_taken : (n : ℕ) (xs : List ℕ) → NumberTaken Base.Decimal end n xs (tail end n xs)
  unfolding tail marked
  tail_taken n [] = closing_taken Base.Decimal end Literal.Integer n [] _ (last_taken Base.Decimal end n [])
  tail_taken n (b ∷ rest) =
      choice (NumberTaken Base.Decimal end n (b ∷ rest)) (eqb b 46) _ _
      (λ point. onto_taken Base.Decimal end n (suc n) (b ∷ rest) (b ∷ [])
      (taken_one Base.Decimal n b rest (b ∷ []) (passes_plain Base.Decimal b (λ (k : ℕ). eqb k 46) refl refl point)) _
      (fraction_taken (suc n) rest))
      (λ _. choice (NumberTaken Base.Decimal end n (b ∷ rest)) (is_exponent b) _ _
      (λ mark. decided_taken n (b ∷ rest) _ _ _ (power_ahead_known rest) (power_taken n b rest mark) (taken_none Base.Decimal n (b ∷ rest)))
      (λ _. taken_none Base.Decimal n (b ∷ rest)))

  decimal_taken : (n : ℕ) (xs : List ℕ) → NumberTaken Base.Decimal end n xs (decimal end n xs)
  unfolding decimal
  decimal_taken n xs = followed_taken Base.Decimal end n xs _ (tail end) tail_taken (digits_taken Base.Decimal end n xs)

-- the two bytes that name a base
pub record Prefix (base : Base) (xs : List ℕ) : Type 0 where
  pub inside : 2 ≤ length xs
  pub told : take 2 xs ≡ spelled base (take 2 xs)

letter_plain : (base : Base) (c : ℕ) → base_named c ≡ base → (base ≡ Base.Decimal → ⊥) → Plain base c
unfolding base_named
letter_plain base c e other = plain base c (ne_eqb c 95 (λ k. other (sym (rw k at e)))) (ne_eqb c 69 (λ k. other (sym (rw k at e))))

pub prefix : (base : Base) (xs : List ℕ) → base_of xs ≡ base → (base ≡ Base.Decimal → ⊥) → Prefix base xs
unfolding base_of
prefix base [] e other = absurd (other (sym e))
prefix base (b ∷ []) e other = absurd (other (sym e))
prefix base (b ∷ c ∷ rest) e other =
    either (eqb b 48)
    (λ h.
    let named : base_named c ≡ base = rw h at e in
    let zero : Plain base b = passes_plain base b (λ (k : ℕ). eqb k 48) refl refl h in
    let two = spelled_append base (b ∷ []) (c ∷ []) ∙ sym (ap (λ (v : List ℕ). v ++ spelled base (c ∷ [])) zero) in
    record { inside = omega arith; told = ap (λ (v : List ℕ). b ∷ v) (letter_plain base c named other) ∙ sym two })
    (λ h. let z : Base.Decimal ≡ base = rw h at e in absurd (other (sym z)))

module _ (end : Bool) (n : ℕ) (xs : List ℕ) where
  prefixed_taken : (base : Base) → base_of xs ≡ base → (base ≡ Base.Decimal → ⊥) → NumberTaken base end n xs (prefixed base end n xs)
  unfolding prefixed
  prefixed_taken base e other =
      let p = prefix base xs e other in
      onto_taken base end n (suc (suc n)) xs (take 2 xs)
      (record { count = 2; place = omega arith; inside = p.inside; told = p.told }) _
      (closing_taken base end Literal.Integer _ (drop 2 xs) _ (digits_taken base end (suc (suc n)) (drop 2 xs)))

  pub number_at_taken : NumberTaken (base_of xs) end n xs (number_at end n xs)
  unfolding number_at number_in
  number_at_taken = go (base_of xs) refl
    where
      go : (base : Base) → base_of xs ≡ base → NumberTaken base end n xs (number_in base end n xs)
      go Base.Binary e = prefixed_taken Base.Binary e (λ z. let w : Base.Binary ≡ Base.Decimal = z in let y : ◌≡◌ {A = ℕ} 0 1 = cc in omega arith)
      go Base.Octal e = prefixed_taken Base.Octal e (λ z. let w : Base.Octal ≡ Base.Decimal = z in let y : ◌≡◌ {A = ℕ} 0 1 = cc in omega arith)
      go Base.Hex e = prefixed_taken Base.Hex e (λ z. let w : Base.Hex ≡ Base.Decimal = z in let y : ◌≡◌ {A = ℕ} 0 1 = cc in omega arith)
      go Base.Decimal e = decimal_taken end n xs

  module _ (literal : Literal) (value : List ℕ) (after : ℕ) (e : number_at end n xs ≡ Reading.Number literal value after) where
    taken : Taken (base_of xs) n xs value after
    taken = rw e at number_at_taken

    pub number_at_value : value ≡ spelled (base_of xs) (take (after - n) xs)
    number_at_value =
        let count : after - n ≡ taken.count = omega (arith, taken.place) in
        rw count taken.told

    pub number_at_inside : (n ≤ after) × (after ≤ n + length xs)
    number_at_inside = (omega (arith, taken.place), omega (arith, taken.place, taken.inside))

    pub number_at_shorter : length value ≤ after - n
    number_at_shorter =
        let size : length (take taken.count xs) ≡ taken.count = length-take-le taken.count xs taken.inside in
        let shorter = (length_spelled (base_of xs) (base_of xs) (take taken.count xs)).1 in
        rw taken.told (omega (arith, shorter, taken.place))

-- so what `write_number` writes of a number in the source is its value
pub number_at_value_of : (end : Bool) (src : List ℕ) (at : ℕ) (literal : Literal) (value : List ℕ) (after : ℕ) → number_at end at (drop at src) ≡ Reading.Number literal value after → value ≡ value_of src at after
unfolding value_of
number_at_value_of end src at literal value after e = number_at_value end at (drop at src) literal value after e

-- the parts of an extent
abbrev literal_in : Literal → Option Extent → Literal
literal_in none (Some extent) = extent.literal
literal_in none None = none

abbrev after_in : Option Extent → ℕ
after_in (Some extent) = extent.after
after_in None = 0

-- so kind and place tell the whole number
pub number_at_extent : (end : Bool) (n : ℕ) (xs : List ℕ) (literal : Literal) (after : ℕ)
    → extent_of (number_at end n xs) ≡ extent_at literal after
    → number_at end n xs ≡ Reading.Number literal (spelled (base_of xs) (take (after - n) xs)) after
unfolding extent_of
number_at_extent end n xs literal after e = go (number_at end n xs) refl e
  where
    go : (r : Reading) → number_at end n xs ≡ r → extent_of r ≡ extent_at literal after
        → number_at end n xs ≡ Reading.Number literal (spelled (base_of xs) (take (after - n) xs)) after
    go (Reading.Number kind value place) q e =
        let kinds : kind ≡ literal = ap (literal_in literal) e in
        let places : place ≡ after = ap after_in e in
        let same : number_at end n xs ≡ Reading.Number literal value after = q ∙ cc in
        rw (← number_at_value end n xs literal value after same) same
    go Reading.Wait q e = let z : None ≡ extent_at literal after = e in cc

-- at the announced end no reading waits
pub number_at_ends : (n : ℕ) (xs : List ℕ) → number_at true n xs ≡ Reading.Wait → ⊥
number_at_ends n xs e =
    let z : true ≡ false = subst (λ (r : Reading). NumberTaken (base_of xs) true n xs r) e (number_at_taken true n xs) in
    false≢true (sym z)

-- a number ends after n
abbrev pub Passes : ℕ → Reading → Type 0
Passes n (Reading.Number literal value after) = n < after
Passes n Reading.Wait = Unit {0}

-- a number whose value has a byte
abbrev Begun : Reading → Type 0
Begun (Reading.Number literal [] after) = ⊥
Begun (Reading.Number literal (b ∷ value) after) = Unit {0}
Begun Reading.Wait = Unit {0}

onto_begun : (b : ℕ) (bs : List ℕ) (r : Reading) → Begun (onto (b ∷ bs) r)
unfolding onto
onto_begun b bs (Reading.Number literal value after) = tt
onto_begun b bs Reading.Wait = tt

followed_begun : (b : ℕ) (d : Digits) (next : ℕ → Reading) → Begun (followed (before b d) next)
unfolding followed before
followed_begun b (Digits.Read ds after) next = onto_begun b ds (next after)
followed_begun b Digits.Undecided next = tt

module _ (end : Bool) (n : ℕ) where
  begun_passes : (xs : List ℕ) → Begun (number_at end n xs) → Passes n (number_at end n xs)
  begun_passes xs h = go (number_at end n xs) refl h
    where
      go : (r : Reading) → number_at end n xs ≡ r → Begun r → Passes n r
      go (Reading.Number literal [] after) e h = absurd h
      go (Reading.Number literal (b ∷ value) after) e h =
          omega (arith, number_at_shorter end n xs literal (b ∷ value) after e)
      go Reading.Wait e h = tt

  pub digit_passes : (b : ℕ) (rest : List ℕ) → is_digit b ≡ true → Passes n (number_at end n (b ∷ rest))
  unfolding number_at number_in prefixed decimal digits is_one
  digit_passes b rest digit = begun_passes (b ∷ rest) (go (base_of (b ∷ rest)))
    where
      go : (base : Base) → Begun (number_in base end n (b ∷ rest))
      go Base.Binary = onto_begun b (take 1 rest) _
      go Base.Octal = onto_begun b (take 1 rest) _
      go Base.Hex = onto_begun b (take 1 rest) _
      go Base.Decimal = rw digit (followed_begun b _ _)

  pub point_passes : (b : ℕ) (rest : List ℕ) → Passes n (number_at end n (code "." ∷ b ∷ rest))
  unfolding number_at number_in base_of decimal digits is_one is_digit followed tail onto
  point_passes b rest =
      let z : n - n ≡ 0 = omega arith in
      begun_passes (code "." ∷ b ∷ rest) (rw z (go (fraction end (suc n) (b ∷ rest))))
    where
      go : (r : Reading) → Begun (onto [] (onto (code "." ∷ []) r))
      go (Reading.Number literal value after) = tt
      go Reading.Wait = tt
