-- The literals of the PHP manual are read whole: kind, value and place. What follows must not carry them on (`closes`). Told
-- by kind and place, since the value follows (`read_whole`). Assumes nothing.
--   Stops, Nameless   what follows is no digit and no `_`; names no base after a 0
--   run_digits        digits end where the run of them does
--   Front             a decimal text up to where something else is read
--   integer_read      decimal, hexadecimal, octal, binary
--   float_read        DNUM, EXPONENT_DNUM
--   differences       texts that the manual does not have as literals, and what is read of them
use Rattle.std.specs.Prelude.{if◌then◌else◌, Some}
use Prim.Native.Nat.{ℕ, suc, ◌+◌, ◌-◌, ◌≤◌}
use mathlib.Core.Path.{◌≡◌, refl, ap, ◌∙◌}
use mathlib.Core.Bool.{Bool, true, false, not, ◌&&◌, ◌||◌, false≢true}
use mathlib.Core.List.{List, [], ◌∷◌, ◌++◌, append_assoc, append-nil}
use native.Mathlib.Omega.{arith}
use lib.Dec.{eqb, leb}
use lib.ListN.{length, drop, length-append}
use lib.Seq.{drop_at, take-append_seam}
use borrow.Author.Tests.{leb-true, le-leb, eqb-true}
use Rattle.byte.specs.Words.{bytes}
use Rattle.byte.specs.Bytes.{is_digit, is_octal, is_hex, is_letter, is_start, is_identifier}
use Rattle.byte.proofs.Tests.{&&-left, &&-right, &&-both, choice}
use Rattle.number.specs.declared.Ahead.{Ahead}
use Rattle.number.specs.declared.Base.{Base}
use Rattle.number.specs.declared.Literal.{Literal}
use Rattle.number.specs.Numbers.{Digits, Reading, is_one, base_named, base_of, is_exponent, before, last, digits_more}
use Rattle.number.specs.Numbers.{digits, closing, followed, exponent, tail, decimal, prefixed, number_in, number_at}
use Rattle.number.specs.Numbers.{spelled, is_sign, signed, onto, power, fraction, digit_ahead, power_ahead, decided}
use Rattle.number.specs.Numbers.{marked}
use Rattle.number.specs.Code.{extent_at, place_of, extent_of, closing_extent}
use Rattle.number.specs.Manual.{grouped, is_lnum, maybe_lnum, closes, is_binary, maybe_sign, IntegerLiteral, Dnum}
use Rattle.number.specs.Manual.{FloatLiteral}
use Rattle.number.proofs.Values.{either, other, number_at_extent, letter_either}
use Rattle.number.proofs.Runs.{digits_more_byte, place_of_before, extent_of_onto, extent_of_closing, followed_place}

-- no digit and no `_` follows
abbrev Stops : Base → Bool → List ℕ → Type 0
Stops base end [] = end ≡ true
Stops base end (b ∷ rest) = (is_one base b ≡ false) × (eqb b 95 ≡ false)

-- a literal's whole text is read, as what it is
abbrev pub ReadWhole : Literal → Base → Bool → ℕ → List ℕ → List ℕ → Type 0
ReadWhole literal base end n text rest = number_at end n (text ++ rest) ≡ Reading.Number literal (spelled base text) (n + length text)

read_whole : (literal : Literal) (base : Base) (end : Bool) (n : ℕ) (text rest : List ℕ)
    → base_of (text ++ rest) ≡ base → extent_of (number_at end n (text ++ rest)) ≡ extent_at literal (n + length text)
    → ReadWhole literal base end n text rest
read_whole literal base end n text rest named e =
    let count : n + length text - n ≡ length text = omega arith in
    number_at_extent end n (text ++ rest) literal _ e ∙ rw (count, take-append_seam text rest, named) refl

-- digits end where what stops them begins, in front and after a digit
stops_place : (base : Base) (end : Bool) (n : ℕ) (rest : List ℕ) → Stops base end rest
    → (place_of (digits base end n rest) ≡ Some n) × (place_of (digits_more base end n rest) ≡ Some n)
unfolding digits digits_more last place_of
stops_place base end n [] h = (rw h refl, rw h refl)
stops_place base end n (b ∷ rest) h =
    (rw h.0 refl, ap place_of (digits_more_byte base end n b rest) ∙ rw (h.0, h.1) refl)

module _ (base : Base) (end : Bool) (rest : List ℕ) (stops : Stops base end rest) where
  -- one digit more in front
  run_one : (n b m k : ℕ) (xs : List ℕ) → place_of (digits_more base end m xs) ≡ Some (m + k) → m + k ≡ n
      → place_of (before b (digits_more base end m xs)) ≡ Some n
  run_one n b m k xs h e = place_of_before b (digits_more base end m xs) ∙ h ∙ ap Some e

  run_more : (n : ℕ) (xs : List ℕ) → grouped (is_one base) true xs ≡ true
      → place_of (digits_more base end n (xs ++ rest)) ≡ Some (n + length xs)
  unfolding grouped digits_more
  run_more n [] g = (stops_place base end n rest stops).1 ∙ ap Some (omega arith)
  run_more n (b ∷ []) g =
      ap place_of (digits_more_byte base end n b rest)
      ∙ choice (λ (d : Digits). place_of d ≡ Some (n + 1)) (is_one base b) _ _
      (λ one. run_one (n + 1) b (suc n) 0 rest (run_more (suc n) [] refl) (omega arith))
      (λ none. absurd (false≢true (&&-right (eqb b 95) false (rw none at g))))
  run_more n (b ∷ c ∷ xs) g =
      choice (λ (d : Digits). place_of d ≡ Some (n + length (b ∷ c ∷ xs))) (is_one base b) _ _
      (λ one. run_one _ b (suc n) (length (c ∷ xs)) (c ∷ (xs ++ rest))
      (run_more (suc n) (c ∷ xs) (rw one at g)) (omega arith))
      (λ none.
      let pair : (eqb b 95 && (if is_one base c then grouped (is_one base) true xs else false)) ≡ true = rw none at g in
      let under : eqb b 95 ≡ true = &&-left (eqb b 95) _ pair in
      rw under
      (choice (λ (d : Digits). place_of d ≡ Some (n + length (b ∷ c ∷ xs))) (is_one base c) _ _
      (λ one. run_one _ c (suc (suc n)) (length xs) (xs ++ rest)
      (run_more (suc (suc n)) xs (rw one at (&&-right (eqb b 95) _ pair))) (omega arith))
      (λ lone. absurd (false≢true (rw lone at (&&-right (eqb b 95) _ pair))))))

  run_digits : (n : ℕ) (xs : List ℕ) → grouped (is_one base) false xs ≡ true
      → place_of (digits base end n (xs ++ rest)) ≡ Some (n + length xs)
  unfolding grouped digits
  run_digits n [] g = absurd (false≢true g)
  run_digits n (b ∷ xs) g =
      choice (λ (d : Digits). place_of d ≡ Some (n + length (b ∷ xs))) (is_one base b) _ _
      (λ one. run_one _ b (suc n) (length xs) _ (run_more (suc n) xs (rw one at g)) (omega arith))
      (λ none. absurd (false≢true (rw none at g)))

||-true : (a b : Bool) → b ≡ true → (a || b) ≡ true
||-true true b e = refl
||-true false b e = e

-- a class within a wider one
pub range_in : (b low high low' high' : ℕ) → low' ≤ low → high ≤ high' → (leb low b && leb b high) ≡ true
    → (leb low' b && leb b high') ≡ true
range_in b low high low' high' h k e =
    let above : low ≤ b = leb-true low b (&&-left (leb low b) (leb b high) e) in
    let below : b ≤ high = leb-true b high (&&-right (leb low b) (leb b high) e) in
    &&-both (leb low' b) (leb b high') (le-leb low' b (omega arith)) (le-leb b high' (omega arith))

one_identifier : (base : Base) (b : ℕ) → is_one base b ≡ true → is_identifier b ≡ true
unfolding is_one is_octal is_digit is_hex is_letter is_identifier is_start
one_identifier Base.Binary b h = rw (range_in b 48 49 48 57 (omega arith) (omega arith) h) refl
one_identifier Base.Octal b h = rw (range_in b 48 55 48 57 (omega arith) (omega arith) h) refl
one_identifier Base.Decimal b h = rw h refl
one_identifier Base.Hex b h =
    either (leb 48 b && leb b 57) (λ d. rw d refl)
    (λ d. either (leb 65 b && leb b 70) (λ u. rw (d, range_in b 65 70 65 90 (omega arith) (omega arith) u) refl)
    (λ u.
    let lower : (leb 97 b && leb b 102) ≡ true = rw (d, u) at h in
    rw (d, ||-true (leb 65 b && leb b 90) _ (range_in b 97 102 97 122 (omega arith) (omega arith) lower)) refl))

-- a byte that names no base, told by a test
pub names_none : (c : ℕ) (test : ℕ → Bool) → test 98 ≡ false → test 66 ≡ false → test 111 ≡ false → test 79 ≡ false
    → test 120 ≡ false → test 88 ≡ false → test c ≡ true → base_named c ≡ Base.Decimal
unfolding base_named
names_none c test b B o O x X h =
    rw (other c 98 test b h, other c 66 test B h, other c 111 test o h, other c 79 test O h)
    (rw (other c 120 test x h, other c 88 test X h) refl)

-- after a 0 it names no base, so after no byte
abbrev pub Nameless : List ℕ → Type 0
Nameless xs = base_of (48 ∷ xs) ≡ Base.Decimal

base_nameless : (b : ℕ) (ys : List ℕ) → Nameless ys → base_of (b ∷ ys) ≡ Base.Decimal
unfolding base_of
base_nameless b [] p = refl
base_nameless b (c ∷ ys) p = choice (λ (k : Base). k ≡ Base.Decimal) (eqb b 48) _ _ (λ _. p) (λ _. refl)

digits_nameless : (xs rest : List ℕ) → grouped is_digit true xs ≡ true → Nameless rest → Nameless (xs ++ rest)
unfolding grouped is_digit base_of
digits_nameless [] rest g p = p
digits_nameless (c ∷ xs) rest g p =
    either (is_digit c) (λ first. names_none c is_digit refl refl refl refl refl refl first)
    (λ none.
    let pair : (eqb c 95 && grouped is_digit false xs) ≡ true = rw none at g in
    names_none c (λ (k : ℕ). eqb k 95) refl refl refl refl refl refl (&&-left (eqb c 95) _ pair))

-- what `closes` says of a byte
abbrev outside : ℕ → Bool
outside k = not (is_identifier k || eqb k 46)

closed_one : (b : ℕ) → outside b ≡ true → (base : Base) → is_one base b ≡ false
closed_one b h base =
    either (is_one base b) (λ e. absurd (false≢true (rw (one_identifier base b e) at h))) (λ e. e)

module _ (end : Bool) where
  closes_stops : (base : Base) (rest : List ℕ) → closes end rest ≡ true → Stops base end rest
  unfolding closes is_identifier is_start is_letter is_digit
  closes_stops base [] h = h
  closes_stops base (b ∷ rest) h = (closed_one b h base, other b 95 outside refl h)

  closes_nameless : (rest : List ℕ) → closes end rest ≡ true → Nameless rest
  unfolding closes base_of is_identifier is_start is_letter is_digit
  closes_nameless [] h = refl
  closes_nameless (b ∷ rest) h = names_none b outside refl refl refl refl refl refl h

  closes_over : (n : ℕ) (rest : List ℕ) → closes end rest ≡ true
      → (tail end n rest ≡ Reading.Number Literal.Integer [] n)
      × (exponent end n rest ≡ Reading.Number Literal.Float [] n)
  unfolding closes tail exponent closing last is_exponent is_identifier is_start is_letter is_digit
  closes_over n [] h = (rw h refl, rw h refl)
  closes_over n (b ∷ rest) h =
      let mark : is_exponent b ≡ false = rw (other b 101 outside refl h, other b 69 outside refl h) in
      (rw (other b 46 outside refl h, mark) refl, rw mark refl)

-- an LNUM has a first digit
pub data Lnum : List ℕ → Type 0 where
  digit : (b : ℕ) (xs : List ℕ) → is_digit b ≡ true → grouped is_digit true xs ≡ true → Lnum (b ∷ xs)

pub lnum : (xs : List ℕ) → is_lnum xs ≡ true → Lnum xs
unfolding is_lnum grouped
lnum [] g = absurd (false≢true g)
lnum (b ∷ xs) g =
    either (is_digit b) (λ first. digit b xs first (rw first at g)) (λ none. absurd (false≢true (rw none at g)))

pub lnum_base : (xs rest : List ℕ) → Lnum xs → Nameless rest → base_of (xs ++ rest) ≡ Base.Decimal
lnum_base _ rest (digit b xs first more) p = base_nameless b (xs ++ rest) (digits_nameless xs rest more p)

pub lnum_maybe : (xs : List ℕ) → is_lnum xs ≡ true → maybe_lnum xs ≡ true
unfolding maybe_lnum
lnum_maybe [] h = refl
lnum_maybe (b ∷ xs) h = h

-- a decimal text, and after it what another reading tells
record Front (end : Bool) (n : ℕ) (text rest : List ℕ) (r : Reading) : Type 0 where
  base : base_of (text ++ rest) ≡ Base.Decimal
  same : extent_of (number_at end n (text ++ rest)) ≡ extent_of r

front_read : (literal : Literal) (end : Bool) (n : ℕ) (text rest : List ℕ) (r : Reading) → Front end n text rest r
    → extent_of r ≡ extent_at literal (n + length text) → ReadWhole literal Base.Decimal end n text rest
front_read literal end n text rest r f e = read_whole literal Base.Decimal end n text rest f.base (f.same ∙ e)

module _ (end : Bool) where
  maybe_digits : (n : ℕ) (xs rest : List ℕ) → maybe_lnum xs ≡ true → Stops Base.Decimal end rest
      → place_of (digits Base.Decimal end n (xs ++ rest)) ≡ Some (n + length xs)
  unfolding maybe_lnum is_lnum is_one
  maybe_digits n [] rest g stops = (stops_place Base.Decimal end n rest stops).0 ∙ ap Some (omega arith)
  maybe_digits n (b ∷ xs) rest g stops = run_digits Base.Decimal end rest stops n (b ∷ xs) g

  -- digits, then what stands after them
  followed_run : (next : ℕ → List ℕ → Reading) (n : ℕ) (xs rest : List ℕ) → maybe_lnum xs ≡ true
      → Stops Base.Decimal end rest → extent_of (followed (digits Base.Decimal end n (xs ++ rest))
      (λ (after : ℕ). next after (drop (after - n) (xs ++ rest)))) ≡ extent_of (next (n + length xs) rest)
  followed_run next n xs rest g stops =
      let count : n + length xs - n ≡ length xs = omega arith in
      followed_place _ _ _ (maybe_digits n xs rest g stops) ∙ rw (count, drop_at xs rest (length xs) refl) refl

  whole_front : (n : ℕ) (xs rest : List ℕ) → maybe_lnum xs ≡ true → Stops Base.Decimal end rest
      → base_of (xs ++ rest) ≡ Base.Decimal → Front end n xs rest (tail end (n + length xs) rest)
  unfolding number_at number_in decimal
  whole_front n xs rest g stops named =
      record { base = named; same = rw named (followed_run (tail end) n xs rest g stops) }

  lnum_front : (n : ℕ) (xs rest : List ℕ) → is_lnum xs ≡ true → Stops Base.Decimal end rest → Nameless rest
      → Front end n xs rest (tail end (n + length xs) rest)
  lnum_front n xs rest g stops p = whole_front n xs rest (lnum_maybe xs g) stops (lnum_base xs rest (lnum xs g) p)

  lnum_read : (n : ℕ) (xs rest : List ℕ) → is_lnum xs ≡ true → closes end rest ≡ true
      → ReadWhole Literal.Integer Base.Decimal end n xs rest
  unfolding extent_of
  lnum_read n xs rest g h =
      let front = lnum_front n xs rest g (closes_stops end Base.Decimal rest h) (closes_nameless end rest h) in
      front_read Literal.Integer end n xs rest _ front (ap extent_of (closes_over end (n + length xs) rest h).0)

  -- the two bytes that name a base, and its digits
  prefixed_read : (base : Base) (n x : ℕ) (ds rest : List ℕ)
      → ((xs : List ℕ) → number_in base end n xs ≡ prefixed base end n xs) → base_named x ≡ base
      → grouped (is_one base) false ds ≡ true → closes end rest ≡ true
      → ReadWhole Literal.Integer base end n (48 ∷ x ∷ ds) rest
  unfolding number_at base_of prefixed extent_of closing_extent
  prefixed_read base n x ds rest same named g h =
      read_whole Literal.Integer base end n (48 ∷ x ∷ ds) rest named
      (rw (named, same (48 ∷ x ∷ (ds ++ rest)), extent_of_onto, extent_of_closing)
      (ap (closing_extent Literal.Integer)
      (run_digits base end rest (closes_stops end base rest h) (suc (suc n)) ds g ∙ ap Some (omega arith))))

-- octal digits are decimal digits
pub grouped_octal : (behind wider : Bool) (xs : List ℕ) → (behind ≡ true → wider ≡ true) → grouped is_octal behind xs ≡ true → grouped is_digit wider xs ≡ true
unfolding grouped is_octal is_digit
grouped_octal behind wider [] k g = k g
grouped_octal behind wider (b ∷ xs) k g =
    either (is_octal b)
    (λ o.
    let first : is_digit b ≡ true = range_in b 48 55 48 57 (omega arith) (omega arith) o in
    rw first (grouped_octal true true xs (λ e. e) (rw o at g)))
    (λ o.
    let all : (behind && (eqb b 95 && grouped is_octal false xs)) ≡ true = rw o at g in
    let pair = &&-right behind (eqb b 95 && grouped is_octal false xs) all in
    let under : eqb b 95 ≡ true = &&-left (eqb b 95) (grouped is_octal false xs) pair in
    let none : is_digit b ≡ false = rw (eqb-true b 95 under) in
    rw (none, k (&&-left behind _ all), under)
    (grouped_octal false false xs (λ e. e) (&&-right (eqb b 95) (grouped is_octal false xs) pair)))

-- an integer literal of the manual
pub integer_read : (end : Bool) (n : ℕ) (text rest : List ℕ) → IntegerLiteral text → closes end rest ≡ true → ReadWhole Literal.Integer (base_of text) end n text rest
unfolding is_lnum grouped is_digit is_one is_octal is_hex is_binary number_in base_named base_of
integer_read end n _ rest (IntegerLiteral.decimal b ds first g) h =
    let first : is_digit b ≡ true = range_in b 49 57 48 57 (omega arith) (omega arith) first in
    let whole : is_lnum (b ∷ ds) ≡ true = rw first g in
    rw (base_nameless b ds (rw append-nil at (digits_nameless ds [] g refl))) (lnum_read end n (b ∷ ds) rest whole h)
integer_read end n _ rest IntegerLiteral.nought h = lnum_read end n (48 ∷ []) rest refl h
integer_read end n _ rest (IntegerLiteral.octal ds g) h =
    let wide = grouped_octal false true ds (λ e. absurd (false≢true e)) g in
    rw (base_nameless 48 ds (rw append-nil at (digits_nameless ds [] wide refl)))
    (lnum_read end n (48 ∷ ds) rest wide h)
integer_read end n _ rest (IntegerLiteral.hexadecimal x ds letter g) h =
    let named : base_named x ≡ Base.Hex = letter_either (λ (k : ℕ). base_named k ≡ Base.Hex) x 120 88 letter refl refl in
    rw named (prefixed_read end Base.Hex n x ds rest (λ _. refl) named g h)
integer_read end n _ rest (IntegerLiteral.octal_marked x ds letter g) h =
    let named : base_named x ≡ Base.Octal = letter_either (λ (k : ℕ). base_named k ≡ Base.Octal) x 111 79 letter refl refl in
    rw named (prefixed_read end Base.Octal n x ds rest (λ _. refl) named g h)
integer_read end n _ rest (IntegerLiteral.binary x ds letter g) h =
    let named : base_named x ≡ Base.Binary = letter_either (λ (k : ℕ). base_named k ≡ Base.Binary) x 98 66 letter refl refl in
    rw named (prefixed_read end Base.Binary n x ds rest (λ _. refl) named g h)

-- an exponent's letter stops digits, names no base and is no point
record Mark (end : Bool) (e : ℕ) (ys : List ℕ) : Type 0 where
  stops : Stops Base.Decimal end (e ∷ ys)
  nameless : Nameless (e ∷ ys)
  point : eqb e 46 ≡ false

mark : (end : Bool) (e : ℕ) (ys : List ℕ) → is_exponent e ≡ true → Mark end e ys
unfolding is_exponent is_one is_digit base_named base_of
mark end e ys h =
    letter_either (λ (k : ℕ). Mark end k ys) e 101 69 h (record { stops = (refl, refl); nameless = refl; point = refl })
    (record { stops = (refl, refl); nameless = refl; point = refl })

-- a digit is no sign
pub digit_sign : (b : ℕ) → is_digit b ≡ true → is_sign b ≡ false
unfolding is_sign is_digit
digit_sign b h = rw (other b 43 is_digit refl h, other b 45 is_digit refl h)

module _ (end : Bool) where
  pub point_base : (xs ys : List ℕ) → maybe_lnum xs ≡ true → base_of (xs ++ (46 ∷ ys)) ≡ Base.Decimal
  unfolding base_of base_named maybe_lnum
  point_base [] [] h = refl
  point_base [] (c ∷ ys) h = refl
  point_base (b ∷ xs) ys h = lnum_base (b ∷ xs) (46 ∷ ys) (lnum (b ∷ xs) h) refl

  -- a point, with or without digits on either side, and what stands after
  point_front : (n : ℕ) (whole part rest : List ℕ) → maybe_lnum whole ≡ true → maybe_lnum part ≡ true
      → Stops Base.Decimal end rest
      → Front end n (whole ++ (46 ∷ part)) rest (exponent end (n + length (whole ++ (46 ∷ part))) rest)
  unfolding tail fraction is_one is_digit
  point_front n whole part rest w f stops =
      let place : suc (n + length whole) + length part ≡ n + length (whole ++ (46 ∷ part)) =
      rw (length-append whole (46 ∷ part)) (omega arith) in
      let front = whole_front end n whole (46 ∷ (part ++ rest)) w (refl, refl) (point_base whole (part ++ rest) w) in
      let behind = followed_run end (exponent end) (suc (n + length whole)) part rest f stops in
      let same = append_assoc whole (46 ∷ part) rest in
      record {
        base = rw same front.base;
        same = rw same (front.same ∙ extent_of_onto (46 ∷ []) _ ∙ rw (← place) behind);
      }

  dnum_front : (n : ℕ) (text rest : List ℕ) → Dnum text → Stops Base.Decimal end rest
      → Front end n text rest (exponent end (n + length text) rest)
  dnum_front n _ rest (Dnum.back whole part w f) stops = point_front n whole part rest w (lnum_maybe part f) stops
  dnum_front n _ rest (Dnum.front whole part w f) stops = point_front n whole part rest (lnum_maybe whole w) f stops

  -- after the `e`: a sign or none, and digits, which a look ahead finds
  signed_run : (n : ℕ) (sign power rest : List ℕ) → maybe_sign sign ≡ true → Lnum power → maybe_lnum power ≡ true
      → Stops Base.Decimal end rest
      → (place_of (signed end n (sign ++ (power ++ rest))) ≡ Some (n + length (sign ++ power)))
      × (power_ahead end (sign ++ (power ++ rest)) ≡ Ahead.Yes)
  unfolding maybe_sign signed is_sign power_ahead digit_ahead
  signed_run n [] _ rest h (digit b xs first more) g stops =
      (rw (digit_sign b first) (maybe_digits end n (b ∷ xs) rest g stops), rw (digit_sign b first, first) refl)
  signed_run n (c ∷ []) _ rest h (digit b xs first more) g stops =
      let place = maybe_digits end (suc n) (b ∷ xs) rest g stops in
      (rw h (place_of_before c _ ∙ place ∙ ap Some (omega arith)), rw (h, first) refl)
  signed_run n (c ∷ d ∷ sign) power rest h l g stops = absurd (false≢true h)

  -- a text whose exponent begins at its end
  scaled_read : (n : ℕ) (text : List ℕ) (e : ℕ) (sign digits rest : List ℕ) (r : Reading) → maybe_sign sign ≡ true
      → is_lnum digits ≡ true → closes end rest ≡ true → Front end n text (e ∷ (sign ++ (digits ++ rest))) r
      → (power_ahead end (sign ++ (digits ++ rest)) ≡ Ahead.Yes
      → extent_of r ≡ extent_of (power end (suc (n + length text)) (sign ++ (digits ++ rest))))
      → ReadWhole Literal.Float Base.Decimal end n (text ++ (e ∷ (sign ++ digits))) rest
  unfolding power extent_of closing_extent
  scaled_read n text e sign digits rest r s g h front on =
      let place : suc (n + length text) + length (sign ++ digits) ≡ n + length (text ++ (e ∷ (sign ++ digits))) =
      rw (length-append text (e ∷ (sign ++ digits))) (omega arith) in
      let same : (text ++ (e ∷ (sign ++ digits))) ++ rest ≡ text ++ (e ∷ (sign ++ (digits ++ rest))) =
      rw (append_assoc text (e ∷ (sign ++ digits)) rest, append_assoc sign digits rest) refl in
      let stops = closes_stops end Base.Decimal rest h in
      let run = signed_run (suc (n + length text)) sign digits rest s (lnum digits g) (lnum_maybe digits g) stops in
      let over = extent_of_closing Literal.Float _ ∙ ap (closing_extent Literal.Float) (run.0 ∙ ap Some place) in
      read_whole Literal.Float Base.Decimal end n (text ++ (e ∷ (sign ++ digits))) rest (rw same front.base)
      (rw same (front.same ∙ on run.1 ∙ extent_of_onto (101 ∷ []) _ ∙ over))

-- a float literal of the manual
pub float_read : (end : Bool) (n : ℕ) (text rest : List ℕ) → FloatLiteral text → closes end rest ≡ true → ReadWhole Literal.Float Base.Decimal end n text rest
unfolding exponent tail marked decided is_exponent extent_of
float_read end n _ rest (FloatLiteral.plain text d) h =
    front_read Literal.Float end n text rest _ (dnum_front end n text rest d (closes_stops end Base.Decimal rest h))
    (ap extent_of (closes_over end (n + length text) rest h).1)
float_read end n _ rest (FloatLiteral.scaled_dnum text e sign digits d m s g) h =
    scaled_read end n text e sign digits rest _ s g h
    (dnum_front end n text (e ∷ (sign ++ (digits ++ rest))) d (mark end e (sign ++ (digits ++ rest)) m).stops)
    (λ _. rw m refl)
float_read end n _ rest (FloatLiteral.scaled_lnum text e sign digits l m s g) h =
    let facts = mark end e (sign ++ (digits ++ rest)) m in
    scaled_read end n text e sign digits rest _ s g h
    (lnum_front end n text (e ∷ (sign ++ (digits ++ rest))) l facts.stops facts.nameless)
    (λ yes. rw (facts.point, m, yes) refl)

-- what the manual does not have: a bare exponent, a prefix without digits, an octal with an 8
pub differences :
    (number_at true 0 (bytes "1.e") ≡ Reading.Number Literal.Float (bytes "1.e") 3)
    × (number_at true 0 (bytes ".e") ≡ Reading.Number Literal.Float (bytes ".e") 2)
    × (number_at true 0 (bytes "0x") ≡ Reading.Number Literal.Integer (bytes "0x") 2)
    × (number_at true 0 (bytes "08") ≡ Reading.Number Literal.Integer (bytes "08") 2)
unfolding number_at number_in last marked base_of base_named prefixed decimal tail decided power_ahead digit_ahead fraction exponent power signed digits digits_more before onto closing followed is_exponent is_sign is_one is_digit is_hex bytes
differences = (refl, refl, refl, refl)
