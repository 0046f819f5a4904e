-- A quoted literal that is cut out of its text, its closing quote included, reads the same alone. Assumes nothing.
--   unit_moved                     a unit at k, of a cut, is the unit at n, of the whole text, moved from n to k
--   collected_ended                a literal ends at its quote, or in double quotes before an interpolation
--   collected_cut                  it reads the same from any place on
--   single_cut, double_cut         so do the two readings: the same value, and as many bytes
--   single_closed, double_closed   the last byte of a closed literal is its quote
--   double_ended                   in double quotes it is closed or ends before an interpolation
-- No unit looks past a quote, so a cut that has one is enough. The end may be announced or not: what is told stays.
use Prim.Native.Nat.{ℕ, zero, suc, ◌+◌, ◌*◌, ◌-◌, ◌≤◌, ◌<◌}
use Prim.Native.Char.{Char, code}
use Rattle.byte.specs.declared.Refusal.{Refusal}
use mathlib.Core.Path.{◌≡◌, refl, sym, ap, ◌∙◌}
use mathlib.Core.Bool.{Bool, true, false, ◌&&◌, ◌||◌, false≢true}
use mathlib.Core.List.{List, [], ◌∷◌, ◌++◌, append-nil}
use mathlib.Core.Logic.{◌⊎◌, inl, inr}
use native.Mathlib.Omega.{arith}
use lib.Dec.{ltb}
use lib.ListN.{length, take, drop, get_or, length-take, take-append-drop}
use borrow.Author.Tests.{eqb-true, eq-eqb}
use Rattle.byte.specs.declared.Octal.{Octal}
use Rattle.byte.specs.Words.{◌is◌}
use Rattle.byte.specs.Bytes.{is_start}
use Rattle.byte.proofs.Tests.{if_both}
use Rattle.unit.specs.declared.Mode.{Mode}
use Rattle.unit.specs.declared.Stop.{Stop}
use Rattle.unit.specs.declared.TextUnit.{TextUnit}
use Rattle.unit.specs.Digits.{digit_value, is_scalar, utf8}
use Rattle.unit.specs.Escapes.{letter_value, overflowing, fitted, digits, hex, code_point, braced, escape, quote_escape}
use Rattle.unit.specs.Interpolations.{find_dollar, find_brace}
use Rattle.unit.specs.Labels.{Labelled}
use Rattle.unit.specs.Units.{unit_at}
use Rattle.unit.specs.Readings.{Reading, Text, Refused, Wait, onto, taken, after_of, collected}
use Rattle.unit.specs.Readings.{loses_break, text_at}
use Rattle.unit.proofs.Stays.{clash}
use Rattle.unit.proofs.Stands.{is_literal}
use Rattle.unit.proofs.Openings.{Plainly, other_byte, octal_plainly, hex_plainly, x_plainly, u_plainly}
use Rattle.unit.proofs.Demand.{text_stays}
use Rattle.unit.proofs.Literals.{finished_whole}

-- the quote of a literal
abbrev quote_of : Mode → Char
quote_of Mode.Single = "'"
quote_of (Mode.Double octals) = "\""
quote_of (Mode.DoubleQuote octals) = "\""
quote_of Mode.ShellExec = "`"
quote_of (Mode.Heredoc octals) = "\""
quote_of Mode.Nowdoc = "\""

-- a cut ys is enough where zs is left behind: it has this quote, or nothing is left
abbrev Enough : Char → List ℕ → List ℕ → Type 0
Enough c [] zs = zs ≡ []
Enough c (b ∷ ys) zs = b is c ≡ false → Enough c ys zs

enough_all : (c : Char) (ys : List ℕ) → Enough c ys []
enough_all c [] = refl
enough_all c (b ∷ ys) = λ e. enough_all c ys

enough_quote : (c : Char) (i : ℕ) (ys zs : List ℕ) → i < length ys → get_or (ys ++ zs) i 0 ≡ code c → Enough c ys zs
enough_quote c i [] zs h e = absurd (omega arith)
enough_quote c zero (b ∷ ys) zs h e = λ f. absurd (false≢true (sym f ∙ eq-eqb b (code c) e))
enough_quote c (suc i) (b ∷ ys) zs h e = λ f. enough_quote c i ys zs (omega arith) e

-- a unit at n where b stands, and the same at k
data Moved (m : Mode) (b n k : ℕ) : TextUnit → TextUnit → Type 0 where
  byte : {value after after' : ℕ} → after + k ≡ after' + n
      → Moved m b n k (TextUnit.Byte value after) (TextUnit.Byte value after')
  point : {value after after' : ℕ} → after + k ≡ after' + n
      → Moved m b n k (TextUnit.Point value after) (TextUnit.Point value after')
  quote : b is quote_of m ≡ true
      → Moved m b n k (TextUnit.Ends Stop.Quote n (suc n)) (TextUnit.Ends Stop.Quote k (suc k))
  found : {octals : Octal} → m ≡ Mode.Double octals
      → Moved m b n k (TextUnit.Ends Stop.Interpolation n n) (TextUnit.Ends Stop.Interpolation k k)
  fault : {refusal : Refusal} {place place' : ℕ} → Moved m b n k (TextUnit.Fault refusal place) (TextUnit.Fault refusal place')

-- ---- the units, in the definitions' order; p moves to q as n does to k

-- under either choice
module _ (octals : Octal) (b n k : ℕ) where
  -- one byte
  one : {m : Mode} {value : ℕ} → Moved m b n k (TextUnit.Byte value (suc n)) (TextUnit.Byte value (suc k))
  one =
      let z : suc n + k ≡ suc k + n = omega arith in
      byte z

  abbrev M : TextUnit → TextUnit → Type 0
  M u v = Moved (Mode.Double octals) b n k u v

  overflowing_moved : (o : Octal) (value p q : ℕ) → p + k ≡ q + n → M (overflowing o value p) (overflowing o value q)
  unfolding overflowing
  overflowing_moved Octal.Rust value p q h = fault
  overflowing_moved Octal.Manual value p q h = byte h

  fitted_moved : (value p q : ℕ) → p + k ≡ q + n → M (fitted octals value p) (fitted octals value q)
  unfolding fitted
  fitted_moved value p q h = if_both M (ltb value 256) (λ e. byte h) (λ e. overflowing_moved octals value p q h)

  digits_moved : (base : ℕ) → ((x : ℕ) → ltb (digit_value x) base ≡ true → Plainly x)
      → (left value p q : ℕ) (ys zs : List ℕ) → p + k ≡ q + n → Enough "\"" ys zs
      → M (digits octals true base left value p (ys ++ zs)) (digits octals true base left value q ys)
  unfolding digits
  digits_moved base d zero value p q ys zs h f = fitted_moved value p q h
  digits_moved base d (suc left) value p q [] zs h f = rw f (fitted_moved value p q h)
  digits_moved base d (suc left) value p q (x ∷ ys) zs h f =
      if_both M (ltb (digit_value x) base)
      (λ e.
      digits_moved base d left (value * base + digit_value x) (suc p) (suc q) ys zs (omega arith) (f (d x e).quote))
      (λ e. fitted_moved value p q h)

  hex_moved : (p q : ℕ) (ys zs : List ℕ) → p + k ≡ q + n → Enough "\"" ys zs
      → M (hex octals true p (ys ++ zs)) (hex octals true q ys)
  unfolding hex
  hex_moved p q [] zs h f = rw f (byte h)
  hex_moved p q (x ∷ ys) zs h f =
      if_both M (ltb (digit_value x) 16)
      (λ e.
      digits_moved 16 hex_plainly 1 (digit_value x) (suc (suc p)) (suc (suc q)) ys zs (omega arith)
      (f (hex_plainly x e).quote))
      (λ e. byte h)

  code_point_moved : (some : Bool) (value p q : ℕ) (ys zs : List ℕ) → p + k ≡ q + n → Enough "\"" ys zs
      → M (code_point true some value p (ys ++ zs)) (code_point true some value q ys)
  unfolding code_point
  code_point_moved some value p q [] zs h f = rw f fault
  code_point_moved some value p q (x ∷ ys) zs h f =
      if_both M (ltb (digit_value x) 16)
      (λ e.
      code_point_moved true (value * 16 + digit_value x) (suc p) (suc q) ys zs (omega arith) (f (hex_plainly x e).quote))
      (λ e. if_both M (some && x is "}")
      (λ g. if_both M (is_scalar value) (λ s. point (omega arith)) (λ s. fault))
      (λ g. fault))

  braced_moved : (p q : ℕ) (ys zs : List ℕ) → p + k ≡ q + n → Enough "\"" ys zs
      → M (braced true p (ys ++ zs)) (braced true q ys)
  unfolding braced
  braced_moved p q [] zs h f = rw f (byte h)
  braced_moved p q (x ∷ ys) zs h f =
      if_both M (x is "{")
      (λ e.
      code_point_moved false 0 (suc (suc p)) (suc (suc q)) ys zs (omega arith)
      (f (other_byte (λ y. y is "{") (code "\"") x refl e)))
      (λ e. byte h)

  escape_moved : (p q : ℕ) (ys zs : List ℕ) → p + k ≡ q + n → Enough "\"" ys zs
      → M (escape octals true p (ys ++ zs)) (escape octals true q ys)
  unfolding escape
  escape_moved p q [] zs h f = rw f (byte h)
  escape_moved p q (x ∷ ys) zs h f =
      if_both M (ltb (letter_value x) 256) (λ e. byte (omega arith))
      (λ e. if_both M (ltb (digit_value x) 8)
      (λ g.
      digits_moved 8 octal_plainly 2 (digit_value x) (suc p) (suc q) ys zs (omega arith) (f (octal_plainly x g).quote))
      (λ g. if_both M (x is "x") (λ w. hex_moved p q ys zs h (f (x_plainly x w).quote))
      (λ w. if_both M (x is "u") (λ v. braced_moved p q ys zs h (f (u_plainly x v).quote)) (λ v. byte h))))

  quote_escape_moved : (p q : ℕ) (ys zs : List ℕ) → p + k ≡ q + n → Enough "'" ys zs
      → Moved Mode.Single b n k (quote_escape true p (ys ++ zs)) (quote_escape true q ys)
  unfolding quote_escape
  quote_escape_moved p q [] zs h f = rw f (byte h)
  quote_escape_moved p q (x ∷ ys) zs h f =
      if_both (Moved Mode.Single b n k) (x is "'" || x is "\\") (λ e. byte (omega arith)) (λ e. byte h)

  find_dollar_moved : (ys zs : List ℕ) → Enough "\"" ys zs → M (find_dollar true n (ys ++ zs)) (find_dollar true k ys)
  unfolding find_dollar
  find_dollar_moved [] zs f = rw f one
  find_dollar_moved (x ∷ ys) zs f = if_both M (x is "{" || is_start x) (λ e. found refl) (λ e. one)

  find_brace_moved : (ys zs : List ℕ) → Enough "\"" ys zs → M (find_brace true n (ys ++ zs)) (find_brace true k ys)
  unfolding find_brace
  find_brace_moved [] zs f = rw f one
  find_brace_moved (x ∷ ys) zs f = if_both M (x is "$") (λ e. found refl) (λ e. one)

module _ (b n k : ℕ) where
  unit_moved : (m : Mode) → is_literal m ≡ true → (ys zs : List ℕ) → Enough (quote_of m) (b ∷ ys) zs
      → Moved m b n k (unit_at m [] true n b (ys ++ zs)) (unit_at m [] true k b ys)
  unfolding unit_at
  unit_moved Mode.Single l ys zs f =
      if_both (Moved Mode.Single b n k) (b is "'") (λ e. quote e)
      (λ e. if_both (Moved Mode.Single b n k) (b is "\\")
      (λ g. quote_escape_moved Octal.Rust b n k (suc n) (suc k) ys zs (omega arith) (f e))
      (λ g. one Octal.Rust b n k))
  unit_moved (Mode.Double octals) l ys zs f =
      if_both (M octals b n k) (b is "\"") (λ e. quote e)
      (λ e. if_both (M octals b n k) (b is "\\")
      (λ g. escape_moved octals b n k (suc n) (suc k) ys zs (omega arith) (f e))
      (λ g. if_both (M octals b n k) (b is "$") (λ d. find_dollar_moved octals b n k ys zs (f e))
      (λ d. if_both (M octals b n k) (b is "{") (λ o. find_brace_moved octals b n k ys zs (f e))
      (λ o. one octals b n k))))
  unit_moved (Mode.DoubleQuote octals) l ys zs f = absurd (false≢true l)
  unit_moved Mode.ShellExec l ys zs f = absurd (false≢true l)
  unit_moved (Mode.Heredoc octals) l ys zs f = absurd (false≢true l)
  unit_moved Mode.Nowdoc l ys zs f = absurd (false≢true l)

-- ---- where a literal ends

-- the closing quote at `from`, of a text that is read from n on, where xs stands
pub record ClosedText (c : Char) (n : ℕ) (xs : List ℕ) (from after : ℕ) : Type 0 where
  pub last : after ≡ suc from
  pub on : n ≤ from
  pub inside : after ≤ n + length xs
  pub quote : get_or xs (from - n) 0 ≡ code c

data Ended (m : Mode) (n : ℕ) (xs : List ℕ) (from after : ℕ) : Stop → Type 0 where
  closed : ClosedText (quote_of m) n xs from after → Ended m n xs from after Stop.Quote
  left : {octals : Octal} → m ≡ Mode.Double octals → Ended m n xs from after Stop.Interpolation

abbrev EndedReading : Mode → ℕ → List ℕ → Reading → Type 0
EndedReading m n xs (Text value stop from after) = Ended m n xs from after stop
EndedReading m n xs (Refused refusal place) = Unit {0}
EndedReading m n xs Wait = Unit {0}

module _ (m : Mode) (l : is_literal m ≡ true) where
  ended_on : (n b : ℕ) (xs : List ℕ) (r : Reading) → EndedReading m (suc n) xs r → EndedReading m n (b ∷ xs) r
  ended_on n b xs (Text value Stop.Quote from after) (closed x) =
      let z : from - n ≡ suc (from - suc n) = omega (arith, x.on) in
      closed
      (record {
        last = x.last;
        on = omega (arith, x.on);
        inside = omega (arith, x.inside);
        quote = rw z x.quote;
      })
  ended_on n b xs (Text value Stop.Interpolation from after) (left e) = left e
  ended_on n b xs (Refused refusal place) x = tt
  ended_on n b xs Wait x = tt
  ended_on n b xs (Text value Stop.DollarLeftBrace from after) x = elim x [ ]
  ended_on n b xs (Text value Stop.LeftBrace from after) x = elim x [ ]
  ended_on n b xs (Text value (Stop.Variable _) from after) x = elim x [ ]
  ended_on n b xs (Text value (Stop.Label _ _) from after) x = elim x [ ]

  ended_onto : (n : ℕ) (vs xs : List ℕ) (r : Reading) → EndedReading m n xs r → EndedReading m n xs (onto vs r)
  unfolding onto
  ended_onto n vs xs (Text value stop from after) x = x
  ended_onto n vs xs (Refused refusal place) x = tt
  ended_onto n vs xs Wait x = tt

  collected_ended : (skip n : ℕ) (xs : List ℕ) → EndedReading m n xs (collected m [] true skip n xs)
  unfolding collected taken after_of
  collected_ended skip n [] = tt
  collected_ended (suc j) n (b ∷ xs) = ended_on n b xs (collected m [] true j (suc n) xs) (collected_ended j (suc n) xs)
  collected_ended zero n (b ∷ xs) =
      go _ _ (rw append-nil at (unit_moved b n n m l xs [] (enough_all (quote_of m) (b ∷ xs))))
      (λ j. ended_on n b xs (collected m [] true j (suc n) xs) (collected_ended j (suc n) xs))
    where
      go : (u v : TextUnit) → Moved m b n n u v
          → ((j : ℕ) → EndedReading m n (b ∷ xs) (collected m [] true j (suc n) xs))
          → EndedReading m n (b ∷ xs) (taken u (collected m [] true (after_of u - suc n) (suc n) xs))
      go _ _ (byte {value} {after} h) ih =
          ended_onto n (value ∷ []) (b ∷ xs) (collected m [] true (after - suc n) (suc n) xs) (ih (after - suc n))
      go _ _ (point {value} {after} h) ih =
          ended_onto n (utf8 value) (b ∷ xs) (collected m [] true (after - suc n) (suc n) xs) (ih (after - suc n))
      go _ _ (quote e) ih =
          let z : n - n ≡ 0 = omega arith in
          let same = eqb-true b (code (quote_of m)) e in
          closed (record { last = refl; on = omega arith; inside = omega arith; quote = rw z same })
      go _ _ (found e) ih = left e
      go _ _ fault ih = tt

  collected_closed : (skip n : ℕ) (xs value : List ℕ) (from after : ℕ)
      → collected m [] true skip n xs ≡ Text value Stop.Quote from after → ClosedText (quote_of m) n xs from after
  collected_closed skip n xs value from after e = go (rw e at (collected_ended skip n xs))
    where
      go : Ended m n xs from after Stop.Quote → ClosedText (quote_of m) n xs from after
      go (closed x) = x

-- ---- the cut

-- what is read after these bytes
record Later (vs : List ℕ) (r : Reading) (value : List ℕ) (stop : Stop) (from after : ℕ) : Type 0 where
  text : List ℕ
  whole : vs ++ text ≡ value
  later : r ≡ Text text stop from after

onto_text : (vs : List ℕ) (r : Reading) (value : List ℕ) (stop : Stop) (from after : ℕ)
    → onto vs r ≡ Text value stop from after → Later vs r value stop from after
unfolding onto
onto_text vs (Text text s f a) value stop from after e = record { text = text; whole = cc; later = cc }
onto_text vs (Refused refusal place) value stop from after e = clash cc
onto_text vs Wait value stop from after e = clash cc

module _ (m : Mode) (l : is_literal m ≡ true) (n k : ℕ) where
  -- the text at n from p on, and the cut at k from q on
  collected_cut : (skip p q : ℕ) (ys zs value : List ℕ) (from after : ℕ) → n ≤ p → p + k ≡ q + n → after ≡ p + length ys
      → collected m [] true skip p (ys ++ zs) ≡ Text value Stop.Quote from after
      → collected m [] true skip q ys ≡ Text value Stop.Quote (k + (from - n)) (k + (after - n))
  unfolding collected taken after_of onto
  collected_cut skip p q [] zs value from after h s a e =
      let x = collected_closed m l skip p zs value from after e in
      absurd (omega (arith, x.last, x.on))
  collected_cut (suc j) p q (b ∷ ys) zs value from after h s a e =
      collected_cut j (suc p) (suc q) ys zs value from after (omega arith) (omega arith) (omega arith) e
  collected_cut zero p q (b ∷ ys) zs value from after h s a e =
      go _ _ (unit_moved b p q m l ys zs enough)
      (λ j text. collected_cut j (suc p) (suc q) ys zs text from after (omega arith) (omega arith) (omega arith))
      e
    where
      x : ClosedText (quote_of m) p (b ∷ (ys ++ zs)) from after
      x = collected_closed m l zero p (b ∷ (ys ++ zs)) value from after e

      enough : Enough (quote_of m) (b ∷ ys) zs
      enough = enough_quote (quote_of m) (from - p) (b ∷ ys) zs (omega (arith, x.last, x.on)) x.quote

      go : (u v : TextUnit) → Moved m b p q u v
          → ((j : ℕ) (text : List ℕ) → collected m [] true j (suc p) (ys ++ zs) ≡ Text text Stop.Quote from after
          → collected m [] true j (suc q) ys ≡ Text text Stop.Quote (k + (from - n)) (k + (after - n)))
          → taken u (collected m [] true (after_of u - suc p) (suc p) (ys ++ zs)) ≡ Text value Stop.Quote from after
          → taken v (collected m [] true (after_of v - suc q) (suc q) ys)
          ≡ Text value Stop.Quote (k + (from - n)) (k + (after - n))
      go _ _ (byte {value = w} {after = i} {after' = i'} y) ih z =
          let t = onto_text (w ∷ []) _ value Stop.Quote from after z in
          let same : i' - suc q ≡ i - suc p = omega arith in
          rw (same, ← t.whole) (ap (onto (w ∷ [])) (ih (i - suc p) t.text t.later))
      go _ _ (point {value = w} {after = i} {after' = i'} y) ih z =
          let t = onto_text (utf8 w) _ value Stop.Quote from after z in
          let same : i' - suc q ≡ i - suc p = omega arith in
          rw (same, ← t.whole) (ap (onto (utf8 w)) (ih (i - suc p) t.text t.later))
      go _ _ (quote y) ih z =
          let here : p ≡ from = cc in
          let none : [] ≡ value = cc in
          let start : q ≡ k + (from - n) = omega arith in
          let stop : suc q ≡ k + (after - n) = omega (arith, x.last) in
          rw (← start, ← stop, ← none)
      go _ _ (found y) ih z = clash cc
      go _ _ fault ih z = clash cc

-- ---- the two literals

-- a mode without a label, whose texts lose no break
module _ (m : Mode) (l : is_literal m ≡ true) (h : Labelled m []) (keeps : (stop : Stop) → loses_break m stop ≡ false)
    (end : Bool) (n : ℕ) (xs value : List ℕ) (stop : Stop) (from after : ℕ)
    (e : text_at m [] end n xs ≡ Text value stop from after) where
  -- with the end announced, too
  text_whole : collected m [] true 0 n xs ≡ Text value stop from after
  unfolding text_at
  text_whole = sym (finished_whole m _ keeps) ∙ go end e
    where
      go : (end : Bool) → text_at m [] end n xs ≡ Text value stop from after
          → text_at m [] true n xs ≡ Text value stop from after
      go true z = z
      go false z =
          let told : text_at m [] false n xs ≡ Wait → ⊥ = λ w. clash (cc (z, w)) in
          rw append-nil at (text_stays m [] h n xs told []) ∙ z

  text_ended : Ended m n xs from after stop
  text_ended = rw text_whole at (collected_ended m l 0 n xs)

  text_cut : stop ≡ Stop.Quote → (k : ℕ)
      → text_at m [] true k (take (after - n) xs) ≡ Text value Stop.Quote (k + (from - n)) (k + (after - n))
  unfolding text_at
  text_cut q k =
      let whole : collected m [] true 0 n xs ≡ Text value Stop.Quote from after = rw q at text_whole in
      let x = collected_closed m l 0 n xs value from after whole in
      let long : n + length (take (after - n) xs) ≡ after =
      omega (arith, length-take (after - n) xs, x.last, x.on, x.inside) in
      finished_whole m _ keeps
      ∙ collected_cut m l n k 0 n k (take (after - n) xs) (drop (after - n) xs) value from after (omega arith)
      (omega arith) (sym long)
      (rw (take-append-drop (after - n) xs) whole)

module _ (end : Bool) (n : ℕ) (xs value : List ℕ) where
  module _ (stop : Stop) (from after : ℕ) where
    pub single_cut : text_at Mode.Single [] end n xs ≡ Text value stop from after
        → (stop ≡ Stop.Quote)
        × ((k : ℕ) → text_at Mode.Single [] true k (take (after - n) xs)
        ≡ Text value Stop.Quote (k + (from - n)) (k + (after - n)))
    unfolding loses_break
    single_cut e =
        let q = go stop (text_ended Mode.Single refl tt (λ s. refl) end n xs value stop from after e) in
        (q, text_cut Mode.Single refl tt (λ s. refl) end n xs value stop from after e q)
      where
        go : (s : Stop) → Ended Mode.Single n xs from after s → s ≡ Stop.Quote
        go _ (closed x) = refl
        go _ (left d) = clash cc

    pub double_ended : (octals : Octal) → text_at (Mode.Double octals) [] end n xs ≡ Text value stop from after
        → (stop ≡ Stop.Quote) ⊎ (stop ≡ Stop.Interpolation)
    unfolding loses_break
    double_ended octals e =
        go stop (text_ended (Mode.Double octals) refl tt (λ s. refl) end n xs value stop from after e)
      where
        go : (s : Stop) → Ended (Mode.Double octals) n xs from after s → (s ≡ Stop.Quote) ⊎ (s ≡ Stop.Interpolation)
        go _ (closed x) = inl refl
        go _ (left d) = inr refl

  module _ (from after : ℕ) where
    pub double_cut : (octals : Octal) → text_at (Mode.Double octals) [] end n xs ≡ Text value Stop.Quote from after
        → (k : ℕ) → text_at (Mode.Double octals) [] true k (take (after - n) xs)
        ≡ Text value Stop.Quote (k + (from - n)) (k + (after - n))
    unfolding loses_break
    double_cut octals e = text_cut (Mode.Double octals) refl tt (λ s. refl) end n xs value Stop.Quote from after e refl

    pub single_closed : text_at Mode.Single [] end n xs ≡ Text value Stop.Quote from after
        → ClosedText "'" n xs from after
    unfolding loses_break
    single_closed e =
        collected_closed Mode.Single refl 0 n xs value from after
        (text_whole Mode.Single refl tt (λ s. refl) end n xs value Stop.Quote from after e)

    pub double_closed : (octals : Octal) → text_at (Mode.Double octals) [] end n xs ≡ Text value Stop.Quote from after
        → ClosedText "\"" n xs from after
    unfolding loses_break
    double_closed octals e =
        collected_closed (Mode.Double octals) refl 0 n xs value from after
        (text_whole (Mode.Double octals) refl tt (λ s. refl) end n xs value Stop.Quote from after e)
