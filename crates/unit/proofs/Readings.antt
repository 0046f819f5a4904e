-- What a reading is, told once for every mode: where it lies, which bytes its text is, that it goes on, which frames
-- it may enter, and what it may refuse.
--   collected_skip   a reading that has k bytes to pass is the reading from k bytes on
--   collected_turn   a reading is its first unit and the reading from after that unit
--   text_stands      StandsReading m n (n + length xs) xs (text_at m label end n xs)
--   text_copied      a text is the source's own bytes where it has as many as were passed
-- Assumes nothing.
use Rattle.std.specs.Prelude.{if◌then◌else◌}
use Prim.Native.Nat.{ℕ, zero, suc, ◌+◌, ◌-◌, ◌≤◌, ◌<◌}
use mathlib.Core.Path.{◌≡◌, refl, ap, ◌∙◌}
use mathlib.Core.Bool.{Bool, true, false}
use mathlib.Core.List.{List, [], ◌∷◌}
use native.Mathlib.Omega.{arith}
use lib.ListN.{length, take, drop, length-append}
use Rattle.byte.specs.Refusals.{unexpected_end_of_file, is_among}
use Rattle.byte.specs.Words.{◌is◌}
use Rattle.byte.proofs.Tests.{choice}
use Rattle.unit.specs.declared.Mode.{Mode}
use Rattle.unit.specs.declared.Stop.{Stop}
use Rattle.unit.specs.declared.TextUnit.{TextUnit}
use Rattle.unit.specs.Digits.{utf8}
use Rattle.unit.specs.Units.{unit_at}
use Rattle.unit.specs.Readings.{Reading, Text, Refused, Wait, onto, taken, after_of, collected, trimmed}
use Rattle.unit.specs.Readings.{loses_break, finished, text_at, gap, text_end}
use Rattle.unit.proofs.Stands.{is_literal, faults, enters, is_interpolation, FaultInside, Stands, unit_stands}

module _ (m : Mode) (label : List ℕ) (end : Bool) where
  pub collected_skip : (k n : ℕ) (xs : List ℕ) → k ≤ length xs
      → collected m label end k n xs ≡ collected m label end 0 (n + k) (drop k xs)
  unfolding collected
  collected_skip zero n xs h =
      let z : n ≡ n + 0 = omega arith in
      ap (λ i. collected m label end 0 i xs) z
  collected_skip (suc k) n [] h = absurd (omega arith)
  collected_skip (suc k) n (b ∷ xs) h =
      let z : suc n + k ≡ n + suc k = omega arith in
      collected_skip k (suc n) xs (omega arith) ∙ ap (λ i. collected m label end 0 i (drop k xs)) z

  pub collected_turn : (n b : ℕ) (rest : List ℕ) (u : TextUnit) → u ≡ unit_at m label end n b rest
      → collected m label end 0 n (b ∷ rest)
      ≡ taken u (collected m label end 0 (after_of u) (drop (after_of u - (n + 1)) rest))
  unfolding collected taken after_of
  collected_turn n b rest u e = rw (← e) (go u (rw (← e) at (unit_stands n b rest label end m)))
    where
      later : (after : ℕ) → n < after → after ≤ n + 1 + length rest
          → collected m label end (after - suc n) (suc n) rest
          ≡ collected m label end 0 after (drop (after - (n + 1)) rest)
      later after x y =
          let p : suc n + (after - suc n) ≡ after = omega arith in
          let q : after - suc n ≡ after - (n + 1) = omega arith in
          collected_skip (after - suc n) (suc n) rest (omega arith) ∙ rw (p, q)

      go : (u : TextUnit) → Stands m n b (n + 1 + length rest) u
          → taken u (collected m label end (after_of u - suc n) (suc n) rest)
          ≡ taken u (collected m label end 0 (after_of u) (drop (after_of u - (n + 1)) rest))
      go (TextUnit.Byte value after) x = ap (onto (value ∷ [])) (later after x.on x.inside)
      go (TextUnit.Point c after) x = ap (onto (utf8 c)) (later after (omega (arith, x.narrow)) x.inside)
      go (TextUnit.Ends stop from after) x = refl
      go (TextUnit.Fault refusal place) x = refl
      go TextUnit.Undecided x = refl

-- a text that is read from n on, where xs stands: with the gap after it, it ends at `from` or before; where it ends
-- there, it is the bytes of xs
pub record TextStands (literal : Bool) (n hi : ℕ) (xs text : List ℕ) (stop : Stop) (from after : ℕ) : Type 0 where
  pub fits : n + length text + gap stop ≤ from
  pub copied : n + length text + gap stop ≡ from → text ≡ take (length text) xs
  pub order : from ≤ after
  pub inside : after ≤ hi
  pub on : literal ≡ false → n < after
  pub keeps : literal ≡ true → enters stop ≡ false
  pub own : literal ≡ false → is_interpolation stop ≡ false

abbrev pub StandsReading : Mode → ℕ → ℕ → List ℕ → Reading → Type 0
StandsReading m n hi xs (Text text stop from after) = TextStands (is_literal m) n hi xs text stop from after
StandsReading m n hi xs (Refused refusal place) = FaultInside (faults m) n hi refusal place
StandsReading m n hi xs Wait = Unit {0}

module _ (m : Mode) (hi : ℕ) where
  -- a byte before a text that begins k bytes after it
  byte_onto : (n b value k : ℕ) (xs : List ℕ) (r : Reading) → (k ≡ 0 → value ≡ b)
      → StandsReading m (suc n + k) hi (drop k xs) r → StandsReading m n hi (b ∷ xs) (onto (value ∷ []) r)
  unfolding onto
  byte_onto n b value k xs (Text text stop from after) own x =
      record {
        fits = omega (arith, x.fits);
        copied = same k own x;
        order = x.order;
        inside = x.inside;
        on = λ e. omega (arith, x.fits, x.order);
        keeps = x.keeps;
        own = x.own;
      }
    where
      same : (k : ℕ) → (k ≡ 0 → value ≡ b) → TextStands (is_literal m) (suc n + k) hi (drop k xs) text stop from after
          → n + suc (length text) + gap stop ≡ from → value ∷ text ≡ b ∷ take (length text) xs
      same zero own x h = rw (own refl, ← x.copied (omega arith))
      same (suc k) own x h = absurd (omega (arith, x.fits))
  byte_onto n b value k xs (Refused refusal place) own x =
      record { among = x.among; on = omega (arith, x.on); inside = x.inside }
  byte_onto n b value k xs Wait own x = tt

  -- fewer bytes before a text than are passed
  point_onto : (n after : ℕ) (vs xs ys : List ℕ) (r : Reading) → n + length vs < after
      → StandsReading m after hi ys r
      → StandsReading m n hi xs (onto vs r)
  unfolding onto
  point_onto n after vs xs ys (Text text stop from to) h x =
      record {
        fits = omega (arith, length-append vs text, x.fits);
        copied = λ e. absurd (omega (arith, length-append vs text, x.fits));
        order = x.order;
        inside = x.inside;
        on = λ e. omega (arith, x.fits, x.order);
        keeps = x.keeps;
        own = x.own;
      }
  point_onto n after vs xs ys (Refused refusal place) h x =
      record { among = x.among; on = omega (arith, x.on); inside = x.inside }
  point_onto n after vs xs ys Wait h x = tt

-- a text of every mode may lack its end
text_open : (m : Mode) → is_among unexpected_end_of_file (faults m) ≡ true
unfolding is_among
text_open Mode.Single = refl
text_open (Mode.Double octals) = refl
text_open (Mode.DoubleQuote octals) = refl
text_open Mode.ShellExec = refl
text_open (Mode.Heredoc octals) = refl
text_open Mode.Nowdoc = refl

module _ (m : Mode) (label : List ℕ) (end : Bool) (hi : ℕ) where
  collected_stands : (skip n : ℕ) (xs : List ℕ) → skip ≤ length xs → n + length xs ≤ hi
      → StandsReading m (n + skip) hi (drop skip xs) (collected m label end skip n xs)
  unfolding collected taken after_of
  collected_stands skip n [] h y =
      choice (StandsReading m (n + skip) hi (drop skip [])) end _ _
      (λ e. record { among = text_open m; on = omega arith; inside = omega arith })
      (λ e. tt)
  collected_stands (suc k) n (b ∷ xs) h y =
      let z : suc n + k ≡ n + suc k = omega arith in
      rw z at (collected_stands k (suc n) xs (omega arith) (omega arith))
  collected_stands zero n (b ∷ xs) h y =
      let z : n + 0 ≡ n = omega arith in
      rw z (go (unit_at m label end n b xs) (unit_stands n b xs label end m)
      (λ k l. collected_stands k (suc n) xs l (omega arith)))
    where
      go : (u : TextUnit) → Stands m n b (n + 1 + length xs) u
          → ((k : ℕ) → k ≤ length xs
          → StandsReading m (suc n + k) hi (drop k xs) (collected m label end k (suc n) xs))
          → StandsReading m n hi (b ∷ xs) (taken u (collected m label end (after_of u - suc n) (suc n) xs))
      go (TextUnit.Byte value after) x ih =
          byte_onto m hi n b value (after - suc n) xs _ (λ e. x.own (omega (arith, x.on)))
          (ih (after - suc n) (omega (arith, x.inside)))
      go (TextUnit.Point c after) x ih =
          let h : n + length (utf8 c) < suc n + (after - suc n) = omega (arith, x.narrow) in
          point_onto m hi n (suc n + (after - suc n)) (utf8 c) (b ∷ xs) (drop (after - suc n) xs) _ h
          (ih (after - suc n) (omega (arith, x.inside)))
      go (TextUnit.Ends stop from after) x ih =
          record {
            fits = omega (arith, x.place);
            copied = λ e. refl;
            order = x.order;
            inside = omega (arith, x.inside);
            on = x.on;
            keeps = x.keeps;
            own = x.own;
          }
      go (TextUnit.Fault refusal place) x ih = record { among = x.among; on = x.on; inside = omega (arith, x.inside) }
      go TextUnit.Undecided x ih = tt

trimmed_length : (text : List ℕ) → length (trimmed text) ≤ length text
unfolding trimmed
trimmed_length [] = omega arith
trimmed_length (b ∷ []) = choice (λ vs. length vs ≤ 1) (b is "\n") [] (b ∷ []) (λ e. omega arith) (λ e. omega arith)
trimmed_length (b ∷ c ∷ text) = omega (arith, trimmed_length (c ∷ text))

-- a text that is as long as before has lost no break
trimmed_whole : (text : List ℕ) → length text ≤ length (trimmed text) → trimmed text ≡ text
unfolding trimmed
trimmed_whole [] h = refl
trimmed_whole (b ∷ []) h = go (b is "\n") h
  where
    go : (t : Bool) → 1 ≤ length (if t then [] else b ∷ []) → (if t then [] else b ∷ []) ≡ b ∷ []
    go true h = absurd (omega arith)
    go false h = refl
trimmed_whole (b ∷ c ∷ text) h = ap (λ ys. b ∷ ys) (trimmed_whole (c ∷ text) (omega arith))

finished_stands : (m : Mode) (n hi : ℕ) (xs : List ℕ) (r : Reading) → StandsReading m n hi xs r
    → StandsReading m n hi xs (finished m r)
unfolding finished
finished_stands m n hi xs (Text text stop from after) x =
    choice (λ vs. TextStands (is_literal m) n hi xs vs stop from after) (loses_break m stop) _ _
    (λ e.
    record {
      fits = omega (arith, trimmed_length text, x.fits);
      copied = shorter;
      order = x.order;
      inside = x.inside;
      on = x.on;
      keeps = x.keeps;
      own = x.own;
    })
    (λ e. x)
  where
    shorter : n + length (trimmed text) + gap stop ≡ from → trimmed text ≡ take (length (trimmed text)) xs
    shorter e =
        let whole : trimmed text ≡ text = trimmed_whole text (omega (arith, x.fits)) in
        let long : n + length text + gap stop ≡ from = rw whole at e in
        rw whole (x.copied long)
finished_stands m n hi xs (Refused refusal place) x = x
finished_stands m n hi xs Wait x = tt

pub text_stands : (m : Mode) (label : List ℕ) (end : Bool) (n : ℕ) (xs : List ℕ)
    → StandsReading m n (n + length xs) xs (text_at m label end n xs)
unfolding text_at
text_stands m label end n xs =
    let z : n + 0 ≡ n = omega arith in
    finished_stands m n (n + length xs) xs _
    (rw z at (collected_stands m label end (n + length xs) 0 n xs (omega arith) (omega arith)))

-- a text is the source's own bytes where it has as many as stand between its start and its end
pub text_copied : (m : Mode) (label : List ℕ) (end : Bool) (n : ℕ) (xs value : List ℕ) (stop : Stop) (from after : ℕ)
    → text_at m label end n xs ≡ Text value stop from after → n + length value ≡ text_end stop from
    → value ≡ take (length value) xs
unfolding text_end
text_copied m label end n xs value stop from after e h =
    let x : TextStands (is_literal m) n (n + length xs) xs value stop from after =
    rw e at (text_stands m label end n xs) in
    x.copied (omega (arith, x.fits))
