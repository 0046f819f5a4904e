-- A heredoc beside a nowdoc and beside double quotes. Assumes nothing.
--   heredoc_plain    where the nowdoc's text has only such bytes, the heredoc is read as the nowdoc
--   plain_within     where all bytes are such, those of the nowdoc's text are
--   heredoc_double   every unit but a quote and a break is that of double quotes, octal escapes by the same choice
--   heredoc_quoted   a quote needs no escape
-- A nowdoc's reading is gone through once, with what it has in each place (`Beside`).
use Prim.Native.Nat.{ℕ, zero, suc, ◌-◌}
use Prim.Native.Char.{code}
use mathlib.Core.Path.{◌≡◌, refl, sym, ap, ◌∙◌}
use mathlib.Core.Bool.{Bool, true, false, not, ◌&&◌}
use mathlib.Core.List.{List, [], ◌∷◌}
use lib.ListN.{length}
use borrow.Author.Tests.{eqb-true, not-true}
use Rattle.byte.specs.declared.Octal.{Octal}
use Rattle.byte.specs.Words.{◌is◌, every}
use Rattle.byte.specs.Bytes.{is_blank}
use Rattle.byte.proofs.Tests.{choice, &&-left, &&-right, &&-both, if_both}
use Rattle.unit.specs.declared.Indentation.{Indentation}
use Rattle.unit.specs.declared.Match.{Match}
use Rattle.unit.specs.declared.Mode.{Mode}
use Rattle.unit.specs.declared.TextUnit.{TextUnit}
use Rattle.unit.specs.Interpolations.{plain}
use Rattle.unit.specs.Closers.{matched, indented, closer, judged, line}
use Rattle.unit.specs.Units.{unit_at}
use Rattle.unit.specs.Heredocs.{is_itself, text_of}
use Rattle.unit.specs.Readings.{Reading, Text, Refused, Wait, onto, taken, after_of, collected, loses_break, heredoc_loses_break}
use Rattle.unit.specs.Readings.{finished, text_at}
use Rattle.unit.proofs.Literals.{finished_whole}

abbrev AllItself : List ℕ → Type 0
AllItself xs = every is_itself xs ≡ true

-- ---- the units of a nowdoc

-- a unit where b stands: that byte, or a stop before which no break is lost
abbrev Kept : ℕ → TextUnit → Type 0
Kept b (TextUnit.Byte value after) = value ≡ b
Kept b (TextUnit.Point c after) = ⊥
Kept b (TextUnit.Ends stop from after) = heredoc_loses_break stop ≡ false
Kept b (TextUnit.Fault refusal place) = Unit {0}
Kept b TextUnit.Undecided = Unit {0}

closer_kept : (b size : ℕ) (ind : Indentation) (amount n : ℕ) → Kept b (closer size ind amount n)
unfolding closer heredoc_loses_break
closer_kept b size Indentation.None amount n = refl
closer_kept b size Indentation.Space amount n = refl
closer_kept b size Indentation.Tab amount n = refl
closer_kept b size Indentation.Mixed amount n = tt

judged_kept : (m : Match) (end : Bool) (n : ℕ) (u : TextUnit) → Kept (code "\n") u → Kept (code "\n") (judged m end n u)
unfolding judged
judged_kept Match.Whole end n u x = x
judged_kept Match.Other end n u x = refl
judged_kept Match.Undecided end n u x = choice (Kept (code "\n")) end _ _ (λ e. refl) (λ e. tt)

line_kept : (label : List ℕ) (end : Bool) (n : ℕ) (ind : Indentation) (amount : ℕ) (xs : List ℕ)
    → Kept (code "\n") (line label end n ind amount xs)
unfolding line
line_kept label end n ind amount [] = judged_kept (matched label []) end n _ (closer_kept _ (length label) ind amount _)
line_kept label end n ind amount (b ∷ rest) =
    choice (Kept (code "\n")) (is_blank b) _ _
    (λ e. line_kept label end n (indented ind b) (suc amount) rest)
    (λ e. judged_kept (matched label (b ∷ rest)) end n _ (closer_kept _ (length label) ind amount _))

nowdoc_kept : (label : List ℕ) (end : Bool) (n b : ℕ) (rest : List ℕ) → Kept b (unit_at Mode.Nowdoc label end n b rest)
unfolding unit_at
nowdoc_kept label end n b rest =
    choice (Kept b) (b is "\n") _ _
    (λ e.
    let z : b ≡ code "\n" = eqb-true b (code "\n") e in
    rw z (line_kept label end n Indentation.None 0 rest))
    (λ e. refl)

-- ---- the bytes of a text

-- the first byte of a text
text_first : (b : ℕ) (rest : List ℕ) (r : Reading) → AllItself (text_of (b ∷ rest) (onto (b ∷ []) r)) → is_itself b ≡ true
unfolding text_of onto every
text_first b rest (Text text stop from after) e = &&-left (is_itself b) _ e
text_first b rest (Refused refusal place) e = &&-left (is_itself b) _ e
text_first b rest Wait e = &&-left (is_itself b) _ e

-- a break is the same unit in both, and so is such a byte
unit_same : (octals : Octal) (label : List ℕ) (end : Bool) (n b : ℕ) (rest : List ℕ) (later : Reading)
    → AllItself (text_of (b ∷ rest) (taken (unit_at Mode.Nowdoc label end n b rest) later))
    → unit_at (Mode.Heredoc octals) label end n b rest ≡ unit_at Mode.Nowdoc label end n b rest
unfolding unit_at taken is_itself
unit_same octals label end n b rest later =
    if_both (λ u v. AllItself (text_of (b ∷ rest) (taken v later)) → u ≡ v) (b is "\n")
    (λ e h. refl)
    (λ e h.
    let all = text_first b rest later h in
    let two = &&-left (not (b is "\\") && not (b is "$")) (not (b is "{")) all in
    let slash = not-true (b is "\\") (&&-left (not (b is "\\")) (not (b is "$")) two) in
    let dollar = not-true (b is "$") (&&-right (not (b is "\\")) (not (b is "$")) two) in
    let brace = not-true (b is "{") (&&-right (not (b is "\\") && not (b is "$")) (not (b is "{")) all) in
    rw (slash, dollar, brace))

-- ---- a heredoc's reading beside a nowdoc's

abbrev Closes : Reading → Type 0
Closes (Text text stop from after) = heredoc_loses_break stop ≡ false
Closes (Refused refusal place) = Unit {0}
Closes Wait = Unit {0}

-- h of the heredoc and r of the nowdoc, on xs
record Beside (xs : List ℕ) (h r : Reading) : Type 0 where
  same : AllItself (text_of xs r) → h ≡ r
  within : AllItself xs → AllItself (text_of xs r)
  closes : Closes r

-- a byte of the text before them, and one that was passed
beside_byte : (b : ℕ) (xs : List ℕ) (h r : Reading) → Beside xs h r
    → Beside (b ∷ xs) (onto (b ∷ []) h) (onto (b ∷ []) r)
unfolding text_of onto every
beside_byte b xs h (Text text stop from after) x =
    record {
      same = λ e. ap (onto (b ∷ [])) (x.same (&&-right (is_itself b) _ e));
      within = λ e. &&-both (is_itself b) _ (&&-left (is_itself b) _ e) (x.within (&&-right (is_itself b) _ e));
      closes = x.closes;
    }
beside_byte b xs h (Refused refusal place) x =
    record { same = λ e. ap (onto (b ∷ [])) (x.same (&&-right (is_itself b) _ e)); within = λ e. e; closes = tt }
beside_byte b xs h Wait x =
    record { same = λ e. ap (onto (b ∷ [])) (x.same (&&-right (is_itself b) _ e)); within = λ e. e; closes = tt }

beside_passed : (b : ℕ) (xs : List ℕ) (h r : Reading) → Beside xs h r → Beside (b ∷ xs) h r
unfolding text_of every
beside_passed b xs h (Text text stop from after) x =
    record { same = x.same; within = λ e. x.within (&&-right (is_itself b) _ e); closes = x.closes }
beside_passed b xs h (Refused refusal place) x =
    record { same = λ e. x.same (&&-right (is_itself b) _ e); within = λ e. e; closes = tt }
beside_passed b xs h Wait x =
    record { same = λ e. x.same (&&-right (is_itself b) _ e); within = λ e. e; closes = tt }

module _ (octals : Octal) (label : List ℕ) (end : Bool) where
  abbrev heredoc : ℕ → ℕ → List ℕ → Reading
  heredoc k n xs = collected (Mode.Heredoc octals) label end k n xs

  abbrev nowdoc : ℕ → ℕ → List ℕ → Reading
  nowdoc k n xs = collected Mode.Nowdoc label end k n xs

  collected_beside : (k n : ℕ) (xs : List ℕ) → Beside xs (heredoc k n xs) (nowdoc k n xs)
  unfolding collected text_of taken after_of every
  collected_beside k n [] =
      choice (λ r. Beside [] r r) end _ _
      (λ e. record { same = λ z. refl; within = λ z. z; closes = tt })
      (λ e. record { same = λ z. refl; within = λ z. z; closes = tt })
  collected_beside (suc k) n (b ∷ xs) = beside_passed b xs _ _ (collected_beside k (suc n) xs)
  collected_beside zero n (b ∷ xs) =
      let u = unit_at Mode.Nowdoc label end n b xs in
      let y = go u (nowdoc_kept label end n b xs) (λ k. collected_beside k (suc n) xs) in
      record { same = λ e. rw (unit_same octals label end n b xs _ e) (y.same e); within = y.within; closes = y.closes }
    where
      go : (u : TextUnit) → Kept b u → ((k : ℕ) → Beside xs (heredoc k (suc n) xs) (nowdoc k (suc n) xs))
          → Beside (b ∷ xs) (taken u (heredoc (after_of u - suc n) (suc n) xs))
          (taken u (nowdoc (after_of u - suc n) (suc n) xs))
      go (TextUnit.Byte value after) x ih = rw x (beside_byte b xs _ _ (ih (after - suc n)))
      go (TextUnit.Point c after) x ih = absurd x
      go (TextUnit.Ends stop from after) x ih = record { same = λ e. refl; within = λ e. refl; closes = x }
      go (TextUnit.Fault refusal place) x ih = record { same = λ e. refl; within = λ e. e; closes = tt }
      go TextUnit.Undecided x ih = record { same = λ e. refl; within = λ e. e; closes = tt }

finished_closes : (octals : Octal) (r : Reading) → Closes r → finished (Mode.Heredoc octals) r ≡ r
unfolding finished loses_break
finished_closes octals (Text text stop from after) x = rw x
finished_closes octals (Refused refusal place) x = refl
finished_closes octals Wait x = refl

-- ---- the theorems

nowdoc_text : (label : List ℕ) (end : Bool) (n : ℕ) (xs : List ℕ)
    → text_at Mode.Nowdoc label end n xs ≡ collected Mode.Nowdoc label end 0 n xs
unfolding text_at loses_break
nowdoc_text label end n xs = finished_whole Mode.Nowdoc _ (λ stop. refl)

module _ (octals : Octal) (label : List ℕ) (end : Bool) (n : ℕ) where
  pub heredoc_plain : (xs : List ℕ) → every is_itself (text_of xs (text_at Mode.Nowdoc label end n xs)) ≡ true
      → text_at (Mode.Heredoc octals) label end n xs ≡ text_at Mode.Nowdoc label end n xs
  unfolding text_at
  heredoc_plain xs e =
      let x = collected_beside octals label end 0 n xs in
      let h = rw (nowdoc_text label end n xs) at e in
      ap (finished (Mode.Heredoc octals)) (x.same h) ∙ finished_closes octals _ x.closes
      ∙ sym (nowdoc_text label end n xs)

  pub plain_within : (xs : List ℕ) → every is_itself xs ≡ true
      → every is_itself (text_of xs (text_at Mode.Nowdoc label end n xs)) ≡ true
  plain_within xs e = rw (nowdoc_text label end n xs) ((collected_beside octals label end 0 n xs).within e)

  pub heredoc_double : (b : ℕ) (rest : List ℕ) → b is "\"" ≡ false → b is "\n" ≡ false
      → unit_at (Mode.Heredoc octals) label end n b rest ≡ unit_at (Mode.DoubleQuote octals) [] end n b rest
  unfolding unit_at
  heredoc_double b rest q l = rw (q, l)

  pub heredoc_quoted : (rest : List ℕ) → unit_at (Mode.Heredoc octals) label end n (code "\"") rest ≡ plain (code "\"") n
  unfolding unit_at
  heredoc_quoted rest = refl
