-- The two choices for octal escapes beside each other: where the Rust's does not give 3, the manual's gives the same.
-- Assumes nothing.
--   text_chosen     of a text in any mode
--   unit_manual     under the manual's choice a backslash means what the manual's table says, in every mode that has
--                   escapes
--   unit_overflow   which unit an octal number over 255 is there, under either choice
-- Escapes first, in the definitions' order; then the modes, and a text unit by unit.
use Prim.Native.Nat.{ℕ, zero, suc, ◌+◌, ◌-◌, ◌*◌, ◌≤◌}
use Prim.Native.Char.{code}
use mathlib.Core.Path.{◌≡◌, refl, ap, ◌∙◌}
use mathlib.Core.Bool.{Bool, true, false}
use mathlib.Core.List.{List, [], ◌∷◌}
use lib.Dec.{ltb}
use lib.ListN.{length}
use Rattle.byte.specs.declared.Octal.{Octal}
use Rattle.byte.specs.Refusals.{invalid_octal_escape}
use Rattle.byte.specs.Words.{◌is◌}
use Rattle.byte.proofs.Tests.{if_both}
use Rattle.unit.specs.declared.Mode.{Mode}
use Rattle.unit.specs.declared.Stop.{Stop}
use Rattle.unit.specs.declared.TextUnit.{TextUnit}
use Rattle.unit.specs.Digits.{digit_value, utf8}
use Rattle.unit.specs.Escapes.{letter_value, overflowing, fitted, digits, hex, escape}
use Rattle.unit.specs.Units.{unit_at}
use Rattle.unit.specs.Readings.{Reading, Text, Refused, Wait, onto, taken, after_of, collected, loses_break}
use Rattle.unit.specs.Readings.{finished, text_at}
use Rattle.unit.specs.Octals.{with_octals, reads_escapes}
use Rattle.unit.specs.Manual.{digits_of, number, unmatched, double_quoted, said_by, says}
use Rattle.unit.proofs.Stays.{clash}
use Rattle.unit.proofs.Manual.{escape_manual_all, escape_overflow}

-- v, under the manual's choice, is u, under the Rust's, unless that is 3
abbrev Chosen : TextUnit → TextUnit → Type 0
Chosen u v = ((place : ℕ) → u ≡ TextUnit.Fault invalid_octal_escape place → ⊥) → v ≡ u

-- ---- escapes

fitted_chosen : (value n : ℕ) → Chosen (fitted Octal.Rust value n) (fitted Octal.Manual value n)
unfolding fitted overflowing
fitted_chosen value n = if_both Chosen (ltb value 256) (λ e h. refl) (λ e h. absurd (h n refl))

digits_chosen : (end : Bool) (base left value n : ℕ) (xs : List ℕ)
    → Chosen (digits Octal.Rust end base left value n xs) (digits Octal.Manual end base left value n xs)
unfolding digits
digits_chosen end base zero value n xs = fitted_chosen value n
digits_chosen end base (suc left) value n [] = if_both Chosen end (λ e. fitted_chosen value n) (λ e h. refl)
digits_chosen end base (suc left) value n (b ∷ xs) =
    if_both Chosen (ltb (digit_value b) base)
    (λ e. digits_chosen end base left (value * base + digit_value b) (suc n) xs)
    (λ e. fitted_chosen value n)

hex_chosen : (end : Bool) (p : ℕ) (xs : List ℕ) → Chosen (hex Octal.Rust end p xs) (hex Octal.Manual end p xs)
unfolding hex
hex_chosen end p [] = λ h. refl
hex_chosen end p (b ∷ xs) =
    if_both Chosen (ltb (digit_value b) 16) (λ e. digits_chosen end 16 1 (digit_value b) (suc (suc p)) xs) (λ e h. refl)

escape_chosen : (end : Bool) (p : ℕ) (xs : List ℕ) → Chosen (escape Octal.Rust end p xs) (escape Octal.Manual end p xs)
unfolding escape
escape_chosen end p [] = λ h. refl
escape_chosen end p (b ∷ xs) =
    if_both Chosen (ltb (letter_value b) 256) (λ e h. refl)
    (λ e. if_both Chosen (ltb (digit_value b) 8) (λ f. digits_chosen end 8 2 (digit_value b) (suc p) xs)
    (λ f. if_both Chosen (b is "x") (λ g. hex_chosen end p xs) (λ g h. refl)))

-- ---- the six modes

unit_chosen : (m : Mode) (label : List ℕ) (end : Bool) (n b : ℕ) (rest : List ℕ)
    → Chosen (unit_at (with_octals Octal.Rust m) label end n b rest) (unit_at (with_octals Octal.Manual m) label end n b rest)
unfolding unit_at with_octals
unit_chosen Mode.Single label end n b rest = λ h. refl
unit_chosen (Mode.Double octals) label end n b rest =
    if_both Chosen (b is "\"") (λ e h. refl)
    (λ e. if_both Chosen (b is "\\") (λ f. escape_chosen end (suc n) rest) (λ f h. refl))
unit_chosen (Mode.DoubleQuote octals) label end n b rest =
    if_both Chosen (b is "\"") (λ e h. refl)
    (λ e. if_both Chosen (b is "\\") (λ f. escape_chosen end (suc n) rest) (λ f h. refl))
unit_chosen Mode.ShellExec label end n b rest = λ h. refl
unit_chosen (Mode.Heredoc octals) label end n b rest =
    if_both Chosen (b is "\n") (λ e h. refl)
    (λ e. if_both Chosen (b is "\\") (λ f. escape_chosen end (suc n) rest) (λ f h. refl))
unit_chosen Mode.Nowdoc label end n b rest = λ h. refl

-- ---- a text

abbrev NotThree : Reading → Type 0
NotThree r = (place : ℕ) → r ≡ Refused invalid_octal_escape place → ⊥

onto_three : (vs : List ℕ) (r : Reading) → NotThree (onto vs r) → NotThree r
unfolding onto
onto_three vs (Text text stop from after) h = λ place e. clash cc
onto_three vs (Refused refusal fault) h = h
onto_three vs Wait h = λ place e. clash cc

-- what is read after a unit counts where the unit is text
taken_chosen : (u : TextUnit) (r s : Reading) → NotThree (taken u r) → (NotThree r → s ≡ r) → taken u s ≡ taken u r
unfolding taken
taken_chosen (TextUnit.Byte value after) r s h same = ap (onto (value ∷ [])) (same (onto_three (value ∷ []) r h))
taken_chosen (TextUnit.Point c after) r s h same = ap (onto (utf8 c)) (same (onto_three (utf8 c) r h))
taken_chosen (TextUnit.Ends stop from after) r s h same = refl
taken_chosen (TextUnit.Fault refusal place) r s h same = refl
taken_chosen TextUnit.Undecided r s h same = refl

module _ (m : Mode) (label : List ℕ) (end : Bool) where
  abbrev rust : Mode
  rust = with_octals Octal.Rust m

  abbrev manual : Mode
  manual = with_octals Octal.Manual m

  collected_chosen : (skip n : ℕ) (xs : List ℕ) → NotThree (collected rust label end skip n xs)
      → collected manual label end skip n xs ≡ collected rust label end skip n xs
  unfolding collected taken
  collected_chosen skip n [] h = refl
  collected_chosen (suc k) n (b ∷ xs) h = collected_chosen k (suc n) xs h
  collected_chosen zero n (b ∷ xs) h =
      let u = unit_at rust label end n b xs in
      let same : unit_at manual label end n b xs ≡ u = unit_chosen m label end n b xs (λ place e. h place (rw e)) in
      rw same (taken_chosen u _ _ h (collected_chosen (after_of u - suc n) (suc n) xs))

finished_three : (m : Mode) (r : Reading) → NotThree (finished m r) → NotThree r
unfolding finished
finished_three m (Text text stop from after) h = λ place e. clash cc
finished_three m (Refused refusal fault) h = h
finished_three m Wait h = λ place e. clash cc

-- whether a break is lost does not hang on the choice
loses_chosen : (m : Mode) (stop : Stop)
    → loses_break (with_octals Octal.Manual m) stop ≡ loses_break (with_octals Octal.Rust m) stop
unfolding loses_break with_octals
loses_chosen Mode.Single stop = refl
loses_chosen (Mode.Double octals) stop = refl
loses_chosen (Mode.DoubleQuote octals) stop = refl
loses_chosen Mode.ShellExec stop = refl
loses_chosen (Mode.Heredoc octals) stop = refl
loses_chosen Mode.Nowdoc stop = refl

finished_chosen : (m : Mode) (r : Reading)
    → finished (with_octals Octal.Manual m) r ≡ finished (with_octals Octal.Rust m) r
unfolding finished
finished_chosen m (Text text stop from after) = rw (loses_chosen m stop)
finished_chosen m (Refused refusal place) = refl
finished_chosen m Wait = refl

pub text_chosen : (m : Mode) (label : List ℕ) (end : Bool) (n : ℕ) (xs : List ℕ)
    → ((place : ℕ) → text_at (with_octals Octal.Rust m) label end n xs ≡ Refused invalid_octal_escape place → ⊥)
    → text_at (with_octals Octal.Manual m) label end n xs ≡ text_at (with_octals Octal.Rust m) label end n xs
unfolding text_at
text_chosen m label end n xs h =
    let same = collected_chosen m label end 0 n xs (finished_three (with_octals Octal.Rust m) _ h) in
    rw same (finished_chosen m _)

-- ---- what a backslash means

-- in a mode with escapes it is the one reader's
unit_escape : (octals : Octal) (m : Mode) → reads_escapes m ≡ true
    → (label : List ℕ) (end : Bool) (n : ℕ) (rest : List ℕ)
    → unit_at (with_octals octals m) label end n (code "\\") rest ≡ escape octals end (suc n) rest
unfolding unit_at with_octals reads_escapes
unit_escape octals Mode.Single e label end n rest = clash cc
unit_escape octals (Mode.Double other) e label end n rest = refl
unit_escape octals (Mode.DoubleQuote other) e label end n rest = refl
unit_escape octals Mode.ShellExec e label end n rest = clash cc
unit_escape octals (Mode.Heredoc other) e label end n rest = refl
unit_escape octals Mode.Nowdoc e label end n rest = clash cc

module _ (m : Mode) (e : reads_escapes m ≡ true) (label : List ℕ) (n : ℕ) (rest : List ℕ) where
  pub unit_manual : unmatched rest ≡ false
      → says (suc n) (unit_at (with_octals Octal.Manual m) label true n (code "\\") rest) ≡ said_by double_quoted rest
  unit_manual u = rw (unit_escape Octal.Manual m e label true n rest) (escape_manual_all (suc n) rest u)

  pub unit_overflow : (octals : Octal) → 256 ≤ number 8 0 (digits_of 8 3 rest)
      → unit_at (with_octals octals m) label true n (code "\\") rest
      ≡ overflowing octals (number 8 0 (digits_of 8 3 rest)) (suc n + length (digits_of 8 3 rest))
  unit_overflow octals h = unit_escape octals m e label true n rest ∙ escape_overflow octals (suc n) rest h
