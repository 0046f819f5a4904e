-- What shows that two continuations of a text are told apart, and how it is carried over a byte that is text.
--   Plainly, Quiet                 bytes that stand for themselves in every mode
--   Falls, Faults, Splits, Final   what a unit is in one of the two
--   Opening                        the two continuations; `opens_on` carries it one byte further on
-- Assumes nothing.
use Rattle.std.specs.Prelude.{if◌then◌else◌, Some, None}
use Rattle.byte.specs.declared.Refusal.{Refusal}
use mathlib.Core.Path.{◌≡◌, refl, ap, ◌∙◌}
use mathlib.Core.Bool.{Bool, true, false}
use mathlib.Core.List.{List, [], ◌∷◌, ◌++◌}
use Prim.Native.Nat.{ℕ, suc, ◌+◌}
use Prim.Native.Char.{code}
use native.Mathlib.Omega.{arith}
use lib.Dec.{ltb, eqb}
use lib.ListN.{length}
use borrow.Author.Tests.{eqb-true}
use Rattle.byte.specs.Words.{◌is◌, every}
use Rattle.byte.specs.Bytes.{is_start, is_identifier, is_blank, is_letter, is_digit}
use Rattle.byte.specs.Demand.{is_byte}
use Rattle.unit.specs.declared.Follow.{Follow}
use Rattle.unit.specs.declared.Stop.{Stop}
use Rattle.unit.specs.declared.TextUnit.{TextUnit}
use Rattle.unit.specs.Digits.{digit_value}
use Rattle.unit.specs.Interpolations.{dollar, brace}
use Rattle.unit.proofs.Stays.{clash}

-- ---- bytes that stand for themselves in every mode

pub record Plainly (b : ℕ) : Type 0 where
  pub lf : b is "\n" ≡ false
  pub quote : b is "\"" ≡ false
  pub dollar : b is "$" ≡ false
  pub apostrophe : b is "'" ≡ false
  pub slash : b is "\\" ≡ false
  pub tick : b is "`" ≡ false
  pub brace : b is "{" ≡ false

abbrev pub Quiet : List ℕ → Type 0
Quiet [] = Unit {0}
Quiet (b ∷ xs) = Plainly b × Quiet xs

-- a byte that passes a test which k does not pass is not k
pub other_byte : (test : ℕ → Bool) (k b : ℕ) → test k ≡ false → test b ≡ true → eqb b k ≡ false
other_byte test k b f h = go (eqb b k) refl
  where
    go : (t : Bool) → eqb b k ≡ t → eqb b k ≡ false
    go false e = e
    go true e =
        let z : test b ≡ test k = ap test (eqb-true b k e) in
        cc

plainly : (test : ℕ → Bool) → test (code "\n") ≡ false → test (code "\"") ≡ false → test (code "$") ≡ false
    → test (code "'") ≡ false
    → test (code "\\") ≡ false → test (code "`") ≡ false → test (code "{") ≡ false → (b : ℕ) → test b ≡ true → Plainly b
plainly test p q r s u v w b h =
    record {
      lf = other_byte test (code "\n") b p h;
      quote = other_byte test (code "\"") b q h;
      dollar = other_byte test (code "$") b r h;
      apostrophe = other_byte test (code "'") b s h;
      slash = other_byte test (code "\\") b u h;
      tick = other_byte test (code "`") b v h;
      brace = other_byte test (code "{") b w h;
    }

-- one byte more, which every mode takes for text
abbrev pub one_more : List ℕ
one_more = code "0" ∷ []

pub one_more_quiet : Quiet one_more
one_more_quiet = (plainly (λ x. x is "0") refl refl refl refl refl refl refl (code "0") refl, tt)

pub blank_plainly : (b : ℕ) → is_blank b ≡ true → Plainly b
unfolding is_blank
blank_plainly b h = plainly (λ x. is_blank x) refl refl refl refl refl refl refl b h

pub identifier_plainly : (b : ℕ) → is_identifier b ≡ true → Plainly b
unfolding is_identifier is_start is_letter is_digit
identifier_plainly b h = plainly (λ x. is_identifier x) refl refl refl refl refl refl refl b h

pub start_plainly : (b : ℕ) → is_start b ≡ true → Plainly b
unfolding is_start is_letter
start_plainly b h = plainly (λ x. is_start x) refl refl refl refl refl refl refl b h

pub octal_plainly : (b : ℕ) → ltb (digit_value b) 8 ≡ true → Plainly b
unfolding digit_value
octal_plainly b h = plainly (λ x. ltb (digit_value x) 8) refl refl refl refl refl refl refl b h

pub hex_plainly : (b : ℕ) → ltb (digit_value b) 16 ≡ true → Plainly b
unfolding digit_value
hex_plainly b h = plainly (λ x. ltb (digit_value x) 16) refl refl refl refl refl refl refl b h

pub x_plainly : (b : ℕ) → b is "x" ≡ true → Plainly b
x_plainly b h = plainly (λ x. x is "x") refl refl refl refl refl refl refl b h

pub u_plainly : (b : ℕ) → b is "u" ≡ true → Plainly b
u_plainly b h = plainly (λ x. x is "u") refl refl refl refl refl refl refl b h

-- ---- what two continuations show, of the text from p on which f looks at

-- a byte of the value with only quiet bytes after, or a fault at the text's end
pub data Falls (ys : List ℕ) : TextUnit → ℕ → Type 0 where
  byte : {value after place : ℕ} → Quiet ys → Falls ys (TextUnit.Byte value after) place
  fault : {refusal : Refusal} {place : ℕ} → Falls ys (TextUnit.Fault refusal place) place

-- a fault at the text's end, whatever stands before
pub record Faults (p : ℕ) (xs : List ℕ) (f : List ℕ → TextUnit) : Type 0 where
  pub now : f xs ≡ TextUnit.Fault Refusal.InvalidUnicodeEscape (p + length xs)
  pub later : f (xs ++ one_more) ≡ TextUnit.Fault Refusal.InvalidUnicodeEscape (p + suc (length xs))

-- a variable, or one with a property
pub record Splits (xs : List ℕ) (f : List ℕ → TextUnit) : Type 0 where
  pub from : ℕ
  pub after : ℕ
  pub more : List ℕ
  pub more_bytes : every is_byte more ≡ true
  pub now : f xs ≡ TextUnit.Ends (Stop.Variable Follow.Other) from after
  pub later : f (xs ++ more) ≡ TextUnit.Ends (Stop.Variable Follow.Property) from after

-- a closer, or a refusal 4
pub data Final : TextUnit → Type 0 where
  ends : {stop : Stop} {from after : ℕ} → Final (TextUnit.Ends stop from after)
  crooked : {place : ℕ} → Final (TextUnit.Fault Refusal.InvalidDocIndentation place)

pub data Opening (p : ℕ) (xs : List ℕ) (f : List ℕ → TextUnit) : Type 0 where
  falls : Falls xs (f xs) (p + length xs) → Falls (xs ++ one_more) (f (xs ++ one_more)) (p + suc (length xs)) → Opening p xs f
  faults : Faults p xs f → Opening p xs f
  splits : Splits xs f → Opening p xs f
  closes : {value after : ℕ} (more : List ℕ) → every is_byte more ≡ true → Quiet xs → f xs ≡ TextUnit.Byte value after
      → Final (f (xs ++ more)) → Opening p xs f

-- after a byte that is text, too
abbrev pub Passed : ℕ → ℕ → List ℕ → (List ℕ → TextUnit) → Type 0
Passed b p xs f = Plainly b × Opening p xs f

-- a choice that is undecided goes the way that is, and shows of it what that way shows
pub if_waits : {A : Type 0} {o u v : A} {f g : List ℕ → A} (P : (List ℕ → A) → Type 0) (t : Bool) → (t ≡ true → u ≡ o → P f)
    → (v ≡ o → P g)
    → (if t then u else v) ≡ o → P (λ ys. if t then f ys else g ys)
if_waits P true x y k = x refl k
if_waits P false x y k = y k

-- what is told at once is not undecided
pub byte_told : {A : Type 0} {value after : ℕ} → TextUnit.Byte value after ≡ TextUnit.Undecided → A
byte_told h = clash cc

pub point_told : {A : Type 0} {value after : ℕ} → TextUnit.Point value after ≡ TextUnit.Undecided → A
point_told h = clash cc

pub stop_told : {A : Type 0} {stop : Stop} {from after : ℕ} → TextUnit.Ends stop from after ≡ TextUnit.Undecided → A
stop_told h = clash cc

pub fault_told : {A : Type 0} {refusal : Refusal} {place : ℕ} → TextUnit.Fault refusal place ≡ TextUnit.Undecided → A
fault_told h = clash cc

pub look_told : {A : Type 0} {f : Follow} → Some f ≡ None → A
look_told h = clash cc

-- one byte further on
falls_on : {ys : List ℕ} {u : TextUnit} {q r : ℕ} (b : ℕ) → Plainly b → q ≡ r → Falls ys u q → Falls (b ∷ ys) u r
falls_on b h e (byte k) = byte (h, k)
falls_on b h e fault = rw (← e) fault

pub faults_on : {p : ℕ} {xs : List ℕ} {f : List ℕ → TextUnit} (b : ℕ) → Faults (suc p) xs (λ ys. f (b ∷ ys))
    → Faults p (b ∷ xs) f
faults_on b x =
    record { now = x.now ∙ ap (TextUnit.Fault Refusal.InvalidUnicodeEscape) (omega arith); later = x.later ∙ ap (TextUnit.Fault Refusal.InvalidUnicodeEscape) (omega arith) }

pub splits_on : {xs : List ℕ} {f : List ℕ → TextUnit} (b : ℕ) → Splits xs (λ ys. f (b ∷ ys)) → Splits (b ∷ xs) f
splits_on b x =
    record { from = x.from; after = x.after; more = x.more; more_bytes = x.more_bytes; now = x.now; later = x.later }

pub opens_on : {p : ℕ} {xs : List ℕ} {f : List ℕ → TextUnit} (b : ℕ) → Passed b (suc p) xs (λ ys. f (b ∷ ys))
    → Opening p (b ∷ xs) f
opens_on b (h, falls x y) = falls (falls_on b h (omega arith) x) (falls_on b h (omega arith) y)
opens_on b (h, faults x) = faults (faults_on b x)
opens_on b (h, splits x) = splits (splits_on b x)
opens_on b (h, closes more k q x y) = closes more k (h, q) x y

pub falls_at : {ys : List ℕ} {u : TextUnit} {q r : ℕ} → q ≡ r → Falls ys u q → Falls ys u r
falls_at e f = rw (← e) f
