-- What the parts of the code tell of a reading: where it ends, and its kind, but no value.
--   place_of, extent_of   digits and a number told so
--   closing_extent        a number that ends where digits do
--   extent_at             a number of this kind that ends here
--   digit_width, WidthAt  how many bytes the next digit takes, after another: 2 with a `_` before it
--   stopped               digits that end with no digit ahead: a `_` that the part ends with may still stand between two
use Rattle.std.specs.Prelude.{ℕ, ◌+◌, ◌≤◌, Bool, ◌&&◌, List, [], ◌∷◌, ◌≡◌, ◌<◌, length, drop, if◌then◌else◌, Option, Some, None, IfSome}
use Rattle.byte.specs.Words.{◌is◌}
use Rattle.number.specs.declared.Base.{Base}
use Rattle.number.specs.declared.Extent.{Extent}
use Rattle.number.specs.declared.Literal.{Literal}
use Rattle.number.specs.Numbers.{Digits, Reading, is_one, last}

unfoldable pub place_of : Digits → Option ℕ
place_of (Digits.Read ds after) = Some after
place_of Digits.Undecided = None

abbrev pub extent_at : Literal → ℕ → Option Extent
extent_at literal after = Some (record { literal = literal; after = after })

unfoldable pub extent_of : Reading → Option Extent
extent_of (Reading.Number literal value after) = extent_at literal after
extent_of Reading.Wait = None

unfoldable pub closing_extent : Literal → Option ℕ → Option Extent
closing_extent literal (Some after) = extent_at literal after
closing_extent literal None = None

unfoldable pub digit_width : Base → List ℕ → Option ℕ
digit_width base [] = None
digit_width base (b ∷ []) = if is_one base b then Some 1 else None
digit_width base (b ∷ c ∷ rest) = if is_one base b then Some 1 else if b is "_" && is_one base c then Some 2 else None

pub record WidthAt (base : Base) (src : List ℕ) (at : ℕ) (r : Option ℕ) : Type 0 where
  pub told : r ≡ digit_width base (drop at src)
  pub inside : IfSome r (λ w. at + w ≤ length src)
  pub some : IfSome r (λ w. 0 < w)

unfoldable pub stopped : Bool → ℕ → List ℕ → Digits
stopped end n [] = last end n
stopped end n (b ∷ []) = if b is "_" then last end n else Digits.Read [] n
stopped end n (b ∷ c ∷ rest) = Digits.Read [] n
