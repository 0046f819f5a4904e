-- Where a reading lies, be it of a text or of a sheet, and that it ends after its start: cases of text_stands.
--   text_inside   InsideReading (faults m) n (n + length xs) (text_at m label end n xs)
--   text_moves    MovesReading n (text_at m label end n xs), of a mode that is no literal
--   text_stops    StopsReading (text_at m label end n xs), of such a mode: it leaves no interpolation to another
-- Assumes nothing.
use Rattle.byte.specs.declared.Refusal.{Refusal}
use mathlib.Core.Path.{◌≡◌}
use mathlib.Core.Bool.{Bool, false}
use mathlib.Core.List.{List}
use Prim.Native.Nat.{ℕ, ◌+◌, ◌≤◌, ◌<◌}
use native.Mathlib.Omega.{arith}
use lib.ListN.{length}
use Rattle.unit.specs.declared.Mode.{Mode}
use Rattle.unit.specs.declared.Stop.{Stop}
use Rattle.unit.specs.Readings.{Reading, Text, Refused, Wait, text_at, gap}
use Rattle.unit.proofs.Stands.{is_literal, faults, is_interpolation}
use Rattle.unit.proofs.Readings.{StandsReading, text_stands}
pub use Rattle.unit.proofs.Stands.{FaultInside, matched_length}

-- the amount of indentation before a stop
abbrev pub amount_of : Stop → ℕ
amount_of (Stop.Label ind amount) = amount
amount_of Stop.Quote = 0
amount_of Stop.Interpolation = 0
amount_of Stop.DollarLeftBrace = 0
amount_of Stop.LeftBrace = 0
amount_of (Stop.Variable f) = 0

amount_gap : (stop : Stop) → amount_of stop ≤ gap stop
unfolding gap
amount_gap (Stop.Label ind amount) = omega arith
amount_gap Stop.Quote = omega arith
amount_gap Stop.Interpolation = omega arith
amount_gap Stop.DollarLeftBrace = omega arith
amount_gap Stop.LeftBrace = omega arith
amount_gap (Stop.Variable f) = omega arith

pub record ReadInside (n hi amount : ℕ) (text : List ℕ) (from after : ℕ) : Type 0 where
  pub indented : amount ≤ from
  pub narrow : n + length text ≤ from
  pub order : from ≤ after
  pub inside : after ≤ hi

-- what is refused is one of these
abbrev pub InsideReading : List Refusal → ℕ → ℕ → Reading → Type 0
InsideReading refusals n hi (Text text stop from after) = ReadInside n hi (amount_of stop) text from after
InsideReading refusals n hi (Refused refusal place) = FaultInside refusals n hi refusal place
InsideReading refusals n hi Wait = Unit {0}

abbrev pub MovesReading : ℕ → Reading → Type 0
MovesReading n (Text text stop from after) = n < after
MovesReading n (Refused refusal place) = Unit {0}
MovesReading n Wait = Unit {0}

abbrev pub StopsReading : Reading → Type 0
StopsReading (Text text stop from after) = is_interpolation stop ≡ false
StopsReading (Refused refusal place) = Unit {0}
StopsReading Wait = Unit {0}

module _ (m : Mode) (label : List ℕ) (end : Bool) (n : ℕ) (xs : List ℕ) where
  pub text_inside : InsideReading (faults m) n (n + length xs) (text_at m label end n xs)
  text_inside = go (text_at m label end n xs) (text_stands m label end n xs)
    where
      go : (r : Reading) → StandsReading m n (n + length xs) xs r → InsideReading (faults m) n (n + length xs) r
      go (Text text stop from after) x =
          record {
            indented = omega (arith, x.fits, amount_gap stop);
            narrow = omega (arith, x.fits);
            order = x.order;
            inside = x.inside;
          }
      go (Refused refusal place) x = x
      go Wait x = tt

  pub text_moves : is_literal m ≡ false → MovesReading n (text_at m label end n xs)
  text_moves h = go (text_at m label end n xs) (text_stands m label end n xs)
    where
      go : (r : Reading) → StandsReading m n (n + length xs) xs r → MovesReading n r
      go (Text text stop from after) x = x.on h
      go (Refused refusal place) x = tt
      go Wait x = tt

  pub text_stops : is_literal m ≡ false → StopsReading (text_at m label end n xs)
  text_stops h = go (text_at m label end n xs) (text_stands m label end n xs)
    where
      go : (r : Reading) → StandsReading m n (n + length xs) xs r → StopsReading r
      go (Text text stop from after) x = x.own h
      go (Refused refusal place) x = tt
      go Wait x = tt
