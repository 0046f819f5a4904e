-- Where an outcome lies between the cursor n and the end of the source, hi; every one of a step does (`call_inside`).
--   PieceInside, AllInside   each piece bears a place from the one before on, up to the place after; its detail is no
--                            larger
--   ToldInside               the place after is not before the cursor; there are no more value bytes than were passed
--   Inside   an outcome; a refusal is not the wait, and its place is not before the cursor
use Rattle.std.specs.Prelude.{ℕ, ◌+◌, ◌≤◌, List, [], ◌∷◌, false, ◌≡◌, eqb, length}
use Rattle.byte.specs.declared.Refusal.{Refusal}
use Rattle.byte.specs.Refusals.{wait, is_same}
use Rattle.outcome.specs.Outcomes.{Piece, Outcome, values}

pub record PieceInside (n after : ℕ) (p : Piece) : Type 0 where
  pub low : n ≤ p.place
  pub high : p.place ≤ after
  pub detail : p.detail ≤ after

abbrev pub AllInside : ℕ → ℕ → List Piece → Type 0
AllInside n after [] = Unit {0}
AllInside n after (p ∷ more) = PieceInside n after p × AllInside p.place after more

pub record ToldInside (n hi : ℕ) (pieces : List Piece) (after : ℕ) : Type 0 where
  pub order : n ≤ after
  pub inside : after ≤ hi
  pub narrow : n + length (values pieces) ≤ after
  pub all : AllInside n after pieces

pub record PlaceInside (n hi : ℕ) (refusal : Refusal) (place : ℕ) : Type 0 where
  pub told : is_same refusal wait ≡ false
  pub low : n ≤ place
  pub high : place ≤ hi

abbrev pub Inside : ℕ → ℕ → Outcome → Type 0
Inside n hi (Outcome.Told pieces after change finished) = ToldInside n hi pieces after
Inside n hi (Outcome.Refused refusal place) = PlaceInside n hi refusal place
Inside n hi Outcome.Wait = Unit {0}
