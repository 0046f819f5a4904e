-- The kinds of what a step and a reading tell: each piece bears the number of a Kind, on every input (`call_kinds`).
--   OfKind                a number that a Kind has
--   AllOfKinds, OfKinds   each of these pieces bears one; each piece of an outcome
use Rattle.std.specs.Prelude.{ℕ, List, [], ◌∷◌, ◌≡◌}
use Rattle.token.specs.declared.Kind.{Kind}
use Rattle.token.specs.Kinds.{kind_number}
use Rattle.outcome.specs.Outcomes.{Piece, Outcome}

pub record OfKind (number : ℕ) : Type 0 where
  pub kind : Kind
  pub same : number ≡ kind_number kind

abbrev pub AllOfKinds : List Piece → Type 0
AllOfKinds [] = Unit {0}
AllOfKinds (p ∷ more) = OfKind p.kind × AllOfKinds more

abbrev pub OfKinds : Outcome → Type 0
OfKinds (Outcome.Told pieces after change finished) = AllOfKinds pieces
OfKinds (Outcome.Refused refusal place) = Unit {0}
OfKinds Outcome.Wait = Unit {0}
