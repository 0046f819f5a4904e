-- What drafts make: pieces, and the outcomes of plans that write one token, or a part and a token. Assumes nothing.
use Prim.Native.Nat.{ℕ, ◌+◌, ◌-◌, ◌≤◌}
use mathlib.Core.Path.{◌≡◌, refl, ap, subst}
use mathlib.Core.Bool.{Bool, false}
use mathlib.Core.List.{List, [], ◌∷◌, ◌++◌}
use native.Mathlib.Omega.{arith}
use lib.ListN.{length, take, drop}
use Rattle.token.specs.declared.Kind.{Kind}
use Rattle.token.specs.Kinds.{kind_number}
use Rattle.outcome.specs.declared.Change.{Change}
use Rattle.outcome.specs.Outcomes.{Piece, Outcome, piece, unless_empty}
use Rattle.plan.specs.declared.Making.{Making}
use Rattle.plan.specs.declared.Draft.{Draft}
use Rattle.plan.specs.Code.{made_by, piece_of, pieces, outcome_of, Able, Ready, PlansIn, copied_draft, one_plan, parted_plan}
use Rattle.plan.proofs.Plans as plan
use Rattle.drafts.specs.Code.{made_draft}

-- a draft makes this piece, and can be written
pub record Makes (src : List ℕ) (end : Bool) (scratch : List ℕ) (p : Piece) (d : Draft) : Type 0 where
  pub told : piece_of src end d ≡ p
  pub ready : Ready src end scratch d

module _ {scratch : List ℕ} (src : List ℕ) (end : Bool) where
  module _ (kind : Kind) (place : ℕ) (value : List ℕ) where
    pub copied_makes : (from len : ℕ) → from + len ≤ length src → value ≡ take len (drop from src)
        → Makes src end scratch (piece (kind_number kind) place value) (copied_draft (kind_number kind) 0 place from (from + len))
    unfolding made_by
    copied_makes from len inside same =
        let n : from + len - from ≡ len = omega arith in
        record { told = rw (n, same); ready = plan.copied_ready src end (kind_number kind) 0 place from (from + len) (omega arith) inside }

    pub made_makes : (making : Making) (from to : ℕ) → Able making src scratch from to (length value) value
        → made_by making src end from to ≡ value
        → Makes src end scratch (piece (kind_number kind) place value) (made_draft kind place making from to (length value))
    made_makes making from to able e = record { told = rw e; ready = record { size = rw e; able = rw e able } }

  module _ (after : ℕ) (change : Change) where
    pub one_plans : (d : Draft) → Ready src end scratch d
        → PlansIn src end scratch (Outcome.Told (piece_of src end d ∷ []) after change false) (one_plan d after change)
    unfolding outcome_of pieces
    one_plans d ready = record { told = refl; ready = record { few = omega arith; all = (ready, tt) } }

    module _ (kind place : ℕ) (value : List ℕ) where
      pub piece_plans : (d : Draft) → Makes src end scratch (piece kind place value) d
          → PlansIn src end scratch (Outcome.Told (piece kind place value ∷ []) after change false)
          (one_plan d after change)
      piece_plans d x = rw x.told at (one_plans d x.ready)

      -- the token after a part bears the part's span
      pub parted_plans : (part : Draft) (d : ℕ → Draft) → Makes src end scratch (piece kind place value) part
          → ((k : ℕ) → Ready src end scratch (d k))
          → PlansIn src end scratch
          (Outcome.Told (unless_empty kind place value ++ piece_of src end (d place) ∷ []) after change false)
          (parted_plan part (d part.place) after change)
      parted_plans part d x ready =
          subst
          (λ p. PlansIn src end scratch
          (Outcome.Told (unless_empty p.kind p.place p.value ++ piece_of src end (d p.place) ∷ []) after change false)
          (parted_plan part (d part.place) after change))
          x.told
          (plan.parted_plans src end part (d part.place) after change (ap (λ p. p.detail) x.told) x.ready (ready part.place))
