-- Laws of tests and of statements: a conjunction, a byte that is none of four, a choice that a test decides, the
-- arms of a match, a refusal that was not given, and that a statement `r ≡ ..` has one result. Assumes nothing.
use Rattle.std.specs.Prelude.{Result, Ok, Err, if◌then◌else◌}
use Prim.Native.Nat.{ℕ, suc, ◌+◌}
use mathlib.Core.Path.{◌≡◌, refl, sym, ◌∙◌}
use mathlib.Core.Bool.{Bool, true, false, not, ◌&&◌, ◌||◌, false≢true}
use native.Mathlib.Numerals.{add-one}
use lib.Dec.{eqb}
use borrow.Author.Tests.{eq-eqb, ne_eqb, not-true}
use Rattle.byte.specs.declared.Refusal.{Refusal}
use Rattle.byte.specs.Bytes.{is_none_of}

-- both sides of a conjunction that holds
pub &&-left : (a b : Bool) → (a && b) ≡ true → a ≡ true
&&-left true b e = refl
&&-left false b e = absurd (false≢true e)

pub &&-right : (a b : Bool) → (a && b) ≡ true → b ≡ true
&&-right true b e = e
&&-right false b e = absurd (false≢true e)

-- and back
pub &&-both : (a b : Bool) → a ≡ true → b ≡ true → (a && b) ≡ true
&&-both a b e f = rw (e, f)

-- neither side of a disjunction that fails
pub ||-neither : (a b : Bool) → (a || b) ≡ false → (a ≡ false) × (b ≡ false)
||-neither true b e = absurd (false≢true (sym e))
||-neither false b e = (refl, e)

-- none of four
pub record None (b w x y z : ℕ) : Type 0 where
  pub first : eqb b w ≡ false
  pub second : eqb b x ≡ false
  pub third : eqb b y ≡ false
  pub fourth : eqb b z ≡ false

pub none_of : (b w x y z : ℕ) → is_none_of w x y z b ≡ true → None b w x y z
unfolding is_none_of
none_of b w x y z e =
    let three = not (eqb b w) && not (eqb b x) && not (eqb b y) in
    let two = not (eqb b w) && not (eqb b x) in
    let f = &&-left three (not (eqb b z)) e in
    let g = &&-left two (not (eqb b y)) f in
    record {
      first = not-true (eqb b w) (&&-left (not (eqb b w)) (not (eqb b x)) g);
      second = not-true (eqb b x) (&&-right (not (eqb b w)) (not (eqb b x)) g);
      third = not-true (eqb b y) (&&-right two (not (eqb b y)) f);
      fourth = not-true (eqb b z) (&&-right three (not (eqb b z)) e);
    }

-- what holds of both ways of a choice holds of the choice
pub choice : {A : Type 0} (P : A → Type 0) (t : Bool) (a b : A) → (t ≡ true → P a) → (t ≡ false → P b) → P (if t then a else b)
choice P true a b first other = first refl
choice P false a b first other = other refl

-- two choices by one test
pub if_both : {A B : Type 0} (P : A → B → Type 0) (t : Bool) {a a' : A} {b b' : B} → (t ≡ true → P a b) → (t ≡ false → P a' b')
    → P (if t then a else a') (if t then b else b')
if_both P true x y = x refl
if_both P false x y = y refl

-- a chain of choices, as the code goes through it: a byte is the choice's, no choice's or a later one's; a flag tells
module _ {A : Type 0} (r u o : A) where
  module _ (b v : ℕ) where
    pub arm_here : b ≡ v → r ≡ u → r ≡ (if eqb b v then u else o)
    arm_here h e = rw (eq-eqb b v h) e

    pub arm_none : (b ≡ v → ⊥) → r ≡ o → r ≡ (if eqb b v then u else o)
    arm_none h e = rw (ne_eqb b v h) e

    pub arm_later : (w : ℕ) → b ≡ w → eqb w v ≡ false → r ≡ o → r ≡ (if eqb b v then u else o)
    arm_later w h k e = rw (h, k) e

    pub either_here : (t : Bool) → b ≡ v → r ≡ u → r ≡ (if eqb b v || t then u else o)
    either_here t h e = rw (eq-eqb b v h) e

    pub either_none : (t : Bool) → (b ≡ v → ⊥) → r ≡ (if t then u else o) → r ≡ (if eqb b v || t then u else o)
    either_none t h e = rw (ne_eqb b v h) e

  module _ (flag t : Bool) (f : flag ≡ t) where
    pub flag_true : flag ≡ true → r ≡ u → r ≡ (if t then u else o)
    flag_true h e = rw (← f, h) e

    pub flag_false : flag ≡ false → r ≡ o → r ≡ (if t then u else o)
    flag_false h e = rw (← f, h) e

-- the code adds 1 where a definition takes the next
pub suc_one : (n : ℕ) → suc n ≡ n + 1
suc_one n = sym (add-one n)

pub ruleset arms = (arm_here, arm_none, arm_later, either_here, either_none, flag_true, flag_false, suc_one)

-- where the refusal is 0, its test passed, and so did those after it
pub unrefused : (t : Bool) (later : Result (Unit {0}) Refusal) (refusal : Refusal) → (if t then later else Err refusal) ≡ Ok tt → (t ≡ true) × (later ≡ Ok tt)
unrefused true later refusal e = (refl, e)
unrefused false later refusal e = cc

-- two results that meet one statement are equal: of every function whose contract says `r ≡ ..`
pub one_result : {A : Type 0} (stated r r' : A) → r ≡ stated → r' ≡ stated → r ≡ r'
one_result stated r r' e f = e ∙ sym f
