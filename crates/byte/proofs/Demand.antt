-- Demand 3 for any reading, from two laws of its own: what is settled stays, and a wait has two continuations apart.
-- Assumes nothing.
use mathlib.Core.Path.{◌≡◌, sym, ◌∙◌}
use mathlib.Core.List.{List, ◌++◌}
use Prim.Native.Nat.{ℕ}
use Rattle.byte.specs.Demand.{Apart, Waits}

-- what is apart by one reading is apart by another that tells as much
pub apart_by : {A B : Type 0} (f : List ℕ → A) (g : List ℕ → B) (xs ys : List ℕ)
    → ((one two : List ℕ) → g (ys ++ one) ≡ g (ys ++ two) → f (xs ++ one) ≡ f (xs ++ two)) → Apart f xs → Apart g ys
apart_by f g xs ys tells x =
    record {
      one = x.one;
      two = x.two;
      one_bytes = x.one_bytes;
      two_bytes = x.two_bytes;
      apart = λ e. x.apart (tells x.one x.two e);
    }

pub waits : {A : Type 0} (wait : A) (more whole : List ℕ → A) (part : List ℕ) → Dec (more part ≡ wait)
    → ((more part ≡ wait → ⊥) → (rest : List ℕ) → whole (part ++ rest) ≡ more part)
    → (more part ≡ wait → Apart whole part)
    → Waits wait more whole part
waits wait more whole part dec stays opens = record { exactly = (opens, back dec); settled = stays }
  where
    back : Dec (more part ≡ wait) → Apart whole part → more part ≡ wait
    back (yes h) x = h
    back (no h) x = absurd (x.apart (stays h x.one ∙ sym (stays h x.two)))
