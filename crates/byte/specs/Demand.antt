-- Demand 3, stated once for any reading: with more announced, it says "wait" exactly when two continuations of the part get
-- different answers, the empty one counted; and if it doesn't wait, its answer is every continuation's.
--   more    the reading's answer to a part with more announced
--   whole   its answer to a text that is all there
-- A different place is a different answer. A continuation is a list of bytes.
use Rattle.std.specs.Prelude.{ℕ, Bool, true, List, ◌++◌, ◌↔◌, ◌≡◌, ltb}
use Rattle.byte.specs.Words.{every}

abbrev pub is_byte : ℕ → Bool
is_byte b = ltb b 256

-- two continuations of the part get different answers
pub record Apart {A : Type 0} (whole : List ℕ → A) (part : List ℕ) : Type 0 where
  pub one : List ℕ
  pub two : List ℕ
  pub one_bytes : every is_byte one ≡ true
  pub two_bytes : every is_byte two ≡ true
  pub apart : whole (part ++ one) ≡ whole (part ++ two) → ⊥

-- of one part
pub record Waits {A : Type 0} (wait : A) (more whole : List ℕ → A) (part : List ℕ) : Type 0 where
  pub exactly : (more part ≡ wait) ↔ Apart whole part
  pub settled : (more part ≡ wait → ⊥) → (rest : List ℕ) → whole (part ++ rest) ≡ more part
