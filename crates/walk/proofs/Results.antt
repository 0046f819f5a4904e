-- One result: two results of a walk over numbers that meet its statement are equal in answer, count, list and pool, and what the numbers
-- are read as is one session. Assumes nothing.
use Prim.Native.Nat.{ℕ}
use mathlib.Core.Path.{◌≡◌, refl, sym, ap, ◌∙◌}
use mathlib.Core.Bool.{Bool, true, false}
use mathlib.Core.List.{List}
use Rattle.layout.specs.Sessions.{session_in}
use Rattle.outcome.specs.declared.Call.{Call}
use Rattle.lexer.specs.Calls.{called}
use Rattle.walk.specs.declared.Ended.{Ended}
use Rattle.walk.specs.Walks.{is_written, Walks}

module _ (call : Call) (most : ℕ) (src : List ℕ) (end : Bool) (n l q : List ℕ) (r r' : Ended) (n₁ n₂ l₁ l₂ q₁ q₂ : List ℕ) where
  pub walks_one : Walks call most src end n l q r n₁ l₁ q₁ → Walks call most src end n l q r' n₂ l₂ q₂
      → (r.answer ≡ r'.answer) × (r.done ≡ r'.done) × (session_in n₁ ≡ session_in n₂) × (l₁ ≡ l₂) × (q₁ ≡ q₂)
  walks_one x y = (
    x.answer ∙ sym y.answer,
    x.done ∙ sym y.done,
    go (is_written most (called call src end (session_in n) l q)) refl,
    x.list ∙ sym y.list,
    x.pool ∙ sym y.pool,
  )
    where
      go : (b : Bool) → is_written most (called call src end (session_in n) l q) ≡ b → session_in n₁ ≡ session_in n₂
      go true e = (x.holds e).reads ∙ sym (y.holds e).reads
      go false e = ap session_in (x.stays e ∙ sym (y.stays e))
