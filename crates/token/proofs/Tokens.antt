-- Records read back: where a token's record stands, `token_in` gives the token. Assumes nothing.
--   token_in_record   the first record of a list
--   token_in_drop     records after the first so many
--   token_in_same     lists that begin alike have the same first tokens
use Prim.Native.Nat.{ℕ, ◌+◌, ◌*◌, ◌<◌}
use mathlib.Core.Path.{◌≡◌, refl, sym, ap, ◌∙◌}
use mathlib.Core.List.{List, ◌++◌}
use native.Mathlib.Omega.{arith}
use lib.ListN.{get_or, take, drop}
use lib.Seq.{get_or-drop, get_or-take}
use Rattle.token.specs.declared.Token.{Token}
use Rattle.token.specs.Records.{record_of, token_in}

pub token_in_record : (t : Token) (more : List ℕ) → token_in (record_of t ++ more) 0 ≡ t
token_in_record t more = refl

module _ (m i : ℕ) (zs : List ℕ) where
  number_drop : (k n : ℕ) → m * 8 + k ≡ n → get_or (drop (m * 8) zs) k 0 ≡ get_or zs n 0
  number_drop k n e = get_or-drop (m * 8) zs k 0 ∙ ap (λ (j : ℕ). get_or zs j 0) e

  pub token_in_drop : token_in (drop (m * 8) zs) i ≡ token_in zs (m + i)
  token_in_drop =
      rw (
        number_drop (i * 8) ((m + i) * 8) (omega arith),
        number_drop (i * 8 + 1) ((m + i) * 8 + 1) (omega arith),
        number_drop (i * 8 + 2) ((m + i) * 8 + 2) (omega arith),
        number_drop (i * 8 + 3) ((m + i) * 8 + 3) (omega arith),
        number_drop (i * 8 + 4) ((m + i) * 8 + 4) (omega arith),
        number_drop (i * 8 + 5) ((m + i) * 8 + 5) (omega arith),
        number_drop (i * 8 + 6) ((m + i) * 8 + 6) (omega arith),
        number_drop (i * 8 + 7) ((m + i) * 8 + 7) (omega arith),
      )

  module _ (ws : List ℕ) (h : i < m) (e : take (m * 8) zs ≡ take (m * 8) ws) where
    number_same : (n : ℕ) → n < m * 8 → get_or zs n 0 ≡ get_or ws n 0
    number_same n less =
        sym (get_or-take (m * 8) zs n 0 less) ∙ ap (λ (l : List ℕ). get_or l n 0) e ∙ get_or-take (m * 8) ws n 0 less

    pub token_in_same : token_in zs i ≡ token_in ws i
    token_in_same =
        rw (
          number_same (i * 8) (omega (arith, h)),
          number_same (i * 8 + 1) (omega (arith, h)),
          number_same (i * 8 + 2) (omega (arith, h)),
          number_same (i * 8 + 3) (omega (arith, h)),
          number_same (i * 8 + 4) (omega (arith, h)),
          number_same (i * 8 + 5) (omega (arith, h)),
          number_same (i * 8 + 6) (omega (arith, h)),
          number_same (i * 8 + 7) (omega (arith, h)),
        )
