-- What stands after a sign, byte by byte, and where a name ends. Assumes nothing.
use Rattle.std.proofs.Common.{◌≡◌, ℕ, suc, ◌+◌, ◌<◌, ◌≤◌, Bool, true, false, List, [], ◌∷◌, length, get_or, drop, sym, ◌∙◌, inl, inr, if◌then◌else◌, arith}
use Rattle.std.proofs.Common.{add-zero}
use Rattle.std.proofs.lemmas.Bool.{cases_lt}
use lib.ListN.{drop_of_length-le}
use lib.Seq.{drop-drop}
use Rattle.byte.specs.Words.{run}
use Rattle.byte.specs.Bytes.{is_identifier}
use Rattle.source.specs.Code.{RunEnd}
use Rattle.byte.proofs.Words.{drop-one}
use Rattle.unit.specs.declared.TextUnit.{TextUnit}
use Rattle.unit.specs.Interpolations.{follow, variable, name}

-- no byte is left, or one is
pub by_byte : (look : List ℕ → TextUnit) (src : List ℕ) (n : ℕ) (r : TextUnit)
    → (length src ≤ n → r ≡ look [])
    → (n < length src → r ≡ look (get_or src n 0 ∷ drop (n + 1) src))
    → r ≡ look (drop n src)
by_byte look src n r past next =
    elim (cases_lt n (length src)) [
      | inl h ↦ rw (drop-one src n h) (next h)
      | inr h ↦ rw (drop_of_length-le src h) (past h)
    ]

-- a name runs to where its identifier bytes do
name_run : (end : Bool) (from n : ℕ) (xs : List ℕ)
    → name end from n xs ≡ variable from (n + run is_identifier xs) (follow end (drop (run is_identifier xs) xs))
unfolding name run
name_run end from n [] = rw (add-zero n)
name_run end from n (b ∷ rest) = go (is_identifier b) (name_run end from (suc n) rest)
  where
    go : (t : Bool)
        → name end from (suc n) rest
        ≡ variable from (suc n + run is_identifier rest) (follow end (drop (run is_identifier rest) rest))
        → (if t then name end from (suc n) rest else variable from n (follow end (b ∷ rest)))
        ≡ variable from (n + (if t then suc (run is_identifier rest) else 0))
        (follow end (drop (if t then suc (run is_identifier rest) else 0) (b ∷ rest)))
    go true e =
        let m : n + suc (run is_identifier rest) ≡ suc n + run is_identifier rest = omega arith in
        e ∙ rw m
    go false e = rw (add-zero n)

pub name_to : (src : List ℕ) (end : Bool) (from at n : ℕ)
    → RunEnd is_identifier src at n
    → variable from n (follow end (drop n src)) ≡ name end from at (drop at src)
name_to src end from at n e =
    sym (name_run end from at (drop at src) ∙ rw (drop-drop (run is_identifier (drop at src)) at src, ← e.place))
