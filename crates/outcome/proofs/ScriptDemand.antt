-- Demand 3 for the mode Scripting: `scripting_demands`, from any position on, at each depth. Row by row. Assumes nothing.
use Rattle.std.specs.Prelude.{Option, Some, None}
use mathlib.Core.Path.{◌≡◌, refl, ap}
use mathlib.Core.Bool.{true, false}
use mathlib.Core.List.{List, [], ◌∷◌, ◌++◌}
use Prim.Native.Nat.{ℕ, suc, ◌+◌}
use Prim.Native.Char.{code}
use native.Mathlib.Omega.{arith}
use lib.ListN.{length}
use Rattle.byte.specs.declared.Octal.{Octal}
use Rattle.byte.specs.Words.{◌is◌, every, bytes}
use Rattle.byte.specs.Bytes.{is_start, is_identifier, is_letter, is_digit}
use Rattle.state.specs.declared.Frame.{Frame}
use Rattle.token.specs.Kinds.{literal_single_quoted_string, literal_double_quoted_string}
use Rattle.unit.specs.declared.Mode.{Mode}
use Rattle.unit.proofs.Openings.{one_more}
use Rattle.number.specs.Numbers.{Reading, number_at}
use Rattle.number.proofs.Values.{number_at_ends}
use Rattle.outcome.specs.declared.Change.{Change}
use Rattle.outcome.specs.Outcomes.{Outcome, goes, limited}
use Rattle.outcome.specs.Lookings.{named}
use Rattle.outcome.specs.Texts.{numbered}
use Rattle.outcome.specs.Scripts.{point, word, close_tag, scripting}
use Rattle.outcome.proofs.Demand.{closed, splits, Demands, Answers, if_answers, settled, unseen, demands_answers}
use Rattle.outcome.proofs.Demand.{answers_demands, told_waits, pieces_apart, after_apart}
use Rattle.outcome.proofs.TextDemand.{literal_demands, numbered_demands}
use Rattle.outcome.proofs.LookingDemand.{named_stays, named_cut, named_told}
use Rattle.outcome.proofs.OpeningDemand.{opened_demands}
use Rattle.outcome.proofs.CommentDemand.{slash_answers, hash_answers}

-- a number is a token
numbered_some : (p place after : ℕ) (r : Reading) → (r ≡ Reading.Wait → ⊥) → goes after Change.Keep ≡ closed p (numbered place r) → ⊥
unfolding numbered limited
numbered_some p place after (Reading.Number literal value to) h e = pieces_apart e
numbered_some p place after Reading.Wait h e = h refl

word_wait : (n : ℕ) (r : Option ℕ) → word n r ≡ Outcome.Wait → r ≡ None
unfolding word
word_wait n (Some k) e = told_waits e
word_wait n None e = refl

module _ (n p : ℕ) where
  -- the `.`, or a number
  point_answers : (xs : List ℕ) → Answers p (point false n xs) (λ c. point true n (xs ++ c))
  unfolding point every is_digit limited
  point_answers [] =
      unseen p (point true n)
      (splits p (point true n) one_more (goes (suc n) Change.Keep) (numbered n (number_at true n (code "." ∷ one_more))) refl refl refl
      (numbered_some p n (suc n) (number_at true n (code "." ∷ one_more)) (number_at_ends n (code "." ∷ one_more))))
      told_waits
  point_answers (b ∷ xs) =
      if_answers p (is_digit b) (demands_answers p _ (numbered_demands n n p) (code "." ∷ b ∷ xs))
      (settled p (goes (suc n) Change.Keep) told_waits)

  -- the word as it stands, or one byte more
  word_answers : (xs : List ℕ) → Answers p (word n (named false 1 xs)) (λ c. word n (named true 1 (xs ++ c)))
  unfolding word named limited every is_identifier is_start is_letter is_digit
  word_answers xs =
      record {
        stays = λ rest k. ap (word n) (named_stays 1 xs rest (λ z. k (ap (word n) z)));
        splits = λ e.
            let h = word_wait n (named false 1 xs) e in
            splits p (λ c. word n (named true 1 (xs ++ c))) one_more (goes (n + (1 + length xs)) Change.Keep)
            (goes (n + suc (1 + length xs)) Change.Keep)
            refl
            (ap (word n) (named_cut 1 xs h []))
            (ap (word n) (named_cut 1 xs h one_more))
            (after_apart (λ (z : n + (1 + length xs) ≡ n + suc (1 + length xs)). omega arith));
        told = λ e. named_told 1 (xs ++ []) (word_wait n _ e);
      }

  -- the `?`, or a tag
  close_tag_answers : (xs : List ℕ) → Answers p (close_tag false n xs) (λ c. close_tag true n (xs ++ c))
  unfolding close_tag every limited bytes
  close_tag_answers [] =
      unseen p (close_tag true n)
      (splits p (close_tag true n) (bytes ">") (goes (suc n) Change.Keep) (goes (suc (suc n)) (Change.Swap Frame.Initial)) refl refl refl
      (after_apart (λ (e : suc n ≡ suc (suc n)). omega arith)))
      told_waits
  close_tag_answers (b ∷ xs) =
      if_answers p (b is ">") (settled p (goes (suc (suc n)) (Change.Swap Frame.Initial)) told_waits)
      (settled p (goes (suc n) Change.Keep) told_waits)

  module _ (octals : Octal) (depth : ℕ) where
    scripting_answers : (xs : List ℕ)
        → Answers p (scripting octals depth false n xs) (λ c. scripting octals depth true n (xs ++ c))
    unfolding scripting every limited bytes is_start is_letter is_digit
    scripting_answers [] =
        unseen p (scripting octals depth true n)
        (splits p (scripting octals depth true n) (bytes " ") (Outcome.Told [] n Change.Keep true)
        (goes (suc n) Change.Keep) refl refl refl
        (after_apart (λ (e : n ≡ suc n). omega arith)))
        told_waits
    scripting_answers (b ∷ xs) =
        if_answers p (b is "'")
        (demands_answers p _ (literal_demands literal_single_quoted_string n Mode.Single refl tt (suc n) p) xs)
        (if_answers p (b is "\"")
        (demands_answers p _ (literal_demands literal_double_quoted_string n (Mode.Double octals) refl tt (suc n) p) xs)
        (if_answers p (b is "`") (settled p (goes (suc n) (Change.Swap Frame.ShellExec)) told_waits)
        (if_answers p (is_digit b) (demands_answers p _ (numbered_demands n n p) (b ∷ xs))
        (if_answers p (b is ".") (point_answers xs)
        (if_answers p (is_start b) (word_answers xs)
        (if_answers p (b is "{") (settled p (goes (suc n) (Change.Enter Frame.Scripting)) told_waits)
        (if_answers p (b is "}") (settled p (goes (suc n) _) told_waits)
        (if_answers p (b is "?") (close_tag_answers xs)
        (if_answers p (b is "<") (demands_answers p _ (opened_demands n p) xs)
        (if_answers p (b is "/") (slash_answers n p (b ∷ xs) xs (omega arith))
        (if_answers p (b is "#") (hash_answers n p (b ∷ xs) xs (omega arith)) (settled p (goes (suc n) Change.Keep) told_waits))))))))))))

    pub scripting_demands : Demands p (λ end. scripting octals depth end n)
    scripting_demands = answers_demands p (λ end. scripting octals depth end n) scripting_answers
