-- Comments as the PHP manual tells them ("Basic syntax": "Comments"). Held line by line to the facts of the manual that are known, not to
-- its pages (docs/DECISIONS.md, 107). The text is all there.
--   ends_line                   where a line, or the block of PHP code, ends: at LF, at `?>`, and at a CR if `returns`
--                               says so
--   line_length                 how many bytes come before that
--   closed_length               how many bytes come up to the first `*/`, and through it; or it does not come
--   Comment, comment_of         the comment that a text begins with: so many bytes; or one that is not closed; or none
--   outcome_of                  what a comment is in the words of the steps
--   is_no_return, opens_block   no CR; a text that begins with `/*`
-- The manual does not say whether a CR ends a line; to PHP it does, to document 02 it does not. `comment_whole`, `comment_manual` and
-- `comment_returns` (proofs/Manual.antt) join the step at Scripting to these.
use Rattle.std.specs.Prelude.{ℕ, suc, ◌+◌, Bool, true, false, not, ◌&&◌, ◌||◌, List, [], ◌∷◌, ◌≡◌, refl, length, drop, if◌then◌else◌}
use Prim.Native.Char.{code}
use Rattle.byte.specs.Words.{◌is◌, bytes}
use Rattle.byte.specs.Refusals.{unexpected_end_of_file}
use Rattle.token.specs.Kinds.{comment}
use Rattle.outcome.specs.declared.Change.{Change}
use Rattle.outcome.specs.Outcomes.{Outcome, goes}
use Rattle.outcome.specs.Lookings.{token}
use Rattle.outcome.specs.Comments.{is_next}

unfoldable pub ends_line : Bool → ℕ → List ℕ → Bool
ends_line returns b rest = b is "\n" || (returns && b is "\r") || (b is "?" && is_next (code ">") rest)

unfoldable pub line_length : Bool → List ℕ → ℕ
line_length returns [] = 0
line_length returns (b ∷ rest) = if ends_line returns b rest then 0 else suc (line_length returns rest)

pub data Comment : Type 0 where
  Takes : ℕ → Comment
  Unclosed : Comment
  None : Comment

-- so many bytes more
unfoldable pub longer : ℕ → Comment → Comment
longer k (Takes n) = Takes (k + n)
longer k Unclosed = Unclosed
longer k None = None

unfoldable pub closed_length : List ℕ → Comment
closed_length [] = Unclosed
closed_length (b ∷ rest) = if b is "*" && is_next (code "/") rest then Takes 2 else longer 1 (closed_length rest)

-- `//`, `#` but not `#[`, which begins an attribute, and `/*`
unfoldable pub comment_of : Bool → List ℕ → Comment
comment_of returns [] = None
comment_of returns (b ∷ []) = if b is "#" then Takes 1 else None
comment_of returns (b ∷ c ∷ rest) =
    if b is "#" then (if c is "[" then None else Takes (1 + line_length returns (c ∷ rest)))
    else if b is "/" && c is "/" then Takes (2 + line_length returns rest)
    else if b is "/" && c is "*" then longer 2 (closed_length rest)
    else None

-- at n; where there is none, the first byte alone is passed
unfoldable pub outcome_of : ℕ → List ℕ → Comment → Outcome
outcome_of n xs (Takes k) = token comment n xs k Change.Keep
outcome_of n xs Unclosed = Outcome.Refused unexpected_end_of_file (n + length xs)
outcome_of n xs None = goes (suc n) Change.Keep

unfoldable pub is_no_return : ℕ → Bool
is_no_return b = not (b is "\r")

unfoldable pub opens_block : List ℕ → Bool
opens_block xs = is_next (code "/") xs && is_next (code "*") (drop 1 xs)

comment_examples :
    (comment_of true (bytes "# a\nb") ≡ Takes 3)
    × (comment_of true (bytes "#[A]") ≡ None)
    × (comment_of true (bytes "// a ?> b") ≡ Takes 5)
    × (comment_of true (bytes "//a\r\n") ≡ Takes 3)
    × (comment_of false (bytes "//a\r\n") ≡ Takes 4)
    × (comment_of true (bytes "/* * / */ b") ≡ Takes 9)
    × (comment_of true (bytes "/*/") ≡ Unclosed)
    × (comment_of true (bytes "/ /") ≡ None)
unfolding comment_of closed_length longer line_length ends_line is_next bytes
comment_examples = (refl, refl, refl, refl, refl, refl, refl, refl)
