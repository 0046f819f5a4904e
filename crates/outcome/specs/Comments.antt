-- Comments at Scripting (document 02, P2). `//` and `#` run up to LF, `?>` or the end, none of which is taken; `#[` begins none. `/*` runs
-- through the first `*/` after both its bytes. A comment is a token: its raw bytes are the value, its first byte bears the span.
--   ends          whether a comment has its end at this byte, with the rest after it: LF or `?>`; `*/`
--   end_taken     how many bytes of its end a comment takes
--   comment_end   how many bytes come before its end, k of them passed
--   endless       a comment without an end: `//` and `#` are over with the source, `/*` is refusal 1 there
--   commented     the token, or `endless`, or wait
--   comment_at    the comment at n, k bytes of which were passed: xs starts with it, and `rest` is after those
--   slash, hash   what a `/` or a `#` at n begins: xs starts with it, and `rest` is after it
-- `end` says that the text is all there.
use Rattle.std.specs.Prelude.{ℕ, suc, ◌+◌, Bool, false, ◌&&◌, ◌||◌, List, [], ◌∷◌, eqb, length, if◌then◌else◌}
use Prim.Native.Char.{code}
use Rattle.byte.specs.Words.{◌is◌}
use Rattle.byte.specs.Refusals.{unexpected_end_of_file}
use Rattle.token.specs.Kinds.{comment}
use Rattle.outcome.specs.declared.Change.{Change}
use Rattle.outcome.specs.declared.CommentEnd.{CommentEnd}
use Rattle.outcome.specs.declared.CommentKind.{CommentKind}
use Rattle.outcome.specs.Outcomes.{Outcome, goes, ending}
use Rattle.outcome.specs.Lookings.{token}

-- this byte comes next
unfoldable pub is_next : ℕ → List ℕ → Bool
is_next c [] = false
is_next c (b ∷ rest) = eqb b c

unfoldable pub ends : CommentKind → ℕ → List ℕ → Bool
ends CommentKind.SingleLine b rest = b is "\n" || (b is "?" && is_next (code ">") rest)
ends CommentKind.MultiLine b rest = b is "*" && is_next (code "/") rest

unfoldable pub end_taken : CommentKind → ℕ
end_taken CommentKind.SingleLine = 0
end_taken CommentKind.MultiLine = 2

unfoldable pub comment_end : CommentKind → Bool → ℕ → List ℕ → CommentEnd
comment_end kind end k [] = if end then CommentEnd.Over else CommentEnd.Undecided
comment_end kind end k (b ∷ rest) = if ends kind b rest then CommentEnd.At k else comment_end kind end (suc k) rest

unfoldable pub endless : CommentKind → ℕ → List ℕ → Outcome
endless CommentKind.SingleLine n xs = token comment n xs (length xs) Change.Keep
endless CommentKind.MultiLine n xs = Outcome.Refused unexpected_end_of_file (n + length xs)

unfoldable pub commented : CommentKind → ℕ → List ℕ → CommentEnd → Outcome
commented kind n xs (CommentEnd.At k) = token comment n xs (k + end_taken kind) Change.Keep
commented kind n xs CommentEnd.Over = endless kind n xs
commented kind n xs CommentEnd.Undecided = Outcome.Wait

abbrev pub comment_at : CommentKind → ℕ → Bool → ℕ → List ℕ → List ℕ → Outcome
comment_at kind k end n xs rest = commented kind n xs (comment_end kind end k rest)

unfoldable pub slash : Bool → ℕ → List ℕ → List ℕ → Outcome
slash end n xs [] = ending end (goes (suc n) Change.Keep)
slash end n xs (b ∷ rest) =
    if b is "/" then comment_at CommentKind.SingleLine 2 end n xs rest
    else if b is "*" then comment_at CommentKind.MultiLine 2 end n xs rest
    else goes (suc n) Change.Keep

unfoldable pub hash : Bool → ℕ → List ℕ → List ℕ → Outcome
hash end n xs rest = if is_next (code "[") rest then goes (suc n) Change.Keep else comment_at CommentKind.SingleLine 1 end n xs rest
