-- Comments as the code looks for their ends: run by run.
--   is_inner   a byte at which no comment of this kind has its end, whatever comes after it
use Rattle.std.specs.Prelude.{ℕ, Bool}
use Prim.Native.Char.{code}
use Rattle.byte.specs.Bytes.{is_none_of}
use Rattle.outcome.specs.declared.CommentKind.{CommentKind}

unfoldable pub is_inner : CommentKind → ℕ → Bool
is_inner CommentKind.SingleLine = is_none_of (code "\n") (code "?") (code "\n") (code "?")
is_inner CommentKind.MultiLine = is_none_of (code "*") (code "*") (code "*") (code "*")
