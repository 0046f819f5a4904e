-- The plans of the mode Initial, and what its search for a tag passes.
--   is_no_less  a byte that begins no tag
--   LessAt      the first `<` from a place on
--   tag_kind    a tag's kind as a token; its number is the outcome's (proofs/Initials.antt)
--   tag_plan    the text before a tag, if there is some, and the tag with its own span
--   over_plan   the text that has no tag, up to its end
use Rattle.std.specs.Prelude.{ℕ, ◌+◌, ◌<◌, ◌≡◌, Bool, true, List, length, get_or}
use Prim.Native.Char.{code}
use Rattle.byte.specs.Bytes.{is_none_of}
use Rattle.source.specs.Code.{RunEnd}
use Rattle.state.specs.declared.Frame.{Frame}
use Rattle.token.specs.declared.Kind.{Kind}
use Rattle.token.specs.Kinds.{kind_number, inline_html}
use Rattle.outcome.specs.declared.Change.{Change}
use Rattle.outcome.specs.declared.OpenTagKind.{OpenTagKind}
use Rattle.outcome.specs.Initials.{tag_length}
use Rattle.byte.specs.declared.Refusal.{Refusal}
use Rattle.plan.specs.declared.Plan.{Plan}
use Rattle.plan.specs.Code.{copied_draft, one_draft, parted_plan}

abbrev pub is_no_less : ℕ → Bool
is_no_less = is_none_of (code "<") (code "<") (code "<") (code "<")

-- the first `<` from `at` on stands at n
pub record LessAt (src : List ℕ) (at n : ℕ) : Type 0 where
  pub first : RunEnd is_no_less src at n
  pub inside : n < length src
  pub less : get_or src n 0 ≡ code "<"

unfoldable pub tag_kind : OpenTagKind → Kind
tag_kind OpenTagKind.Full = Kind.OpenTagFull
tag_kind OpenTagKind.Echo = Kind.OpenTagEcho
tag_kind OpenTagKind.Short = Kind.OpenTagShort

abbrev pub tag_plan : ℕ → OpenTagKind → ℕ → Plan Refusal
tag_plan at kind place =
    parted_plan
    (copied_draft inline_html 0 at at place)
    (copied_draft (kind_number (tag_kind kind)) 0 place place (place + tag_length kind))
    (place + tag_length kind)
    (Change.Swap Frame.Scripting)

abbrev pub over_plan : ℕ → ℕ → Plan Refusal
over_plan at hi =
    let text = copied_draft inline_html 0 at at hi in
    Plan.Told (record { drafts = one_draft text; after = hi; change = Change.Keep; finished = true })
