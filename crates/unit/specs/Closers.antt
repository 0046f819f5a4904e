-- The closer of a text block, as the Rust has it (document 01, "Rules easily misread"): after an LF, blanks, then the label's bytes,
-- followed by anything at all. The LF before a closer is not of the text.
--   matched    the label against the text
--   indented   an indentation and one blank more
--   closer     a label after its indentation; spaces mixed with tabs are refusal 4, at the label
--   line       after an LF: blanks, then the label; else the LF is of the text
use Rattle.std.specs.Prelude.{ℕ, suc, ◌+◌, Bool, List, [], ◌∷◌, eqb, length, if◌then◌else◌}
use Prim.Native.Char.{code}
use Rattle.byte.specs.Refusals.{invalid_doc_indentation}
use Rattle.byte.specs.Words.{◌is◌}
use Rattle.byte.specs.Bytes.{is_blank}
use Rattle.unit.specs.declared.Indentation.{Indentation}
use Rattle.unit.specs.declared.Match.{Match}
use Rattle.unit.specs.declared.Stop.{Stop}
use Rattle.unit.specs.declared.TextUnit.{TextUnit}
use Rattle.unit.specs.Escapes.{last}
use Rattle.unit.specs.Interpolations.{plain}

unfoldable pub matched : List ℕ → List ℕ → Match
matched [] xs = Match.Whole
matched (a ∷ label) [] = Match.Undecided
matched (a ∷ label) (b ∷ rest) = if eqb a b then matched label rest else Match.Other

unfoldable pub indented : Indentation → ℕ → Indentation
indented Indentation.None b = if b is " " then Indentation.Space else Indentation.Tab
indented Indentation.Space b = if b is " " then Indentation.Space else Indentation.Mixed
indented Indentation.Tab b = if b is " " then Indentation.Mixed else Indentation.Tab
indented Indentation.Mixed b = Indentation.Mixed

-- a label of so many bytes at n, after its indentation
unfoldable pub closer : ℕ → Indentation → ℕ → ℕ → TextUnit
closer size Indentation.None amount n = TextUnit.Ends (Stop.Label Indentation.None amount) n (n + size)
closer size Indentation.Space amount n = TextUnit.Ends (Stop.Label Indentation.Space amount) n (n + size)
closer size Indentation.Tab amount n = TextUnit.Ends (Stop.Label Indentation.Tab amount) n (n + size)
closer size Indentation.Mixed amount n = TextUnit.Fault invalid_doc_indentation n

-- a label that stands there makes u of the LF at n
unfoldable pub judged : Match → Bool → ℕ → TextUnit → TextUnit
judged Match.Whole end n u = u
judged Match.Other end n u = plain (code "\n") n
judged Match.Undecided end n u = last end (plain (code "\n") n)

-- after the LF at n and so many blanks
unfoldable pub line : List ℕ → Bool → ℕ → Indentation → ℕ → List ℕ → TextUnit
line label end n ind amount [] = judged (matched label []) end n (closer (length label) ind amount (suc n + amount))
line label end n ind amount (b ∷ rest) =
    if is_blank b then line label end n (indented ind b) (suc amount) rest
    else judged (matched label (b ∷ rest)) end n (closer (length label) ind amount (suc n + amount))
