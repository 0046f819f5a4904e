-- The opening of a text block (document 01, the row `<<<'L'` or `<<<L`, then LF or CRLF): L is an identifier of 1 to 64 bytes, and
-- its run is looked at no further than the 65th. n is the position of the text's head, `end` says that the text is all there.
--   doc_break, line_feed   after the label: LF, or CR and LF
--   doc_quote              after a label in quotes
--   longest_label          how many bytes a label may have
--   doc_name, doc_start    in the label, so long already; at its first byte
--   doc_label              after `<<<`
--   opening                after the first `<`
--   opened                 what contracts cite: the step at that `<`
--   OpeningRow             the row itself, as a text; `opening_row` (proofs/Rows.antt) says that a block opens exactly
--                          at such a text
use Rattle.std.specs.Prelude.{ℕ, suc, ◌≤◌, Bool, true, false, ◌&&◌, List, [], ◌∷◌, ◌++◌, ◌⊎◌, ◌≡◌, refl, ltb, length, if◌then◌else◌}
use Rattle.byte.specs.Words.{◌is◌, every, bytes}
use Rattle.byte.specs.Bytes.{is_start, is_identifier, is_letter, is_digit}
use Rattle.state.specs.declared.Frame.{Frame}
use Rattle.state.specs.declared.Label.{Label}
use Rattle.outcome.specs.declared.Change.{Change}
use Rattle.outcome.specs.declared.DocStringKind.{DocStringKind}
use Rattle.outcome.specs.declared.Opening.{Opening}
use Rattle.outcome.specs.Outcomes.{Outcome, goes}

-- how many bytes a label may have
abbrev pub longest_label : ℕ
longest_label = 64

-- nothing is left
abbrev pub last_opening : Bool → Opening
last_opening end = if end then Opening.Other else Opening.Undecided

unfoldable pub line_feed : DocStringKind → ℕ → ℕ → Bool → ℕ → List ℕ → Opening
line_feed kind start len end n [] = last_opening end
line_feed kind start len end n (b ∷ rest) = if b is "\n" then Opening.Block kind start len (suc n) else Opening.Other

unfoldable pub doc_break : DocStringKind → ℕ → ℕ → Bool → ℕ → List ℕ → Opening
doc_break kind start len end n [] = last_opening end
doc_break kind start len end n (b ∷ rest) =
    if b is "\r" then line_feed kind start len end (suc n) rest else line_feed kind start len end n (b ∷ rest)

unfoldable pub doc_quote : ℕ → ℕ → Bool → ℕ → List ℕ → Opening
doc_quote start len end n [] = last_opening end
doc_quote start len end n (b ∷ rest) =
    if b is "'" then doc_break DocStringKind.Nowdoc start len end (suc n) rest else Opening.Other

unfoldable pub doc_end : DocStringKind → ℕ → ℕ → Bool → ℕ → List ℕ → Opening
doc_end DocStringKind.Heredoc start len end n xs = doc_break DocStringKind.Heredoc start len end n xs
doc_end DocStringKind.Nowdoc start len end n xs = doc_quote start len end n xs

unfoldable pub doc_name : DocStringKind → ℕ → ℕ → Bool → ℕ → List ℕ → Opening
doc_name kind start len end n [] = last_opening end
doc_name kind start len end n (b ∷ rest) =
    if is_identifier b then (if ltb len longest_label then doc_name kind start (suc len) end (suc n) rest else Opening.Other)
    else doc_end kind start len end n (b ∷ rest)

unfoldable pub doc_start : DocStringKind → Bool → ℕ → List ℕ → Opening
doc_start kind end n [] = last_opening end
doc_start kind end n (b ∷ rest) = if is_start b then doc_name kind n 1 end (suc n) rest else Opening.Other

unfoldable pub doc_label : Bool → ℕ → List ℕ → Opening
doc_label end n [] = last_opening end
doc_label end n (b ∷ rest) =
    if b is "'" then doc_start DocStringKind.Nowdoc end (suc n) rest else doc_start DocStringKind.Heredoc end n (b ∷ rest)

unfoldable pub third_less : Bool → ℕ → List ℕ → Opening
third_less end n [] = last_opening end
third_less end n (b ∷ rest) = if b is "<" then doc_label end (suc n) rest else Opening.Other

unfoldable pub opening : Bool → ℕ → List ℕ → Opening
opening end n [] = last_opening end
opening end n (b ∷ rest) = if b is "<" then third_less end (suc n) rest else Opening.Other

unfoldable pub doc_frame : DocStringKind → Label → Frame
doc_frame DocStringKind.Heredoc label = Frame.Heredoc label
doc_frame DocStringKind.Nowdoc label = Frame.Nowdoc label

-- the `<` at n
unfoldable pub opened : ℕ → Opening → Outcome
opened n (Opening.Block kind start len after) = goes after (Change.Swap (doc_frame kind (record { start = start; len = len })))
opened n Opening.Other = goes (suc n) Change.Keep
opened n Opening.Undecided = Outcome.Wait

-- an identifier
unfoldable pub is_name : List ℕ → Bool
is_name [] = false
is_name (b ∷ rest) = is_start b && every is_identifier rest

unfoldable pub quotes : DocStringKind → List ℕ
quotes DocStringKind.Heredoc = []
quotes DocStringKind.Nowdoc = bytes "'"

-- after its first `<`, a label and what follows it
abbrev pub labelled : DocStringKind → List ℕ → List ℕ → List ℕ
labelled kind label rest = bytes "<<" ++ (quotes kind ++ (label ++ rest))

-- `more` is the text after the break
pub record OpeningRow (kind : DocStringKind) (label newline more xs : List ℕ) : Type 0 where
  pub text : xs ≡ labelled kind label (quotes kind ++ (newline ++ more))
  pub name : is_name label ≡ true
  pub most : length label ≤ 64
  pub line_end : (newline ≡ bytes "\n") ⊎ (newline ≡ bytes "\r\n")

quoted_label : opening true 1 (bytes "<<'EOT'\r\na") ≡ Opening.Block DocStringKind.Nowdoc 4 3 10
unfolding opening third_less doc_label doc_start doc_name doc_end doc_quote doc_break line_feed is_start is_identifier is_letter is_digit bytes
quoted_label = refl
