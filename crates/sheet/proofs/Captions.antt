-- Request P1, law by law: what follows a label decides whether it closes. Assumes nothing.
--   label_ends      a label at the announced end closes
--   label_waits     with more announced it waits
--   label_settled   one byte after it settles it, whether or not more is announced
--   behind_label    worked sheets x and y: what the reading says for each byte after the label EOT
use Rattle.std.specs.Prelude.{if◌then◌else◌}
use Prim.Native.Nat.{ℕ}
use Rattle.byte.specs.declared.Refusal.{Refusal}
use mathlib.Core.Path.{◌≡◌, refl}
use mathlib.Core.Bool.{Bool, true, false}
use mathlib.Core.List.{List, [], ◌∷◌, ◌++◌, append-nil}
use borrow.Author.Tests.{eq-eqb}
use Rattle.byte.specs.Words.{◌is◌, run, bytes}
use Rattle.byte.specs.Bytes.{is_blank, is_identifier}
use Rattle.byte.proofs.Tests.{choice}
use Rattle.unit.specs.declared.Indentation.{Indentation}
use Rattle.unit.specs.declared.Match.{Match}
use Rattle.unit.specs.declared.Stop.{Stop}
use Rattle.unit.specs.Closers.{indented}
use Rattle.unit.specs.Readings.{Reading}
use Rattle.sheet.specs.Bodies.{lines, in_front, is_break, is_over, unindented, followed, body_text, unbroken}
use Rattle.sheet.specs.Sheets.{closing_label, judged_line, line_kind, with_line, told, block, Missing, Open}
use Rattle.sheet.specs.Sheets.{filled, stripped, answered, sheet_at}

-- a label that stands there decides nothing: what follows it does
label_passed : (label : List ℕ) (end : Bool) (rest : List ℕ) → closing_label label end (label ++ rest) ≡ closing_label [] end rest
unfolding closing_label
label_passed [] end rest = refl
label_passed (a ∷ label) end rest = rw (eq-eqb a a refl) (label_passed label end rest)

pub label_ends : (label : List ℕ) → closing_label label true label ≡ Match.Whole
unfolding closing_label
label_ends label = rw append-nil at (label_passed label true [])

pub label_waits : (label : List ℕ) → closing_label label false label ≡ Match.Undecided
unfolding closing_label
label_waits label = rw append-nil at (label_passed label false [])

pub label_settled : (label : List ℕ) (end : Bool) (b : ℕ) (rest : List ℕ)
    → closing_label label end (label ++ b ∷ rest) ≡ (if is_identifier b then Match.Other else Match.Whole)
unfolding closing_label
label_settled label end b rest = label_passed label end (b ∷ rest)

one_line : (b : ℕ) → lines (b ∷ []) ≡ (b ∷ []) ∷ []
unfolding lines in_front
one_line b = choice (λ ls. ls ≡ (b ∷ []) ∷ []) (b is "\n") _ _ (λ e. refl) (λ e. refl)

-- a row, and the label with one byte after it: an identifier byte makes that a row, too, and no line closes
pub behind_label : (end : Bool) (b : ℕ)
    → sheet_at (bytes "EOT") end 0 (bytes "a\nEOT" ++ b ∷ [])
    ≡ (if is_identifier b then (if end then Reading.Refused Refusal.UnexpectedEndOfFile 6 else Reading.Wait)
    else Reading.Text (bytes "a") (Stop.Label Indentation.None 0) 2 5)
unfolding sheet_at answered stripped filled block told with_line line_kind judged_line closing_label indented is_blank body_text followed
    unindented unbroken is_over is_break lines in_front run bytes
behind_label end b = rw (one_line b) (go end (is_identifier b))
  where
    go : (e t : Bool)
        → answered 3 0
        (with_line (bytes "a\n")
        (told (judged_line (if t then Match.Other else Match.Whole) e Indentation.None 0) 2 (bytes "EOT" ++ b ∷ [])
        (if e then Missing 6 else Open)))
        ≡ (if t then (if e then Reading.Refused Refusal.UnexpectedEndOfFile 6 else Reading.Wait)
        else Reading.Text (bytes "a") (Stop.Label Indentation.None 0) 2 5)
    go true true = refl
    go true false = refl
    go false true = refl
    go false false = refl
