-- The sheet reading is the manual's rule of a nowdoc block:
--   sheet_whole    on every text, where a line of nothing but a part of the indentation is empty
--   sheet_manual   where the manual says what the block is, it is that
-- Line by line, with the body so far. Assumes nothing.
use Rattle.std.specs.Prelude.{if◌then◌else◌}
use Prim.Native.Nat.{ℕ, suc, ◌+◌, ◌≤◌}
use mathlib.Core.Path.{◌≡◌, refl, sym, ap}
use mathlib.Core.Bool.{Bool, true, false, false≢true}
use mathlib.Core.List.{List, [], ◌∷◌, ◌++◌}
use native.Mathlib.Omega.{arith}
use lib.Dec.{eqb}
use lib.ListN.{length, length-append}
use Rattle.byte.specs.Words.{◌is◌, every}
use Rattle.byte.specs.Bytes.{is_blank, is_identifier}
use Rattle.byte.proofs.Tests.{choice, if_both}
use Rattle.unit.specs.declared.Indentation.{Indentation}
use Rattle.unit.specs.declared.Stop.{Stop}
use Rattle.unit.proofs.Stays.{Stays, clash, if_stays}
use Rattle.sheet.specs.Bodies.{Text}
use Rattle.sheet.specs.Sheets as sheets
use Rattle.sheet.specs.Code.{indentation, blank_of}
use Rattle.sheet.specs.Manual.{Line, manual_lines, blanks_of, is_prefix, closes_at, is_pure, Left, without, joined}
use Rattle.sheet.specs.Manual.{text_of, Block, closed, block_after, block_of, empty_line, kind_of, Agrees}
use Rattle.sheet.proofs.Lines.{total, total_lines}
use Rattle.sheet.proofs.Inside.{stripped_indent}
use Rattle.sheet.proofs.ManualLines.{whole, SameLines, same_lines}
use Rattle.sheet.proofs.ManualLines.{kind_of_line, closes_last, closes_broken, run_passes, pure_kind, pure_blanks}
use Rattle.sheet.proofs.ManualBodies.{SameBody, none, body_snoc, SameText, same_text}

-- ---- the block

-- the lines of a body before what follows them
unfoldable with_lines : List (List ℕ) → sheets.Block → sheets.Block
with_lines [] b = b
with_lines (line ∷ more) b = sheets.with_line line (with_lines more b)

with_lines_closed : (done : List (List ℕ)) (ind : Indentation) (amount place : ℕ)
    → with_lines done (sheets.Closed [] ind amount place) ≡ sheets.Closed done ind amount place
unfolding with_lines sheets.with_line
with_lines_closed [] ind amount place = refl
with_lines_closed (line ∷ more) ind amount place = ap (sheets.with_line line) (with_lines_closed more ind amount place)

with_lines_missing : (done : List (List ℕ)) (place : ℕ) → with_lines done (sheets.Missing place) ≡ sheets.Missing place
unfolding with_lines sheets.with_line
with_lines_missing [] place = refl
with_lines_missing (line ∷ more) place = ap (sheets.with_line line) (with_lines_missing more place)

with_lines_snoc : (done : List (List ℕ)) (line : List ℕ) (b : sheets.Block)
    → with_lines (done ++ (line ∷ [])) b ≡ with_lines done (sheets.with_line line b)
unfolding with_lines
with_lines_snoc [] line b = refl
with_lines_snoc (first ∷ more) line b = ap (sheets.with_line first) (with_lines_snoc more line b)

total_snoc : (done : List (List ℕ)) (line : List ℕ) → total (done ++ (line ∷ [])) ≡ total done + length line
unfolding total
total_snoc [] line = omega arith
total_snoc (first ∷ more) line = omega (arith, total_snoc more line)

kind_blank : (bs : List ℕ) (amount : ℕ) → is_blank (blank_of (Stop.Label (kind_of bs) amount)) ≡ true
unfolding is_blank blank_of kind_of
kind_blank [] amount = refl
kind_blank (b ∷ bs) amount =
    choice (λ i. is_blank (blank_of (Stop.Label i amount)) ≡ true) (b is " ") _ _ (λ e. refl) (λ e. refl)

kind_bare : (bs : List ℕ) → kind_of bs ≡ Indentation.None → length bs ≡ 0
unfolding kind_of
kind_bare [] e = refl
kind_bare (b ∷ bs) e = go (b is " ") e
  where
    go : (t : Bool) → (if t then Indentation.Space else Indentation.Tab) ≡ Indentation.None → suc (length bs) ≡ 0
    go true z = clash cc
    go false z = clash cc

blank_some : (b : ℕ) → is_blank b ≡ true → b ≡ 0 → ⊥
unfolding is_blank
blank_some b h e = false≢true (rw e at h)

filled_agrees : (size n hi end : ℕ) (bs : List ℕ) (place : ℕ) {l : Left} {t : Text} → SameText n hi l t → hi ≤ end
    → Agrees size n end (closed l bs place) (sheets.filled t (kind_of bs) (length bs) (n + place) (n + place + size))
unfolding closed sheets.filled
filled_agrees size n hi end bs place (SameText.kept some same) h = rw same Agrees.text
filled_agrees size n hi end bs place (SameText.wrong {p} j k) h = Agrees.wrong j (omega arith)

-- what a closing line with this indentation makes of the body before it, which has k bytes
abbrev closing : List Line → ℕ → List ℕ → Block
closing body k bs =
    if is_pure bs then closed (text_of empty_line bs body) bs (k + length bs) else Block.Mixed (k + length bs)

module _ (size n k hi : ℕ) {done : List (List ℕ)} {body : List Line} (s : SameBody done body)
    (inside : n + total done ≤ hi) where
  stripped_agrees : (bs : List ℕ)
      → Agrees size n hi (closing body k bs)
      (sheets.stripped size n done (if is_pure bs then kind_of bs else Indentation.Mixed) (length bs)
      (n + (k + length bs)))
  unfolding sheets.stripped
  stripped_agrees bs =
      if_both (λ b ind. Agrees size n hi b (sheets.stripped size n done ind (length bs) (n + (k + length bs))))
      (is_pure bs)
      (λ e. rw (stripped_indent size n done (length bs) (n + (k + length bs)) (kind_of bs) (kind_bare bs)
      (blank_some _ (kind_blank bs (length bs))))
      (filled_agrees size n (n + total done) hi bs (k + length bs)
      (same_text _ (kind_blank bs (length bs)) bs (pure_blanks bs (length bs) e) n s) inside))
      (λ e. Agrees.mixed)

  closes_agrees : (bs : List ℕ) → every is_blank bs ≡ true
      → Agrees size n hi (closing body k bs)
      (sheets.answered size n
      (with_lines done (sheets.Closed [] (indentation Indentation.None bs) (length bs) (n + k + length bs))))
  unfolding sheets.answered
  closes_agrees bs blank =
      let z : n + k + length bs ≡ n + (k + length bs) = omega arith in
      rw (with_lines_closed done _ (length bs) (n + k + length bs), z, pure_kind bs blank)
      (stripped_agrees bs)

module _ (label : List ℕ) (i : every is_identifier label ≡ true) (n hi : ℕ) where
  abbrev AgreesAfter : List (List ℕ) → List Line → ℕ → List (List ℕ) → List Line → Type 0
  AgreesAfter done body k ls more =
      Agrees (length label) n hi (block_after empty_line label body k more)
      (sheets.answered (length label) n (with_lines done (sheets.block label true (n + k) ls)))

  -- one line on: it closes the block, or what follows does
  line_agrees : {done : List (List ℕ)} {body : List Line} (k : ℕ) (line : Line) (ls : List (List ℕ)) (more : List Line)
      → SameBody done body → n + total done ≤ hi
      → sheets.line_kind label true Indentation.None 0 (whole line) ≡ kind_of_line label line.text
      → Agrees (length label) n hi
      (block_after empty_line label (body ++ (line ∷ [])) (k + length line.text + length line.newline) more)
      (sheets.answered (length label) n
      (with_lines done (sheets.with_line (whole line) (sheets.block label true (n + k + length (whole line)) ls))))
      → AgreesAfter done body k (whole line ∷ ls) (line ∷ more)
  unfolding block_after sheets.block sheets.told
  line_agrees {done} {body} k line ls more s inside kind later =
      rw kind
      (if_both
      (λ b l. Agrees (length label) n hi b
      (sheets.answered (length label) n
      (with_lines done
      (sheets.told l (n + k) (whole line) (sheets.block label true (n + k + length (whole line)) ls)))))
      (closes_at label line.text)
      (λ e. closes_agrees (length label) n k hi s inside (blanks_of line.text) (run_passes is_blank line.text))
      (λ e. later))

  unclosed_agrees : (done : List (List ℕ)) (place : ℕ) → hi ≡ place
      → Agrees (length label) n hi Block.Unclosed
      (sheets.answered (length label) n (with_lines done (sheets.Missing place)))
  unfolding sheets.answered
  unclosed_agrees done place e = rw (with_lines_missing done place, ← e) Agrees.unclosed

  block_agrees : {done ls : List (List ℕ)} {body more : List Line} (k : ℕ) → SameBody done body → SameLines ls more
      → k ≡ total done → hi ≡ n + k + total ls → AgreesAfter done body k ls more
  unfolding block_after sheets.block sheets.with_line total
  block_agrees {done} k s SameLines.none size e = unclosed_agrees done (n + k) (omega arith)
  block_agrees {done} k s (SameLines.last {line} none_left) size e =
      line_agrees k line [] [] s (omega arith) (closes_last label i line none_left)
      (unclosed_agrees done (n + k + length (whole line)) (omega arith))
  block_agrees {done} {body} k s (SameLines.broken {line} {ls} {more} f c later) size e =
      let next = k + length line.text + length line.newline in
      let long = length-append line.text line.newline in
      let place : n + k + length (whole line) ≡ n + next = omega arith in
      line_agrees k line ls more s (omega arith) (closes_broken label i line f)
      (rw (← with_lines_snoc done (whole line) (sheets.block label true (n + k + length (whole line)) ls), place)
      (block_agrees next (body_snoc line f c s) later (omega (arith, total_snoc done (whole line))) (omega arith)))

pub sheet_whole : (label : List ℕ) → every is_identifier label ≡ true → (n : ℕ) (xs : List ℕ)
    → Agrees (length label) n (n + length xs) (block_of empty_line label xs) (sheets.sheet_at label true n xs)
unfolding block_of sheets.sheet_at with_lines total
sheet_whole label i n xs =
    let z : n + 0 ≡ n = omega arith in
    rw z at (block_agrees label i n (n + length xs) 0 none (same_lines xs) refl (omega (arith, total_lines xs)))

-- ---- where the manual says what the block is

module _ (bs : List ℕ) where
  without_stays : (text : List ℕ) → Stays Left.Unsaid (without Left.Unsaid bs text) (without empty_line bs text)
  unfolding without
  without_stays text =
      if_stays (is_prefix bs text) (λ z. refl)
      (if_stays (is_prefix text bs) (if_stays (eqb (length text) 0) (λ z. refl) (λ z. absurd (z refl))) (λ z. refl))

  joined_stays : (l l' : Left) (newline : List ℕ) (later later' : Left) → Stays Left.Unsaid l l'
      → Stays Left.Unsaid later later' → Stays Left.Unsaid (joined l newline later) (joined l' newline later')
  unfolding joined
  joined_stays (Left.Kept t) l' newline (Left.Kept u) later' x y said =
      rw (x (λ (z : Left.Kept t ≡ Left.Unsaid). clash cc), y (λ (z : Left.Kept u ≡ Left.Unsaid). clash cc))
  joined_stays (Left.Kept t) l' newline Left.Wrong later' x y said =
      rw (x (λ (z : Left.Kept t ≡ Left.Unsaid). clash cc), y (λ (z : Left.Wrong ≡ Left.Unsaid). clash cc))
  joined_stays (Left.Kept t) l' newline Left.Unsaid later' x y said = absurd (said refl)
  joined_stays Left.Wrong l' newline later later' x y said = rw (x (λ (z : Left.Wrong ≡ Left.Unsaid). clash cc))
  joined_stays Left.Unsaid l' newline later later' x y said = absurd (said refl)

  text_of_stays : (body : List Line) → Stays Left.Unsaid (text_of Left.Unsaid bs body) (text_of empty_line bs body)
  unfolding text_of
  text_of_stays [] said = refl
  text_of_stays (line ∷ []) said = joined_stays _ _ [] (Left.Kept []) _ (without_stays line.text) (λ z. refl) said
  text_of_stays (line ∷ next ∷ more) said =
      joined_stays _ _ line.newline _ _ (without_stays line.text) (text_of_stays (next ∷ more)) said

  closed_stays : (l l' : Left) (place : ℕ) → Stays Left.Unsaid l l'
      → Stays Block.UnsaidLine (closed l bs place) (closed l' bs place)
  unfolding closed
  closed_stays l l' place x said = ap (λ (m : Left). closed m bs place) (x (λ z. said (rw z)))

block_after_stays : (label : List ℕ) (body : List Line) (k : ℕ) (more : List Line)
    → Stays Block.UnsaidLine (block_after Left.Unsaid label body k more) (block_after empty_line label body k more)
unfolding block_after
block_after_stays label body k [] said = refl
block_after_stays label body k (line ∷ more) said =
    let bs = blanks_of line.text in
    if_stays (closes_at label line.text)
    (if_stays (is_pure bs) (closed_stays bs _ _ (k + length bs) (text_of_stays bs body)) (λ z. refl))
    (block_after_stays label (body ++ (line ∷ [])) (k + length line.text + length line.newline) more)
    said

pub sheet_manual : (label xs : List ℕ) → (block_of Left.Unsaid label xs ≡ Block.UnsaidLine → ⊥)
    → block_of Left.Unsaid label xs ≡ block_of empty_line label xs
unfolding block_of
sheet_manual label xs said = sym (block_after_stays label [] 0 (manual_lines xs) said)
