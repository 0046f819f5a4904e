-- What a sheet reading stands for, by one law: every place that it names lies within the text, and its value is what is left of
-- the lines before the closing line.
--   block_stands   a closing line stands after whole lines and its indentation; where none does, the text is over
--   body_inside    what is left of the lines, or the place of a stray byte
--   sheet_stands   the value, the indentation and the label of a sheet
--   sheet_inside   InsideReading sheet_faults n (n + length xs) (sheet_at label end n xs)
--   sheet_moves    a sheet ends after its start, as its label has a byte or more
--   sheet_stops    it ends at its label
-- Assumes nothing.
use Rattle.std.specs.Prelude.{if◌then◌else◌}
use Prim.Native.Nat.{ℕ, suc, ◌+◌, ◌-◌, ◌<◌, ◌≤◌}
use Rattle.byte.specs.declared.Refusal.{Refusal}
use mathlib.Core.Path.{◌≡◌, refl, sym, ap, ◌∙◌}
use mathlib.Core.Bool.{Bool, true, false, ◌&&◌, false≢true}
use mathlib.Core.List.{List, [], ◌∷◌, ◌++◌}
use native.Mathlib.Omega.{arith}
use lib.Dec.{leb, eqb}
use lib.ListN.{length, take, drop, length-append, length-drop}
use lib.Seq.{take-append-add}
use borrow.Author.Tests.{eqb-true, eq-eqb}
use Rattle.byte.specs.Refusals.{unexpected_end_of_file, invalid_doc_indentation, stray_indentation, is_among}
use Rattle.byte.specs.Words.{◌is◌, run, every}
use Rattle.byte.specs.Bytes.{is_blank}
use Rattle.byte.proofs.Tests.{choice, &&-both}
use Rattle.unit.specs.declared.Indentation.{Indentation}
use Rattle.unit.specs.declared.Match.{Match}
use Rattle.unit.specs.declared.Stop.{Stop}
use Rattle.unit.specs.Closers.{matched, indented}
use Rattle.unit.specs.Readings.{Reading}
use Rattle.unit.proofs.Inside.{FaultInside, InsideReading, MovesReading, StopsReading, matched_length}
use Rattle.sheet.specs.declared.Line.{Line}
use Rattle.sheet.specs.Bodies.{Text, Kept, Stray, Indent, lines, is_over, unindented, followed, body_text, unbroken}
use Rattle.sheet.specs.Sheets.{closing_label, judged_line, line_kind, Block, Closed, Missing, Open, with_line, told, block}
use Rattle.sheet.specs.Sheets.{filled, stripped, answered, sheet_at}
use Rattle.sheet.specs.Code.{is_line, blank_of, indent_of, left_of, sheet_of}
use Rattle.sheet.proofs.Lines.{total, total_lines, Lined, none, last, broken, lines_lined}
use Rattle.sheet.proofs.Lines.{flat, flat_lines, lines_flat}
use Rattle.sheet.proofs.Closings.{bounded, closing_label_bounded}

-- ---- the closing line

-- the label stands within its line; without an indentation it has no blanks
pub record LineCloses (size hi : ℕ) (ind : Indentation) (amount : ℕ) : Type 0 where
  pub inside : amount + size ≤ hi
  pub bare : ind ≡ Indentation.None → amount ≡ 0

abbrev pub LineInside : ℕ → ℕ → Line → Type 0
LineInside size hi (Line.Closes ind amount) = LineCloses size hi ind amount
LineInside size hi Line.Body = Unit {0}
LineInside size hi Line.Undecided = Unit {0}

bounded_whole : (m behind : Match) → bounded m behind ≡ Match.Whole → m ≡ Match.Whole
unfolding bounded
bounded_whole Match.Whole behind e = refl
bounded_whole Match.Other behind e = e
bounded_whole Match.Undecided behind e = e

closing_label_length : (label : List ℕ) (end : Bool) (ys : List ℕ) → closing_label label end ys ≡ Match.Whole → length label ≤ length ys
closing_label_length label end ys e =
    matched_length label ys (bounded_whole (matched label ys) _ (sym (closing_label_bounded label end ys) ∙ e))

judged_line_inside : (label ys : List ℕ) (end : Bool) (ind : Indentation) (amount hi : ℕ) → amount + length ys ≤ hi
    → (ind ≡ Indentation.None → amount ≡ 0)
    → LineInside (length label) hi (judged_line (closing_label label end ys) end ind amount)
unfolding judged_line
judged_line_inside label ys end ind amount hi h bare = go (closing_label label end ys) (closing_label_length label end ys)
  where
    go : (m : Match) → (m ≡ Match.Whole → length label ≤ length ys) → LineInside (length label) hi (judged_line m end ind amount)
    go Match.Whole l = record { inside = omega (arith, l refl); bare = bare }
    go Match.Other l = tt
    go Match.Undecided l = choice (LineInside (length label) hi) end _ _ (λ e. tt) (λ e. tt)

-- after a blank there is an indentation
unfoldable is_indented : Indentation → Bool
is_indented Indentation.None = false
is_indented Indentation.Space = true
is_indented Indentation.Tab = true
is_indented Indentation.Mixed = true

indented_some : (ind : Indentation) (b : ℕ) → is_indented (indented ind b) ≡ true
unfolding indented is_indented
indented_some Indentation.None b = choice (λ i. is_indented i ≡ true) (b is " ") _ _ (λ e. refl) (λ e. refl)
indented_some Indentation.Space b = choice (λ i. is_indented i ≡ true) (b is " ") _ _ (λ e. refl) (λ e. refl)
indented_some Indentation.Tab b = choice (λ i. is_indented i ≡ true) (b is " ") _ _ (λ e. refl) (λ e. refl)
indented_some Indentation.Mixed b = refl

bare_some : {A : Type 0} (ind : Indentation) → is_indented ind ≡ true → ind ≡ Indentation.None → A
unfolding is_indented
bare_some ind s e = absurd (false≢true (rw e at s))

line_kind_inside : (label : List ℕ) (end : Bool) (ind : Indentation) (amount hi : ℕ) (xs : List ℕ) → amount + length xs ≤ hi
    → (ind ≡ Indentation.None → amount ≡ 0)
    → LineInside (length label) hi (line_kind label end ind amount xs)
unfolding line_kind
line_kind_inside label end ind amount hi [] h bare = judged_line_inside label [] end ind amount hi h bare
line_kind_inside label end ind amount hi (b ∷ rest) h bare =
    choice (LineInside (length label) hi) (is_blank b) _ _
    (λ e. line_kind_inside label end (indented ind b) (suc amount) hi rest (omega arith) (bare_some (indented ind b) (indented_some ind b)))
    (λ e. judged_line_inside label (b ∷ rest) end ind amount hi h bare)

-- a closing line's label stands after the body's lines, which are whole and the first of all, and its own indentation
pub record ClosedStands (size n : ℕ) (ls body : List (List ℕ)) (ind : Indentation) (amount place : ℕ) : Type 0 where
  pub behind : place ≡ n + total body + amount
  pub inside : place + size ≤ n + total ls
  pub bare : ind ≡ Indentation.None → amount ≡ 0
  pub whole : every is_line body ≡ true
  pub start : take (total body) (flat ls) ≡ flat body

abbrev pub BlockStands : ℕ → ℕ → List (List ℕ) → Block → Type 0
BlockStands size n ls (Closed body ind amount place) = ClosedStands size n ls body ind amount place
BlockStands size n ls (Missing place) = place ≡ n + total ls
BlockStands size n ls Open = Unit {0}

module _ (size n : ℕ) (line : List ℕ) (later : List (List ℕ)) where
  closes_stands : (ind : Indentation) (amount : ℕ) → LineCloses size (length line) ind amount
      → ClosedStands size n (line ∷ later) [] ind amount (n + amount)
  unfolding total flat every
  closes_stands ind amount l =
      record { behind = omega arith; inside = omega (arith, l.inside); bare = l.bare; whole = refl; start = refl }

  told_stands : (k : Line) (b : Block) → is_line line ≡ true → LineInside size (length line) k
      → BlockStands size (n + length line) later b → BlockStands size n (line ∷ later) (told k n line b)
  unfolding told with_line total flat every
  told_stands (Line.Closes ind amount) b w l x = closes_stands ind amount l
  told_stands Line.Body (Closed body ind amount place) w l x =
      record {
        behind = omega (arith, x.behind);
        inside = omega (arith, x.inside);
        bare = x.bare;
        whole = &&-both (is_line line) (every is_line body) w x.whole;
        start = take-append-add line (flat later) (total body) ∙ ap (◌++◌ line) x.start;
      }
  told_stands Line.Body (Missing place) w l x = omega arith
  told_stands Line.Body Open w l x = tt
  told_stands Line.Undecided b w l x = tt

-- after the last line no other closes
last_stands : (size n : ℕ) (line : List ℕ) (k : Line) (t : Bool) → LineInside size (length line) k
    → BlockStands size n (line ∷ []) (told k n line (if t then Missing (n + length line) else Open))
unfolding told with_line total
last_stands size n line (Line.Closes ind amount) t l = closes_stands size n line [] ind amount l
last_stands size n line Line.Body true l = omega arith
last_stands size n line Line.Body false l = tt
last_stands size n line Line.Undecided t l = tt

module _ (label : List ℕ) (end : Bool) where
  pub line_inside : (line : List ℕ) → LineInside (length label) (length line) (line_kind label end Indentation.None 0 line)
  line_inside line = line_kind_inside label end Indentation.None 0 (length line) line (omega arith) (λ e. refl)

  pub block_stands : (n : ℕ) {ls : List (List ℕ)} → Lined ls → BlockStands (length label) n ls (block label end n ls)
  unfolding block total
  block_stands n none = choice (BlockStands (length label) n []) end _ _ (λ e. omega arith) (λ e. tt)
  block_stands n (last {line}) = last_stands (length label) n line _ end (line_inside line)
  block_stands n (broken {line} {later} w x) =
      told_stands (length label) n line later _ _ w (line_inside line) (block_stands (n + length line) x)

-- ---- the body

-- what a sheet may refuse
abbrev pub sheet_faults : List Refusal
sheet_faults = unexpected_end_of_file ∷ invalid_doc_indentation ∷ stray_indentation ∷ []

-- what is left of so many bytes from n on
abbrev pub TextInside : ℕ → ℕ → Text → Type 0
TextInside n hi (Kept text) = n + length text ≤ hi
TextInside n hi (Stray p) = FaultInside sheet_faults n hi stray_indentation p

pub run_length : (test : ℕ → Bool) (xs : List ℕ) → run test xs ≤ length xs
unfolding run
run_length test [] = omega arith
run_length test (b ∷ rest) =
    choice (λ k. k ≤ suc (length rest)) (test b) _ _ (λ e. omega (arith, run_length test rest)) (λ e. omega arith)

unindented_inside : (ind : Indent) (n : ℕ) (line : List ℕ) → TextInside n (n + length line) (unindented ind n line)
unfolding unindented is_among
unindented_inside ind n line =
    let blanks = run (eqb ind.blank) line in
    choice (TextInside n (n + length line)) (leb ind.width blanks) _ _
    (λ e. omega (arith, length-drop ind.width line))
    (λ e. choice (TextInside n (n + length line)) (is_over (drop blanks line)) _ _
    (λ f. omega (arith, length-drop blanks line))
    (λ f. record { among = refl; on = omega arith; inside = omega (arith, run_length (eqb ind.blank) line) }))

followed_inside : (n m hi : ℕ) (t u : Text) → n ≤ m → m ≤ hi → TextInside n m t → TextInside m hi u → TextInside n hi (followed t u)
unfolding followed is_among
followed_inside n m hi (Kept x) (Kept y) h k i j = omega (arith, length-append x y)
followed_inside n m hi (Kept x) (Stray p) h k i j = record { among = refl; on = omega (arith, j.on); inside = j.inside }
followed_inside n m hi (Stray p) u h k i j = record { among = refl; on = i.on; inside = omega (arith, i.inside) }

pub body_inside : (ind : Indent) (n : ℕ) (ls : List (List ℕ)) → TextInside n (n + total ls) (body_text ind n ls)
unfolding body_text total
body_inside ind n [] = omega arith
body_inside ind n (line ∷ more) =
    let z : n + length line + total more ≡ n + (length line + total more) = omega arith in
    followed_inside n (n + length line) (n + (length line + total more)) _ _ (omega arith) (omega arith)
    (unindented_inside ind n line) (rw z at (body_inside ind (n + length line) more))

pub unbroken_length : (xs : List ℕ) → length (unbroken xs) ≤ length xs
unfolding unbroken
unbroken_length [] = omega arith
unbroken_length (b ∷ []) = choice (λ vs. length vs ≤ 1) (b is "\n") [] (b ∷ []) (λ e. omega arith) (λ e. omega arith)
unbroken_length (b ∷ c ∷ []) =
    choice (λ vs. length vs ≤ 2) (b is "\r" && c is "\n") [] (b ∷ unbroken (c ∷ [])) (λ e. omega arith)
    (λ e. omega (arith, unbroken_length (c ∷ [])))
unbroken_length (b ∷ c ∷ d ∷ rest) = omega (arith, unbroken_length (c ∷ d ∷ rest))

-- ---- the reading

module _ (size n : ℕ) (body : List (List ℕ)) (amount place : ℕ) where
  pub stripped_mixed : (ind : Indentation) → blank_of (Stop.Label ind amount) ≡ 0
      → stripped size n body ind amount place ≡ Reading.Refused Refusal.InvalidDocIndentation place
  unfolding stripped blank_of
  stripped_mixed Indentation.None z = absurd (omega arith)
  stripped_mixed Indentation.Space z = absurd (omega arith)
  stripped_mixed Indentation.Tab z = absurd (omega arith)
  stripped_mixed Indentation.Mixed z = refl

  pub stripped_indent : (ind : Indentation) → (ind ≡ Indentation.None → amount ≡ 0) → (blank_of (Stop.Label ind amount) ≡ 0 → ⊥)
      → stripped size n body ind amount place ≡ filled (body_text (indent_of ind amount) n body) ind amount place (place + size)
  unfolding stripped blank_of
  stripped_indent Indentation.None bare z = rw (bare refl)
  stripped_indent Indentation.Space bare z = refl
  stripped_indent Indentation.Tab bare z = refl
  stripped_indent Indentation.Mixed bare z = absurd (z refl)

-- a sheet's value, what comes off its lines, and its label
pub record SheetStands (size n hi : ℕ) (xs value : List ℕ) (stop : Stop) (from after : ℕ) : Type 0 where
  pub ind : Indentation
  pub amount : ℕ
  pub label : stop ≡ Stop.Label ind amount
  pub narrow : n + length value + amount ≤ from
  pub sized : from + size ≡ after
  pub inside : after ≤ hi
  pub same : value ≡ sheet_of (indent_of ind amount) n (take (from - amount - n) xs)

abbrev pub StandsSheet : ℕ → ℕ → ℕ → List ℕ → Reading → Type 0
StandsSheet size n hi xs (Reading.Text value stop from after) = SheetStands size n hi xs value stop from after
StandsSheet size n hi xs (Reading.Refused refusal place) = FaultInside sheet_faults n hi refusal place
StandsSheet size n hi xs Reading.Wait = Unit {0}

module _ (size n : ℕ) (xs : List ℕ) (body : List (List ℕ)) (ind : Indentation) (amount place : ℕ)
    (c : ClosedStands size n (lines xs) body ind amount place) where
  -- the body is what stands before the closing line
  pub lines_before : lines (take (place - amount - n) xs) ≡ body
  lines_before =
      let k : place - amount - n ≡ total body = omega (arith, c.behind) in
      rw k (rw flat_lines at (ap lines c.start) ∙ lines_flat body c.whole)

  filled_stands : (t : Text) → body_text (indent_of ind amount) n body ≡ t → TextInside n (n + total body) t
      → StandsSheet size n (n + length xs) xs (filled t ind amount place (place + size))
  unfolding filled sheet_of left_of is_among
  filled_stands (Kept text) e i =
      record {
        ind = ind;
        amount = amount;
        label = refl;
        narrow = omega (arith, i, unbroken_length text, c.behind);
        sized = refl;
        inside = omega (arith, c.inside, total_lines xs);
        same = sym (rw (lines_before, e));
      }
  filled_stands (Stray p) e i =
      record { among = refl; on = i.on; inside = omega (arith, i.inside, c.behind, c.inside, total_lines xs) }

  stripped_stands : (t : Bool) → eqb (blank_of (Stop.Label ind amount)) 0 ≡ t
      → StandsSheet size n (n + length xs) xs (stripped size n body ind amount place)
  unfolding is_among
  stripped_stands true e =
      rw (stripped_mixed size n body amount place ind (eqb-true _ 0 e))
      (record { among = refl; on = omega (arith, c.behind); inside = omega (arith, c.inside, total_lines xs) })
  stripped_stands false e =
      rw (stripped_indent size n body amount place ind c.bare (λ z. false≢true (sym e ∙ eq-eqb _ 0 z)))
      (filled_stands _ refl (body_inside (indent_of ind amount) n body))

answered_stands : (size n : ℕ) (xs : List ℕ) (b : Block) → BlockStands size n (lines xs) b
    → StandsSheet size n (n + length xs) xs (answered size n b)
unfolding answered is_among
answered_stands size n xs (Closed body ind amount place) x =
    stripped_stands size n xs body ind amount place x (eqb (blank_of (Stop.Label ind amount)) 0) refl
answered_stands size n xs (Missing place) x =
    record { among = refl; on = omega arith; inside = omega (arith, total_lines xs) }
answered_stands size n xs Open x = tt

module _ (label : List ℕ) (end : Bool) (n : ℕ) (xs : List ℕ) where
  pub sheet_stands : StandsSheet (length label) n (n + length xs) xs (sheet_at label end n xs)
  unfolding sheet_at
  sheet_stands = answered_stands (length label) n xs _ (block_stands label end n (lines_lined xs))

  pub sheet_inside : InsideReading sheet_faults n (n + length xs) (sheet_at label end n xs)
  sheet_inside = go (sheet_at label end n xs) sheet_stands
    where
      go : (r : Reading) → StandsSheet (length label) n (n + length xs) xs r
          → InsideReading sheet_faults n (n + length xs) r
      go (Reading.Text value stop from after) x =
          rw x.label
          (record {
            indented = omega (arith, x.narrow);
            narrow = omega (arith, x.narrow);
            order = omega (arith, x.sized);
            inside = x.inside;
          })
      go (Reading.Refused refusal place) x = x
      go Reading.Wait x = tt

  pub sheet_moves : 0 < length label → MovesReading n (sheet_at label end n xs)
  sheet_moves h = go (sheet_at label end n xs) sheet_stands
    where
      go : (r : Reading) → StandsSheet (length label) n (n + length xs) xs r → MovesReading n r
      go (Reading.Text value stop from after) x = omega (arith, x.narrow, x.sized)
      go (Reading.Refused refusal place) x = tt
      go Reading.Wait x = tt

  pub sheet_stops : StopsReading (sheet_at label end n xs)
  sheet_stops = go (sheet_at label end n xs) sheet_stands
    where
      go : (r : Reading) → StandsSheet (length label) n (n + length xs) xs r → StopsReading r
      go (Reading.Text value stop from after) x = rw x.label
      go (Reading.Refused refusal place) x = tt
      go Reading.Wait x = tt
