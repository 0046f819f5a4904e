-- The lines of a text and what one line is, as the manual has them and as the sheet reading has them.
--   Ended, Clean, whole                        a break, LF or CRLF; a line's text, in which no break begins; a line
--                                              with its break
--   SameLines, same_lines                      the lines of one text in both words: each with its break, or its text
--                                              and its break apart
--   kind_of_line, closes_last, closes_broken   a line closes a block in both, after the same blanks
--   pure_kind, pure_blanks                     the kind of its indentation, and its bytes
-- Assumes nothing.
use Rattle.std.specs.Prelude.{if◌then◌else◌}
use Prim.Native.Nat.{ℕ, suc, ◌+◌}
use Prim.Native.Char.{code}
use mathlib.Core.Path.{◌≡◌, refl, sym, ◌∙◌}
use mathlib.Core.Bool.{Bool, true, false, not, ◌&&◌, ◌||◌}
use mathlib.Core.List.{List, [], ◌∷◌, ◌++◌, append-nil}
use native.Mathlib.Omega.{arith}
use lib.Dec.{eqb}
use lib.ListN.{length, take, drop}
use lib.Seq.{length-take-le}
use borrow.Author.Tests.{eqb-true}
use Rattle.byte.specs.Words.{◌is◌, run, every}
use Rattle.byte.specs.Bytes.{is_blank, is_identifier, is_start, is_letter, is_digit}
use Rattle.byte.proofs.Tests.{choice, &&-left, &&-right, if_both}
use Rattle.unit.specs.declared.Indentation.{Indentation}
use Rattle.unit.specs.declared.Match.{Match}
use Rattle.unit.specs.declared.Stop.{Stop}
use Rattle.unit.specs.Closers.{indented}
use Rattle.unit.proofs.Openings.{other_byte}
use Rattle.sheet.specs.declared.Line as declared
use Rattle.sheet.specs.Bodies.{in_front, lines, is_break, is_over}
use Rattle.sheet.specs.Sheets.{closing_label, judged_line, line_kind}
use Rattle.sheet.specs.Code.{indentation, blank_of}
use Rattle.sheet.specs.Manual.{Line, before, manual_lines, blanks_of, is_prefix, ends_name, closes_at, is_pure, kind_of}
use Rattle.sheet.proofs.Lines.{flat, flat_lines}
use Rattle.sheet.proofs.Steps.{line_kind_run}
use Rattle.sheet.proofs.Inside.{run_length}

-- ---- the lines of a text

pub data Ended : List ℕ → Type 0 where
  lf : Ended (code "\n" ∷ [])
  crlf : Ended (code "\r" ∷ code "\n" ∷ [])

pub data Clean (newline : List ℕ) : List ℕ → Type 0 where
  over : Clean newline []
  on : {b : ℕ} {text : List ℕ} → is_over (b ∷ (text ++ newline)) ≡ false → Clean newline text → Clean newline (b ∷ text)

-- a line with its break
abbrev pub whole : Line → List ℕ
whole line = line.text ++ line.newline

-- only the last may have no break
pub data SameLines : List (List ℕ) → List Line → Type 0 where
  none : SameLines [] []
  last : {line : Line} → line.newline ≡ [] → SameLines (whole line ∷ []) (line ∷ [])
  broken : {line : Line} {ls : List (List ℕ)} {more : List Line} → Ended line.newline
      → Clean line.newline line.text → SameLines ls more → SameLines (whole line ∷ ls) (line ∷ more)

-- what stands after a whole line does not matter to a byte before it
pub is_over_line : (b : ℕ) {newline : List ℕ} (text more : List ℕ) → Ended newline
    → is_over (b ∷ ((text ++ newline) ++ more)) ≡ is_over (b ∷ (text ++ newline))
unfolding is_over is_break
is_over_line b [] more lf = refl
is_over_line b [] more crlf = refl
is_over_line b (c ∷ text) more e = refl

before_same : (b : ℕ) {ls : List (List ℕ)} {more : List Line} → is_over (b ∷ flat ls) ≡ false → SameLines ls more
    → SameLines (in_front b ls) (before b more)
unfolding in_front before flat
before_same b h none = last {line = record { text = b ∷ []; newline = [] }} refl
before_same b h (last {line} e) = last {line = record { text = b ∷ line.text; newline = line.newline }} e
before_same b h (broken {line} {ls} e c s) =
    broken {line = record { text = b ∷ line.text; newline = line.newline }} e
    (on (sym (is_over_line b line.text (flat ls) e) ∙ h) c) s

lf_line : (b : ℕ) {ls : List (List ℕ)} {more : List Line} → (b is "\n") ≡ true → SameLines ls more
    → SameLines ((b ∷ []) ∷ ls) (record { text = []; newline = b ∷ [] } ∷ more)
lf_line b e s = rw (eqb-true b (code "\n") e) (broken {line = record { text = []; newline = code "\n" ∷ [] }} lf over s)

crlf_line : (b c : ℕ) {ls : List (List ℕ)} {more : List Line} → (b is "\r" && c is "\n") ≡ true → SameLines ls more
    → SameLines ((b ∷ c ∷ []) ∷ ls) (record { text = []; newline = b ∷ c ∷ [] } ∷ more)
crlf_line b c e s =
    let cr : b ≡ code "\r" = eqb-true b (code "\r") (&&-left (b is "\r") (c is "\n") e) in
    let lf' : c ≡ code "\n" = eqb-true c (code "\n") (&&-right (b is "\r") (c is "\n") e) in
    rw (cr, lf') (broken {line = record { text = []; newline = code "\r" ∷ code "\n" ∷ [] }} crlf over s)

-- a byte that begins no break
not_over : (b c : ℕ) (rest : List ℕ) → (b is "\n") ≡ false → (b is "\r" && c is "\n") ≡ false
    → is_over (b ∷ flat (lines (c ∷ rest))) ≡ false
unfolding is_over is_break
not_over b c rest e f = rw (flat_lines (c ∷ rest), e, f)

pub same_lines : (xs : List ℕ) → SameLines (lines xs) (manual_lines xs)
unfolding lines manual_lines in_front before
same_lines [] = none
same_lines (b ∷ []) =
    if_both SameLines (b is "\n") (λ e. lf_line b e none)
    (λ e. last {line = record { text = b ∷ []; newline = [] }} refl)
same_lines (b ∷ c ∷ rest) =
    if_both SameLines (b is "\n") (λ e. lf_line b e (same_lines (c ∷ rest)))
    (λ e. choice (SameLines (in_front b (lines (c ∷ rest)))) (b is "\r" && c is "\n") _ _
    (λ f. rw (&&-right (b is "\r") (c is "\n") f) (crlf_line b c f (same_lines rest)))
    (λ f. before_same b (not_over b c rest e f) (same_lines (c ∷ rest))))

-- ---- what a line is

module _ (ind : Indentation) (amount : ℕ) where
  -- what the label makes of what is left of a line
  judged_at : List ℕ → List ℕ → declared.Line
  judged_at label ys = judged_line (closing_label label true ys) true ind amount

  -- an identifier byte begins no break
  judged_at_break : (label : List ℕ) {newline : List ℕ} → every is_identifier label ≡ true → Ended newline
      → judged_at label newline ≡ judged_at label []
  unfolding judged_at closing_label judged_line is_identifier is_start is_letter is_digit every
  judged_at_break [] i lf = refl
  judged_at_break [] i crlf = refl
  judged_at_break (a ∷ label) i lf =
      rw (other_byte is_identifier (code "\n") a refl (&&-left (is_identifier a) (every is_identifier label) i))
  judged_at_break (a ∷ label) i crlf =
      rw (other_byte is_identifier (code "\r") a refl (&&-left (is_identifier a) (every is_identifier label) i))

  -- a label does not reach into the break
  judged_at_append : (label text : List ℕ) {newline : List ℕ} → every is_identifier label ≡ true → Ended newline
      → judged_at label (text ++ newline) ≡ judged_at label text
  unfolding judged_at closing_label judged_line every
  judged_at_append [] [] i e = judged_at_break [] i e
  judged_at_append [] (b ∷ text) i e = refl
  judged_at_append (a ∷ label) [] i e = judged_at_break (a ∷ label) i e
  judged_at_append (a ∷ label) (b ∷ text) i e =
      if_both (λ m m'. judged_line m true ind amount ≡ judged_line m' true ind amount) (eqb a b)
      (λ f. judged_at_append label text (&&-right (is_identifier a) (every is_identifier label) i) e)
      (λ f. refl)

  judged_at_closes : (label ys : List ℕ)
      → judged_at label ys
      ≡ (if is_prefix label ys && ends_name (drop (length label) ys) then declared.Line.Closes ind amount
      else declared.Line.Body)
  unfolding judged_at closing_label judged_line is_prefix ends_name
  judged_at_closes [] [] = refl
  judged_at_closes [] (b ∷ ys) = go (is_identifier b)
    where
      go : (t : Bool)
          → judged_line (if t then Match.Other else Match.Whole) true ind amount
          ≡ (if not t then declared.Line.Closes ind amount else declared.Line.Body)
      go true = refl
      go false = refl
  judged_at_closes (a ∷ label) [] = refl
  judged_at_closes (a ∷ label) (b ∷ ys) = go (eqb a b) (ends_name (drop (length label) ys)) (judged_at_closes label ys)
    where
      go : (t ends : Bool)
          → judged_at label ys
          ≡ (if is_prefix label ys && ends then declared.Line.Closes ind amount else declared.Line.Body)
          → judged_line (if t then closing_label label true ys else Match.Other) true ind amount
          ≡ (if (t && is_prefix label ys) && ends then declared.Line.Closes ind amount else declared.Line.Body)
      go true ends e = e
      go false ends e = refl

line_kind_append : (label : List ℕ) (ind : Indentation) (amount : ℕ) (text : List ℕ) {newline : List ℕ}
    → every is_identifier label ≡ true → Ended newline
    → line_kind label true ind amount (text ++ newline) ≡ line_kind label true ind amount text
unfolding line_kind judged_at is_blank
line_kind_append label ind amount [] i lf = judged_at_break ind amount label i lf
line_kind_append label ind amount [] i crlf = judged_at_break ind amount label i crlf
line_kind_append label ind amount (b ∷ text) i e =
    if_both (λ k k'. k ≡ k') (is_blank b) (λ f. line_kind_append label (indented ind b) (suc amount) text i e)
    (λ f. judged_at_append ind amount label (b ∷ text) i e)

-- how many blanks a text begins with
pub blanks_length : (text : List ℕ) → length (blanks_of text) ≡ run is_blank text
blanks_length text = length-take-le (run is_blank text) text (run_length is_blank text)

-- what a line is to the sheet reading, by the manual's test
abbrev pub kind_of_line : List ℕ → List ℕ → declared.Line
kind_of_line label text =
    if closes_at label text
    then declared.Line.Closes (indentation Indentation.None (blanks_of text)) (length (blanks_of text))
    else declared.Line.Body

pub closes_text : (label text : List ℕ) → line_kind label true Indentation.None 0 text ≡ kind_of_line label text
unfolding closes_at judged_at
closes_text label text =
    let z : 0 + run is_blank text ≡ length (blanks_of text) = omega (arith, blanks_length text) in
    let ind = indentation Indentation.None (blanks_of text) in
    line_kind_run label true Indentation.None 0 text
    ∙ rw z (judged_at_closes ind (length (blanks_of text)) label (drop (run is_blank text) text))

module _ (label : List ℕ) (i : every is_identifier label ≡ true) (line : Line) where
  pub closes_last : line.newline ≡ []
      → line_kind label true Indentation.None 0 (whole line) ≡ kind_of_line label line.text
  closes_last e = rw (e, append-nil line.text) (closes_text label line.text)

  pub closes_broken : Ended line.newline
      → line_kind label true Indentation.None 0 (whole line) ≡ kind_of_line label line.text
  closes_broken e = line_kind_append label Indentation.None 0 line.text i e ∙ closes_text label line.text

-- ---- the kind of an indentation

pub run_passes : (test : ℕ → Bool) (xs : List ℕ) → every test (take (run test xs) xs) ≡ true
unfolding run every
run_passes test [] = refl
run_passes test (b ∷ rest) =
    choice (λ k. every test (take k (b ∷ rest)) ≡ true) (test b) _ _ (λ e. rw e (run_passes test rest)) (λ e. refl)

mixed_stays : (bs : List ℕ) → indentation Indentation.Mixed bs ≡ Indentation.Mixed
unfolding indentation indented
mixed_stays [] = refl
mixed_stays (b ∷ bs) = mixed_stays bs

space_kind : (bs : List ℕ)
    → indentation Indentation.Space bs ≡ (if every (λ b. b is " ") bs then Indentation.Space else Indentation.Mixed)
unfolding indentation indented every
space_kind [] = refl
space_kind (b ∷ bs) = go (b is " ") (space_kind bs)
  where
    go : (t : Bool)
        → indentation Indentation.Space bs ≡ (if every (λ b. b is " ") bs then Indentation.Space else Indentation.Mixed)
        → indentation (if t then Indentation.Space else Indentation.Mixed) bs
        ≡ (if t && every (λ b. b is " ") bs then Indentation.Space else Indentation.Mixed)
    go true ih = ih
    go false ih = mixed_stays bs

-- a blank is a space or a tab
space_tab : (b : ℕ) → (b is " ") ≡ true → (b is "\t") ≡ false
space_tab b e = other_byte (λ x. x is " ") (code "\t") b refl e

blank_tab : (b : ℕ) → is_blank b ≡ true → (b is " ") ≡ false → (b is "\t") ≡ true
unfolding is_blank
blank_tab b h e = rw e at h

tab_kind : (bs : List ℕ) → every is_blank bs ≡ true
    → indentation Indentation.Tab bs ≡ (if every (λ b. b is "\t") bs then Indentation.Tab else Indentation.Mixed)
unfolding indentation indented every
tab_kind [] h = refl
tab_kind (b ∷ bs) h = go (b is " ") refl (tab_kind bs (&&-right (is_blank b) (every is_blank bs) h))
  where
    go : (t : Bool) → (b is " ") ≡ t
        → indentation Indentation.Tab bs ≡ (if every (λ b. b is "\t") bs then Indentation.Tab else Indentation.Mixed)
        → indentation (if t then Indentation.Mixed else Indentation.Tab) bs
        ≡ (if b is "\t" && every (λ b. b is "\t") bs then Indentation.Tab else Indentation.Mixed)
    go true e ih = rw (space_tab b e) (mixed_stays bs)
    go false e ih = rw (blank_tab b (&&-left (is_blank b) (every is_blank bs) h) e) ih

||-false : (t : Bool) → (t || false) ≡ t
||-false true = refl
||-false false = refl

pub pure_kind : (bs : List ℕ) → every is_blank bs ≡ true
    → indentation Indentation.None bs ≡ (if is_pure bs then kind_of bs else Indentation.Mixed)
unfolding indentation indented every is_pure kind_of
pure_kind [] h = refl
pure_kind (b ∷ bs) h = go (b is " ") refl
  where
    go : (t : Bool) → (b is " ") ≡ t
        → indentation (if t then Indentation.Space else Indentation.Tab) bs
        ≡ (if (t && every (λ b. b is " ") bs) || (b is "\t" && every (λ b. b is "\t") bs)
        then (if t then Indentation.Space else Indentation.Tab) else Indentation.Mixed)
    go true e = rw (space_tab b e, ||-false (every (λ b. b is " ") bs)) (space_kind bs)
    go false e =
        rw (blank_tab b (&&-left (is_blank b) (every is_blank bs) h) e)
        (tab_kind bs (&&-right (is_blank b) (every is_blank bs) h))

-- its bytes are the blank of its kind
every_is : (k : ℕ) (bs : List ℕ) → eqb k k ≡ true → every (λ b. eqb b k) bs ≡ true → every (eqb k) bs ≡ true
unfolding every
every_is k [] e h = refl
every_is k (b ∷ bs) e h =
    rw (eqb-true b k (&&-left (eqb b k) (every (λ b. eqb b k) bs) h), e)
    (every_is k bs e (&&-right (eqb b k) (every (λ b. eqb b k) bs) h))

pub pure_blanks : (bs : List ℕ) (amount : ℕ) → is_pure bs ≡ true
    → every (eqb (blank_of (Stop.Label (kind_of bs) amount))) bs ≡ true
unfolding every is_pure kind_of blank_of
pure_blanks [] amount h = refl
pure_blanks (b ∷ bs) amount h = go (b is " ") refl h
  where
    go : (t : Bool) → (b is " ") ≡ t
        → ((t && every (λ b. b is " ") bs) || (b is "\t" && every (λ b. b is "\t") bs)) ≡ true
        → every (eqb (blank_of (Stop.Label (if t then Indentation.Space else Indentation.Tab) amount))) (b ∷ bs) ≡ true
    go true e p =
        let q : every (λ b. b is " ") bs ≡ true = rw (space_tab b e, ||-false (every (λ b. b is " ") bs)) at p in
        rw (eqb-true b (code " ") e) (every_is (code " ") bs refl q)
    go false e p =
        let tabs = every (λ b. b is "\t") bs in
        rw (eqb-true b (code "\t") (&&-left (b is "\t") tabs p))
        (every_is (code "\t") bs refl (&&-right (b is "\t") tabs p))
