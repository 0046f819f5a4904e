-- What one line is to the block, with more announced and with the end announced.
--   closing_label_bounded   a closing label is the ported one, and what follows it
--   line_kind_stays         what is told of a line stays
--   line_kind_open          a line that is not told is one of the body, if the end is announced there or after one
--                           identifier byte more
--   line_kind_told          a line with a break is told
--   line_kind_ended   with the end announced every line is told
-- Assumes nothing.
use Rattle.std.specs.Prelude.{if◌then◌else◌}
use Prim.Native.Nat.{ℕ, suc, ◌<◌}
use mathlib.Core.Logic.{◌⊎◌, inl, inr}
use mathlib.Core.Path.{◌≡◌, refl}
use mathlib.Core.Bool.{Bool, true, false, ◌||◌}
use mathlib.Core.List.{List, [], ◌∷◌, ◌++◌}
use native.Mathlib.Omega.{arith}
use lib.Dec.{eqb}
use lib.ListN.{length, drop}
use borrow.Author.Tests.{eqb-true}
use Rattle.byte.specs.Words.{◌is◌, every}
use Rattle.byte.specs.Bytes.{is_blank, is_identifier, is_start, is_letter, is_digit}
use Rattle.byte.proofs.Tests.{choice, &&-left, &&-right}
use Rattle.unit.specs.declared.Indentation.{Indentation}
use Rattle.unit.specs.declared.Match.{Match}
use Rattle.unit.specs.Closers.{matched, indented}
use Rattle.unit.proofs.Stays.{Stays, clash, if_stays}
use Rattle.unit.proofs.Openings.{one_more, blank_plainly, identifier_plainly}
use Rattle.sheet.specs.declared.Line.{Line}
use Rattle.sheet.specs.Sheets.{closing_label, judged_line, line_kind}
use Rattle.sheet.proofs.Lines.{has_break}

-- ---- the ported label, and what follows it

-- a label that stands there closes by what stands after it
unfoldable pub bounded : Match → Match → Match
bounded Match.Whole behind = behind
bounded Match.Other behind = Match.Other
bounded Match.Undecided behind = Match.Undecided

pub closing_label_bounded : (label : List ℕ) (end : Bool) (xs : List ℕ)
    → closing_label label end xs ≡ bounded (matched label xs) (closing_label [] end (drop (length label) xs))
unfolding closing_label matched bounded
closing_label_bounded [] end xs = refl
closing_label_bounded (a ∷ label) end [] = refl
closing_label_bounded (a ∷ label) end (b ∷ rest) =
    go (eqb a b) (closing_label [] end (drop (length label) rest)) (closing_label_bounded label end rest)
  where
    go : (t : Bool) {u : Match} (v : Match) → u ≡ bounded (matched label rest) v
        → (if t then u else Match.Other) ≡ bounded (if t then matched label rest else Match.Other) v
    go true v e = e
    go false v e = refl

-- ---- what is told stays

closing_label_stays : (label ys more : List ℕ)
    → Stays Match.Undecided (closing_label label false ys) (closing_label label true (ys ++ more))
unfolding closing_label
closing_label_stays [] [] more k = absurd (k refl)
closing_label_stays [] (y ∷ ys) more k = refl
closing_label_stays (a ∷ label) [] more k = absurd (k refl)
closing_label_stays (a ∷ label) (y ∷ ys) more k = if_stays (eqb a y) (closing_label_stays label ys more) (λ z. refl) k

judged_line_stays : (ind : Indentation) (amount : ℕ) (m m' : Match) → Stays Match.Undecided m m'
    → Stays Line.Undecided (judged_line m false ind amount) (judged_line m' true ind amount)
unfolding judged_line
judged_line_stays ind amount Match.Whole m' s k = rw (s (λ (z : Match.Whole ≡ Match.Undecided). clash cc))
judged_line_stays ind amount Match.Other m' s k = rw (s (λ (z : Match.Other ≡ Match.Undecided). clash cc))
judged_line_stays ind amount Match.Undecided m' s k = absurd (k refl)

pub line_kind_stays : (label : List ℕ) → 0 < length label → (ind : Indentation) (amount : ℕ) (xs more : List ℕ)
    → Stays Line.Undecided (line_kind label false ind amount xs) (line_kind label true ind amount (xs ++ more))
unfolding line_kind closing_label judged_line
line_kind_stays [] h ind amount xs more k = absurd (omega arith)
line_kind_stays (a ∷ label) h ind amount [] more k = absurd (k refl)
line_kind_stays (a ∷ label) h ind amount (b ∷ xs) more k =
    if_stays (is_blank b) (line_kind_stays (a ∷ label) h (indented ind b) (suc amount) xs more)
    (judged_line_stays ind amount _ _ (closing_label_stays (a ∷ label) (b ∷ xs) more))
    k

judged_line_undecided : (m : Match) (ind : Indentation) (amount : ℕ) → judged_line m false ind amount ≡ Line.Undecided
    → m ≡ Match.Undecided
unfolding judged_line
judged_line_undecided Match.Whole ind amount e = clash cc
judged_line_undecided Match.Other ind amount e = clash cc
judged_line_undecided Match.Undecided ind amount e = refl

-- ---- what is not told

-- a byte after the label tells
byte_told : {A : Type 0} (t : Bool) → (if t then Match.Other else Match.Whole) ≡ Match.Undecided → A
byte_told true z = clash cc
byte_told false z = clash cc

closing_label_open : (label ys : List ℕ) → closing_label label false ys ≡ Match.Undecided
    → (closing_label label true ys ≡ Match.Undecided) ⊎ (closing_label label true (ys ++ one_more) ≡ Match.Other)
unfolding closing_label is_identifier is_start is_letter is_digit
closing_label_open [] [] e = inr refl
closing_label_open [] (y ∷ ys) e = byte_told (is_identifier y) e
closing_label_open (a ∷ label) [] e = inl refl
closing_label_open (a ∷ label) (y ∷ ys) e = go (eqb a y) (closing_label_open label ys) e
  where
    go : (t : Bool)
        → (closing_label label false ys ≡ Match.Undecided
        → (closing_label label true ys ≡ Match.Undecided) ⊎ (closing_label label true (ys ++ one_more) ≡ Match.Other))
        → (if t then closing_label label false ys else Match.Other) ≡ Match.Undecided
        → ((if t then closing_label label true ys else Match.Other) ≡ Match.Undecided)
        ⊎ ((if t then closing_label label true (ys ++ one_more) else Match.Other) ≡ Match.Other)
    go true ih z = ih z
    go false ih z = clash cc

if_open : (t : Bool) {u v w u' v' w' : Line} → (u ≡ Line.Undecided → (v ≡ Line.Body) ⊎ (w ≡ Line.Body))
    → (u' ≡ Line.Undecided → (v' ≡ Line.Body) ⊎ (w' ≡ Line.Body))
    → (if t then u else u') ≡ Line.Undecided → ((if t then v else v') ≡ Line.Body) ⊎ ((if t then w else w') ≡ Line.Body)
if_open true x y e = x e
if_open false x y e = y e

judged_line_open : (ind : Indentation) (amount : ℕ) (m m' : Match) → (m ≡ Match.Undecided) ⊎ (m' ≡ Match.Other)
    → (judged_line m true ind amount ≡ Line.Body) ⊎ (judged_line m' true ind amount ≡ Line.Body)
unfolding judged_line
judged_line_open ind amount m m' (inl e) = inl (rw e)
judged_line_open ind amount m m' (inr e) = inr (rw e)

pub line_kind_open : (label : List ℕ) → 0 < length label → (ind : Indentation) (amount : ℕ) (xs : List ℕ)
    → line_kind label false ind amount xs ≡ Line.Undecided
    → (line_kind label true ind amount xs ≡ Line.Body) ⊎ (line_kind label true ind amount (xs ++ one_more) ≡ Line.Body)
unfolding line_kind closing_label judged_line
line_kind_open [] h ind amount xs e = absurd (omega arith)
line_kind_open (a ∷ label) h ind amount [] e = inl refl
line_kind_open (a ∷ label) h ind amount (b ∷ xs) e =
    if_open (is_blank b) (line_kind_open (a ∷ label) h (indented ind b) (suc amount) xs)
    (λ z. judged_line_open ind amount _ _ (closing_label_open (a ∷ label) (b ∷ xs) (judged_line_undecided _ ind amount z)))
    e

-- ---- a line with a break is told

later_break : (t : Bool) (later : Bool) → t ≡ false → (t || later) ≡ true → later ≡ true
later_break t later e h = rw e at h

closing_label_told : (label ys : List ℕ) → every is_identifier label ≡ true → has_break ys ≡ true
    → closing_label label false ys ≡ Match.Undecided → ⊥
unfolding closing_label has_break every
closing_label_told [] [] i h e = clash cc
closing_label_told [] (y ∷ ys) i h e = byte_told (is_identifier y) e
closing_label_told (a ∷ label) [] i h e = clash cc
closing_label_told (a ∷ label) (y ∷ ys) i h e =
    go (eqb a y) refl (closing_label_told label ys (&&-right (is_identifier a) (every is_identifier label) i)) e
  where
    go : (t : Bool) → eqb a y ≡ t → (has_break ys ≡ true → closing_label label false ys ≡ Match.Undecided → ⊥)
        → (if t then closing_label label false ys else Match.Other) ≡ Match.Undecided → ⊥
    go true q later z =
        let first : is_identifier a ≡ true = &&-left (is_identifier a) (every is_identifier label) i in
        let lf : (y is "\n") ≡ false = rw (eqb-true a y q) at (identifier_plainly a first).lf in
        later (later_break (y is "\n") (has_break ys) lf h) z
    go false q later z = clash cc

pub line_kind_told : (label : List ℕ) → every is_identifier label ≡ true → (ind : Indentation) (amount : ℕ) (line : List ℕ)
    → has_break line ≡ true → line_kind label false ind amount line ≡ Line.Undecided → ⊥
unfolding line_kind has_break
line_kind_told label i ind amount [] h e = clash cc
line_kind_told label i ind amount (b ∷ rest) h e =
    go (is_blank b) refl (line_kind_told label i (indented ind b) (suc amount) rest) e
  where
    go : (t : Bool) → is_blank b ≡ t
        → (has_break rest ≡ true → line_kind label false (indented ind b) (suc amount) rest ≡ Line.Undecided → ⊥)
        → (if t then line_kind label false (indented ind b) (suc amount) rest
        else judged_line (closing_label label false (b ∷ rest)) false ind amount) ≡ Line.Undecided
        → ⊥
    go true q later z = later (later_break (b is "\n") (has_break rest) (blank_plainly b q).lf h) z
    go false q later z = closing_label_told label (b ∷ rest) i h (judged_line_undecided _ ind amount z)

-- ---- with the end announced

judged_line_ended : (m : Match) (ind : Indentation) (amount : ℕ) → judged_line m true ind amount ≡ Line.Undecided → ⊥
unfolding judged_line
judged_line_ended Match.Whole ind amount e = clash cc
judged_line_ended Match.Other ind amount e = clash cc
judged_line_ended Match.Undecided ind amount e = clash cc

pub line_kind_ended : (label : List ℕ) (ind : Indentation) (amount : ℕ) (xs : List ℕ)
    → line_kind label true ind amount xs ≡ Line.Undecided → ⊥
unfolding line_kind
line_kind_ended label ind amount [] = judged_line_ended _ ind amount
line_kind_ended label ind amount (b ∷ rest) =
    choice (λ l. l ≡ Line.Undecided → ⊥) (is_blank b) _ _ (λ e. line_kind_ended label (indented ind b) (suc amount) rest)
    (λ e. judged_line_ended _ ind amount)
