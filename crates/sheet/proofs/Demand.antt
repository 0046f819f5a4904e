-- Demand 3 for the sheet reading:
--   sheet_waits         Label label → Waits Wait (sheet_at label false n) (sheet_at label true n) part
--   sheet_never_waits   with the end announced the reading doesn't wait
--   sheet_endings       a wait has two continuations apart by their endings: the empty one and one identifier byte
-- What is told of a line stays, and a line with a break is told (Closings). So an open block misses its closing line where the
-- text ends or, if that is after the whole label, where it ends with one identifier byte more. Assumes nothing.
use Prim.Native.Nat.{ℕ, ◌+◌}
use Rattle.byte.specs.declared.Refusal.{Refusal}
use mathlib.Core.Logic.{◌⊎◌, inl, inr, ⊎_elim}
use mathlib.Core.Path.{◌≡◌, refl, ap, sym, ◌∙◌}
use mathlib.Core.Bool.{true, false}
use mathlib.Core.List.{List, [], ◌∷◌, ◌++◌, append-nil}
use native.Mathlib.Omega.{arith}
use lib.ListN.{length, length-append}
use Rattle.byte.specs.Words.{every}
use Rattle.byte.specs.Demand.{Apart, Waits}
use Rattle.byte.proofs.Demand.{apart_by, waits}
use Rattle.unit.specs.declared.Indentation.{Indentation}
use Rattle.unit.specs.declared.Stop.{Stop}
use Rattle.unit.specs.Labels.{Label}
use Rattle.unit.specs.Readings.{Reading}
use Rattle.unit.proofs.Stands.{enters}
use Rattle.unit.proofs.Stays.{Stays, clash}
use Rattle.unit.proofs.Demand.{ending}
use Rattle.unit.proofs.Openings.{one_more}
use Rattle.sheet.specs.declared.Line.{Line}
use Rattle.sheet.specs.Bodies.{Text, Kept, Stray, lines}
use Rattle.sheet.specs.Sheets.{line_kind, Block, Closed, Missing, Open, with_line, told, block}
use Rattle.sheet.specs.Sheets.{filled, stripped, answered, sheet_at}
use Rattle.sheet.proofs.Lines.{total, total_lines, lines_lined, line-break, Grown, begun, grown, beside, lines_grown}
use Rattle.sheet.proofs.Lines.{Continues, behind, longer, alike, lines-append}
use Rattle.sheet.proofs.Closings.{line_kind_stays, line_kind_open, line_kind_told, line_kind_ended}
use Rattle.sheet.proofs.Inside.{block_stands}

-- ---- what is told of a block stays

with_line_open : (line : List ℕ) (b : Block) → b ≡ Open → with_line line b ≡ Open
unfolding with_line
with_line_open line b e = rw e

open_with_line : (line : List ℕ) (b : Block) → with_line line b ≡ Open → b ≡ Open
unfolding with_line
open_with_line line (Closed body ind amount place) e = clash cc
open_with_line line (Missing place) e = e
open_with_line line Open e = refl

closes_told : {A : Type 0} {ind : Indentation} {amount : ℕ} → Line.Closes ind amount ≡ Line.Undecided → A
closes_told e = clash cc

body_told : {A : Type 0} → Line.Body ≡ Line.Undecided → A
body_told e = clash cc

told_stays : (n : ℕ) (line : List ℕ) (l l' : Line) (b b' : Block) → Stays Line.Undecided l l' → Stays Open b b'
    → Stays Open (told l n line b) (told l' n line b')
unfolding told
told_stays n line (Line.Closes ind amount) l' b b' s r k = rw (s closes_told)
told_stays n line Line.Body l' b b' s r k = rw (s body_told) (ap (with_line line) (r (λ z. k (with_line_open line b z))))
told_stays n line Line.Undecided l' b b' s r k = absurd (k refl)

-- a line that goes on: only a closing line is told
longer_stays : (n : ℕ) (line line' : List ℕ) (l l' : Line) (b b' : Block) → Stays Line.Undecided l l' → b ≡ Open
    → Stays Open (told l n line b) (told l' n line' b')
unfolding told
longer_stays n line line' (Line.Closes ind amount) l' b b' s r k = rw (s closes_told)
longer_stays n line line' Line.Body l' b b' s r k = absurd (k (with_line_open line b r))
longer_stays n line line' Line.Undecided l' b b' s r k = absurd (k refl)

module _ (label : List ℕ) (h : Label label) where
  line_alike : (line : List ℕ)
      → Stays Line.Undecided (line_kind label false Indentation.None 0 line) (line_kind label true Indentation.None 0 line)
  line_alike line = rw append-nil at (line_kind_stays label h.some Indentation.None 0 line [])

  block_stays : (n : ℕ) {ls ls' : List (List ℕ)} → Continues ls ls'
      → Stays Open (block label false n ls) (block label true n ls')
  unfolding block
  block_stays n behind k = absurd (k refl)
  block_stays n (longer {line} tail) k =
      longer_stays n line (line ++ tail) _ _ _ _ (line_kind_stays label h.some Indentation.None 0 line tail) refl k
  block_stays n (alike {line} c) k =
      told_stays n line _ _ _ _ (line_alike line) (λ z. block_stays (n + length line) c z) k

  -- a line of the body, and after it none that closes
  missed : (n : ℕ) (line : List ℕ) (later : List (List ℕ)) → line_kind label true Indentation.None 0 line ≡ Line.Body
      → block label true (n + length line) later ≡ Missing (n + length line + total later)
      → block label true n (line ∷ later) ≡ Missing (n + (length line + total later))
  unfolding block told with_line
  missed n line later q e = rw (q, e) (ap Missing (omega arith))

  -- an open block misses its closing line where the text ends, or after one identifier byte more
  block_open : (n : ℕ) {ls ls' : List (List ℕ)} → Grown ls ls' → block label false n ls ≡ Open
      → (block label true n ls ≡ Missing (n + total ls)) ⊎ (block label true n ls' ≡ Missing (n + total ls'))
  unfolding block told with_line total
  block_open n begun e = inl (ap Missing (omega arith))
  block_open n (grown {line}) e = go (line_kind label false Indentation.None 0 line) refl e
    where
      alone : (l : List ℕ) → line_kind label true Indentation.None 0 l ≡ Line.Body
          → block label true n (l ∷ []) ≡ Missing (n + (length l + 0))
      alone l q = missed n l [] q (ap Missing (omega arith))

      go : (k : Line) → line_kind label false Indentation.None 0 line ≡ k → told k n line Open ≡ Open
          → (block label true n (line ∷ []) ≡ Missing (n + (length line + 0)))
          ⊎ (block label true n ((line ++ one_more) ∷ []) ≡ Missing (n + (length (line ++ one_more) + 0)))
      go (Line.Closes ind amount) q z = clash cc
      go Line.Body q z = inl (alone line (line_alike line (λ y. body_told (sym q ∙ y)) ∙ q))
      go Line.Undecided q z =
          ⊎_elim (λ y. inl (alone line y)) (λ y. inr (alone (line ++ one_more) y))
          (line_kind_open label h.some Indentation.None 0 line q)
  block_open n (beside {line} {ls} {ls'} b g) e =
      go (line_kind label false Indentation.None 0 line) refl (λ z. block_open (n + length line) g z) e
    where
      go : (k : Line) → line_kind label false Indentation.None 0 line ≡ k
          → (block label false (n + length line) ls ≡ Open
          → (block label true (n + length line) ls ≡ Missing (n + length line + total ls))
          ⊎ (block label true (n + length line) ls' ≡ Missing (n + length line + total ls')))
          → told k n line (block label false (n + length line) ls) ≡ Open
          → (block label true n (line ∷ ls) ≡ Missing (n + (length line + total ls)))
          ⊎ (block label true n (line ∷ ls') ≡ Missing (n + (length line + total ls')))
      go (Line.Closes ind amount) q ih z = clash cc
      go Line.Body q ih z =
          let same : line_kind label true Indentation.None 0 line ≡ Line.Body = line_alike line (λ y. body_told (sym q ∙ y)) ∙ q in
          ⊎_elim (λ y. inl (missed n line ls same y)) (λ y. inr (missed n line ls' same y))
          (ih (open_with_line line (block label false (n + length line) ls) z))
      go Line.Undecided q ih z = absurd (line_kind_told label h.identifiers Indentation.None 0 line (line-break line b) q)

-- ---- the reading

-- a block that is closed neither waits nor misses its closing line, and enters no frame
abbrev Tells : Reading → Type 0
Tells (Reading.Text value stop from after) = enters stop ≡ false
Tells (Reading.Refused refusal place) = refusal ≡ Refusal.UnexpectedEndOfFile → ⊥
Tells Reading.Wait = ⊥

filled_tells : (t : Text) (ind : Indentation) (amount place after : ℕ) → Tells (filled t ind amount place after)
unfolding filled
filled_tells (Kept text) ind amount place after = refl
filled_tells (Stray p) ind amount place after = λ e. cc

stripped_tells : (size n : ℕ) (body : List (List ℕ)) (ind : Indentation) (amount place : ℕ)
    → Tells (stripped size n body ind amount place)
unfolding stripped
stripped_tells size n body Indentation.None amount place = filled_tells _ _ _ _ _
stripped_tells size n body Indentation.Space amount place = filled_tells _ _ _ _ _
stripped_tells size n body Indentation.Tab amount place = filled_tells _ _ _ _ _
stripped_tells size n body Indentation.Mixed amount place = λ e. cc

tells_missing : (p : ℕ) (r : Reading) (q : ℕ) → Tells r → ending p r ≡ Reading.Refused Refusal.UnexpectedEndOfFile q → ⊥
tells_missing p (Reading.Text value stop from after) q t e =
    let z : Reading.Text [] Stop.Quote 0 0 ≡ Reading.Refused Refusal.UnexpectedEndOfFile q = rw t at e in
    clash cc
tells_missing p (Reading.Refused refusal place) q t e = t (let z : refusal ≡ Refusal.UnexpectedEndOfFile = cc in z)
tells_missing p Reading.Wait q t e = t

answered_wait : (size n : ℕ) (b : Block) → answered size n b ≡ Reading.Wait → b ≡ Open
unfolding answered
answered_wait size n (Closed body ind amount place) e =
    let t : Tells Reading.Wait = rw e at (stripped_tells size n body ind amount place) in
    absurd t
answered_wait size n (Missing place) e = clash cc
answered_wait size n Open e = refl

answered_missing : (p size n : ℕ) (b : Block) (q : ℕ) → ending p (answered size n b) ≡ Reading.Refused Refusal.UnexpectedEndOfFile q → b ≡ Missing q
unfolding answered
answered_missing p size n (Closed body ind amount place) q e =
    absurd (tells_missing p (stripped size n body ind amount place) q (stripped_tells size n body ind amount place) e)
answered_missing p size n (Missing place) q e = let z : place ≡ q = cc in ap Missing z
answered_missing p size n Open q e = let z : ◌≡◌ {A = ℕ} 0 1 = cc in clash z

is-wait : (r : Reading) → Dec (r ≡ Reading.Wait)
is-wait (Reading.Text value stop from after) = no (λ (z : Reading.Text value stop from after ≡ Reading.Wait). clash cc)
is-wait (Reading.Refused refusal place) = no (λ (z : Reading.Refused refusal place ≡ Reading.Wait). clash cc)
is-wait Reading.Wait = yes refl

module _ (label : List ℕ) (h : Label label) (n : ℕ) where
  pub sheet_stays : (part : List ℕ) → (sheet_at label false n part ≡ Reading.Wait → ⊥) → (rest : List ℕ)
      → sheet_at label true n (part ++ rest) ≡ sheet_at label false n part
  unfolding sheet_at answered
  sheet_stays part k rest =
      ap (answered (length label) n) (block_stays label h n (lines-append part rest) (λ z. k (rw z)))

  -- no sheet is refused so but where its text ends
  missing_place : (p : ℕ) (xs : List ℕ) (q : ℕ) → ending p (sheet_at label true n xs) ≡ Reading.Refused Refusal.UnexpectedEndOfFile q → q ≡ n + length xs
  unfolding sheet_at
  missing_place p xs q e =
      let m : block label true n (lines xs) ≡ Missing q = answered_missing p (length label) n _ q e in
      let z : q ≡ n + total (lines xs) = rw m at (block_stands label true n (lines_lined xs)) in
      omega (arith, total_lines xs)

  -- an open block is refused where the text ends, or after one identifier byte more
  sheet_open : (part : List ℕ) → sheet_at label false n part ≡ Reading.Wait
      → (sheet_at label true n part ≡ Reading.Refused Refusal.UnexpectedEndOfFile (n + length part))
      ⊎ (sheet_at label true n (part ++ one_more) ≡ Reading.Refused Refusal.UnexpectedEndOfFile (n + length (part ++ one_more)))
  unfolding sheet_at answered
  sheet_open part k =
      ⊎_elim (λ y. inl (missed part y)) (λ y. inr (missed (part ++ one_more) y))
      (block_open label h n (lines_grown part) (answered_wait (length label) n _ k))
    where
      missed : (xs : List ℕ) → block label true n (lines xs) ≡ Missing (n + total (lines xs))
          → answered (length label) n (block label true n (lines xs)) ≡ Reading.Refused Refusal.UnexpectedEndOfFile (n + length xs)
      missed xs e = rw (e, total_lines xs)

  -- the text as it is, and with one byte more
  pub sheet_endings : (p : ℕ) (part : List ℕ) → sheet_at label false n part ≡ Reading.Wait
      → Apart (λ xs. ending p (sheet_at label true n xs)) part
  unfolding every
  sheet_endings p part k =
      record {
        one = [];
        two = one_more;
        one_bytes = refl;
        two_bytes = refl;
        apart = λ z. go (rw append-nil at z) (sheet_open part k);
      }
    where
      go : ending p (sheet_at label true n part) ≡ ending p (sheet_at label true n (part ++ one_more))
          → (sheet_at label true n part ≡ Reading.Refused Refusal.UnexpectedEndOfFile (n + length part))
          ⊎ (sheet_at label true n (part ++ one_more) ≡ Reading.Refused Refusal.UnexpectedEndOfFile (n + length (part ++ one_more)))
          → ⊥
      go z (inl e) = omega (arith, missing_place p (part ++ one_more) (n + length part) (sym z ∙ ap (ending p) e), length-append part one_more)
      go z (inr e) = omega (arith, missing_place p part (n + length (part ++ one_more)) (z ∙ ap (ending p) e), length-append part one_more)

  sheet_apart : (part : List ℕ) → sheet_at label false n part ≡ Reading.Wait → Apart (sheet_at label true n) part
  sheet_apart part k =
      apart_by (λ xs. ending n (sheet_at label true n xs)) (sheet_at label true n) part part (λ one two e. ap (ending n) e)
      (sheet_endings n part k)

pub sheet_waits : (label : List ℕ) → Label label → (n : ℕ) (part : List ℕ)
    → Waits Reading.Wait (sheet_at label false n) (sheet_at label true n) part
sheet_waits label h n part = waits Reading.Wait _ _ part (is-wait _) (sheet_stays label h n part) (sheet_apart label h n part)

-- ---- with the end announced nothing waits

block_told : (label : List ℕ) (n : ℕ) (ls : List (List ℕ)) → block label true n ls ≡ Open → ⊥
unfolding block told
block_told label n [] e = clash cc
block_told label n (line ∷ later) e =
    go (line_kind label true Indentation.None 0 line) (line_kind_ended label Indentation.None 0 line)
    (block_told label (n + length line) later) e
  where
    go : (k : Line) → (k ≡ Line.Undecided → ⊥) → (block label true (n + length line) later ≡ Open → ⊥)
        → told k n line (block label true (n + length line) later) ≡ Open → ⊥
    go (Line.Closes ind amount) t ih z = clash cc
    go Line.Body t ih z = ih (open_with_line line _ z)
    go Line.Undecided t ih z = t refl

pub sheet_never_waits : (label : List ℕ) (n : ℕ) (xs : List ℕ) → sheet_at label true n xs ≡ Reading.Wait → ⊥
unfolding sheet_at
sheet_never_waits label n xs e = block_told label n (lines xs) (answered_wait (length label) n _ e)
