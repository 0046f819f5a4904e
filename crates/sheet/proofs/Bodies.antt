-- What is left of a body of whole lines: it ends in the break that the body ends in, so the code finds the last break in the source.
--   keeps_line       a line without its indentation is a line with the same break
--   body_break       what is left of lines ends in their last break
--   unbroken_break   a text without its last break has so many bytes less
-- Assumes nothing.
use Rattle.std.specs.Prelude.{if◌then◌else◌}
use Prim.Native.Nat.{ℕ, zero, suc, ◌+◌, ◌<◌, ◌≤◌}
use Prim.Native.Char.{code}
use mathlib.Core.Path.{◌≡◌, refl, sym, ◌∙◌}
use mathlib.Core.Bool.{Bool, true, false, ◌&&◌, false≢true}
use mathlib.Core.List.{List, [], ◌∷◌, ◌++◌, append-nil}
use native.Mathlib.Omega.{arith}
use lib.Dec.{eqb}
use lib.ListN.{length, drop, length-append}
use borrow.Author.Tests.{eqb-true}
use Rattle.byte.specs.Words.{◌is◌, run, every}
use Rattle.byte.specs.Bytes.{is_blank}
use Rattle.byte.proofs.Tests.{&&-left, &&-right}
use Rattle.unit.proofs.Openings.{other_byte}
use Rattle.sheet.specs.Bodies.{Indent, Text, Kept, Stray, followed, body_text, unbroken}
use Rattle.sheet.specs.Code.{offset_of, is_stray, break_of, is_line}
use Rattle.sheet.proofs.Lines.{flat}
use Rattle.sheet.proofs.Turns.{unindented_parts}

-- ---- the last break

pub unbroken_break : (xs : List ℕ) → length (unbroken xs) + break_of false xs ≡ length xs
unfolding unbroken break_of
unbroken_break [] = refl
unbroken_break (b ∷ []) = go (b is "\n")
  where
    go : (t : Bool) → length (if t then [] else b ∷ []) + (if t then 1 else 0) ≡ 1
    go true = refl
    go false = refl
unbroken_break (b ∷ c ∷ []) = go (b is "\r") (c is "\n")
  where
    go : (r t : Bool)
        → length (if r && t then [] else b ∷ (if t then [] else c ∷ [])) + (if t then (if r then 2 else 1) else 0) ≡ 2
    go true true = refl
    go true false = refl
    go false true = refl
    go false false = refl
unbroken_break (b ∷ c ∷ d ∷ rest) = omega (arith, unbroken_break (c ∷ d ∷ rest))

lf_cr : (b : ℕ) → (b is "\n") ≡ true → (b is "\r") ≡ false
lf_cr b h = other_byte (λ x. x is "\n") (code "\r") b refl h

-- after a line, what follows decides
break_of_line : (cr : Bool) (line : List ℕ) (b : ℕ) (rest : List ℕ) → is_line line ≡ true
    → break_of cr (line ++ (b ∷ rest)) ≡ break_of false (b ∷ rest)
unfolding break_of is_line
break_of_line cr [] b rest h = absurd (false≢true h)
break_of_line cr (a ∷ []) b rest h = rw (lf_cr a h)
break_of_line cr (a ∷ c ∷ line) b rest h = go (a is "\n") (break_of_line (a is "\r") (c ∷ line) b rest) h
  where
    go : (t : Bool)
        → (is_line (c ∷ line) ≡ true → break_of (a is "\r") ((c ∷ line) ++ (b ∷ rest)) ≡ break_of false (b ∷ rest))
        → (if t then false else is_line (c ∷ line)) ≡ true
        → break_of (a is "\r") ((c ∷ line) ++ (b ∷ rest)) ≡ break_of false (b ∷ rest)
    go true ih e = absurd (false≢true e)
    go false ih e = ih e

line_some : (line : List ℕ) → is_line line ≡ true → 0 < length line
unfolding is_line
line_some [] h = absurd (false≢true h)
line_some (b ∷ rest) h = omega arith

-- a blank is no break
pub blank_lf : (b : ℕ) → is_blank b ≡ true → (b is "\n") ≡ false
unfolding is_blank
blank_lf b h = other_byte (λ x. is_blank x) (code "\n") b refl h

pub blank_cr : (b : ℕ) → is_blank b ≡ true → (b is "\r") ≡ false
unfolding is_blank
blank_cr b h = other_byte (λ x. is_blank x) (code "\r") b refl h

-- ---- what is left of a line

record KeepsLine (line rest : List ℕ) : Type 0 where
  whole : is_line rest ≡ true
  same : break_of false rest ≡ break_of false line

module _ (blank : ℕ) (h : is_blank blank ≡ true) where
  keeps_line : (k : ℕ) (line : List ℕ) → is_line line ≡ true → k ≤ run (eqb blank) line → KeepsLine line (drop k line)
  unfolding run is_line break_of
  keeps_line zero line l n = record { whole = l; same = refl }
  keeps_line (suc k) [] l n = absurd (omega arith)
  keeps_line (suc k) (b ∷ []) l n = go (eqb blank b) refl n
    where
      go : (t : Bool) → eqb blank b ≡ t → suc k ≤ (if t then 1 else 0) → KeepsLine (b ∷ []) (drop k [])
      go true e m = absurd (false≢true (sym (rw (eqb-true blank b e) at (blank_lf blank h)) ∙ l))
      go false e m = absurd (omega arith)
  keeps_line (suc k) (b ∷ c ∷ rest) l n = go (eqb blank b) refl (keeps_line k (c ∷ rest)) n
    where
      go : (t : Bool) → eqb blank b ≡ t
          → (is_line (c ∷ rest) ≡ true → k ≤ run (eqb blank) (c ∷ rest) → KeepsLine (c ∷ rest) (drop k (c ∷ rest)))
          → suc k ≤ (if t then suc (run (eqb blank) (c ∷ rest)) else 0) → KeepsLine (b ∷ c ∷ rest) (drop k (c ∷ rest))
      go true e ih m =
          let lf : (b is "\n") ≡ false = rw (eqb-true blank b e) at (blank_lf blank h) in
          let cr : (b is "\r") ≡ false = rw (eqb-true blank b e) at (blank_cr blank h) in
          let x = ih (rw lf at l) (omega arith) in
          record { whole = x.whole; same = x.same ∙ rw cr }
      go false e ih m = absurd (omega arith)

offset_run : (ind : Indent) (line : List ℕ) → offset_of ind line ≤ run (eqb ind.blank) line
unfolding offset_of
offset_run ind line = omega arith

-- ---- what is left of a body

-- it ends in the body's last break
record SameBreak (body text : List ℕ) : Type 0 where
  some : 0 < length text
  same : break_of false text ≡ break_of false body

abbrev Breaks : List ℕ → Text → Type 0
Breaks body (Kept text) = SameBreak body text
Breaks body (Stray p) = Unit {0}

breaks_first : (line rest : List ℕ) → KeepsLine line rest → Breaks (line ++ []) (followed (Kept rest) (Kept []))
unfolding followed
breaks_first line rest k =
    record { some = omega (arith, length-append rest [], line_some rest k.whole); same = rw (append-nil rest, append-nil line) k.same }

breaks_lines : (line rest later : List ℕ) (t : Text) → is_line line ≡ true → KeepsLine line rest → 0 < length later → Breaks later t
    → Breaks (line ++ later) (followed (Kept rest) t)
unfolding followed
breaks_lines line rest later (Stray p) l k n b = tt
breaks_lines line rest [] (Kept text) l k n b = absurd (omega arith)
breaks_lines line rest (c ∷ later) (Kept []) l k n b = absurd (omega (arith, b.some))
breaks_lines line rest (c ∷ later) (Kept (d ∷ text)) l k n b =
    record {
      some = omega (arith, length-append rest (d ∷ text));
      same = break_of_line false rest d text k.whole ∙ b.same ∙ sym (break_of_line false line c later l);
    }

if_breaks : (t : Bool) (body : List ℕ) (p : ℕ) (x : List ℕ) (u : Text) → Breaks body (followed (Kept x) u)
    → Breaks body (followed (if t then Stray p else Kept x) u)
unfolding followed
if_breaks true body p x u b = tt
if_breaks false body p x u b = b

module _ (ind : Indent) (h : is_blank ind.blank ≡ true) where
  kept : (line : List ℕ) → is_line line ≡ true → KeepsLine line (drop (offset_of ind line) line)
  kept line l = keeps_line ind.blank h (offset_of ind line) line l (offset_run ind line)

  body_breaks : (n : ℕ) (line : List ℕ) (more : List (List ℕ)) → is_line line ≡ true → every is_line more ≡ true
      → Breaks (line ++ flat more) (body_text ind n (line ∷ more))
  unfolding body_text flat every
  body_breaks n line [] l m =
      rw (unindented_parts ind n line) (if_breaks (is_stray ind line) _ _ _ _ (breaks_first line _ (kept line l)))
  body_breaks n line (next ∷ more) l m =
      let first : is_line next ≡ true = &&-left (is_line next) (every is_line more) m in
      let later = body_breaks (n + length line) next more first (&&-right (is_line next) (every is_line more) m) in
      rw (unindented_parts ind n line)
      (if_breaks (is_stray ind line) _ _ _ _
      (breaks_lines line _ (next ++ flat more) _ l (kept line l)
      (omega (arith, length-append next (flat more), line_some next first)) later))

  body_nothing : (n : ℕ) (text : List ℕ) → body_text ind n [] ≡ Kept text → break_of false text ≡ break_of false (flat [])
  unfolding body_text flat
  body_nothing n text e =
      let y : text ≡ [] = cc in
      rw y

  body_some : (n : ℕ) (line : List ℕ) (more : List (List ℕ)) (text : List ℕ) → is_line line ≡ true → every is_line more ≡ true
      → body_text ind n (line ∷ more) ≡ Kept text → break_of false text ≡ break_of false (flat (line ∷ more))
  unfolding flat
  body_some n line more text l m e =
      let b : Breaks (line ++ flat more) (Kept text) = rw e at (body_breaks n line more l m) in
      b.same

  pub body_break : (n : ℕ) (ls : List (List ℕ)) (text : List ℕ) → every is_line ls ≡ true → body_text ind n ls ≡ Kept text
      → break_of false text ≡ break_of false (flat ls)
  unfolding every
  body_break n [] text w e = body_nothing n text e
  body_break n (line ∷ more) text w e =
      body_some n line more text (&&-left (is_line line) (every is_line more) w) (&&-right (is_line line) (every is_line more) w) e
