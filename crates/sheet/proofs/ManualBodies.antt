-- What is left of one line and of a body, as the manual has it and as the sheet reading has it.
--   SameLeft, same_left   a line without its indentation
--   SameBody              the lines of a body in both words, each with its break
--   SameText, same_text   a body without its indentation and its last break
-- Assumes nothing.
use Rattle.std.specs.Prelude.{if◌then◌else◌}
use Prim.Native.Nat.{ℕ, suc, ◌+◌, ◌≤◌, ◌<◌}
use Prim.Native.Char.{code}
use mathlib.Core.Path.{◌≡◌, refl, sym, ap, ◌∙◌}
use mathlib.Core.Bool.{Bool, true, false, ◌&&◌, false≢true}
use mathlib.Core.List.{List, [], ◌∷◌, ◌++◌, append-nil}
use native.Mathlib.Omega.{arith}
use lib.Dec.{eqb, leb-zero, leb-suc-zero, leb-suc-suc}
use lib.ListN.{length, length-append}
use borrow.Author.Tests.{eqb-true, eq-eqb, ne_eqb}
use Rattle.byte.specs.Words.{◌is◌, run, every}
use Rattle.byte.specs.Bytes.{is_blank}
use Rattle.byte.proofs.Tests.{&&-left, &&-right, ||-neither}
use Rattle.sheet.specs.Bodies.{Text, Indent, is_break, is_over, unindented, followed, body_text, unbroken}
use Rattle.sheet.specs.Manual.{Line, is_prefix, Left, without, joined, text_of, empty_line}
use Rattle.sheet.proofs.Bodies.{blank_lf, blank_cr}
use Rattle.sheet.proofs.Lines.{total}
use Rattle.sheet.proofs.ManualLines.{Ended, lf, crlf, Clean, over, on, whole, is_over_line}

-- ---- what is left of one line

-- the same text before the line's break; or an error, which the reading tells by a byte of the line
data SameLeft (n hi : ℕ) (newline : List ℕ) : Left → Text → Type 0 where
  kept : {t : List ℕ} → Clean newline t → SameLeft n hi newline (Left.Kept t) (Text.Kept (t ++ newline))
  wrong : {p : ℕ} → n ≤ p → p < hi → SameLeft n hi newline Left.Wrong (Text.Stray p)

left_on : {n : ℕ} (size : ℕ) {newline : List ℕ} {l : Left} {t : Text} → SameLeft (suc n) (suc n + size) newline l t
    → SameLeft n (n + suc size) newline l t
left_on size (kept c) = kept c
left_on size (wrong {p} h k) = wrong {p = p} (omega arith) (omega arith)

abbrev pub indent : ℕ → ℕ → Indent
indent blank width = record { blank = blank; width = width }

pub unindented_none : (blank n : ℕ) (line : List ℕ) → unindented (indent blank 0) n line ≡ Text.Kept line
unfolding unindented
unindented_none blank n line = rw leb-zero

module _ (blank n b : ℕ) (line : List ℕ) (width : ℕ) where
  unindented_on : eqb blank b ≡ true
      → unindented (indent blank (suc width)) n (b ∷ line) ≡ unindented (indent blank width) (suc n) line
  unfolding unindented run
  unindented_on e =
      let z : n + suc (run (eqb blank) line) ≡ suc n + run (eqb blank) line = omega arith in
      rw (e, leb-suc-suc, z)

  unindented_over : eqb blank b ≡ false → is_over (b ∷ line) ≡ true
      → unindented (indent blank (suc width)) n (b ∷ line) ≡ Text.Kept (b ∷ line)
  unfolding unindented run
  unindented_over e o = rw (e, leb-suc-zero, o)

  unindented_stray : eqb blank b ≡ false → is_over (b ∷ line) ≡ false
      → unindented (indent blank (suc width)) n (b ∷ line) ≡ Text.Stray (n + 0)
  unfolding unindented run
  unindented_stray e o = rw (e, leb-suc-zero, o)

eqb_back : (b c : ℕ) (t : Bool) → eqb b c ≡ t → eqb c b ≡ t
eqb_back b c true e = eq-eqb c b (sym (eqb-true b c e))
eqb_back b c false e = ne_eqb c b (λ z. false≢true (sym e ∙ eq-eqb b c (sym z)))

if_alike : {A : Type 0} (t : Bool) (a : A) → (if t then a else a) ≡ a
if_alike true a = refl
if_alike false a = refl

module _ (b c : ℕ) (bs text : List ℕ) where
  without_on : eqb b c ≡ true → without empty_line (b ∷ bs) (c ∷ text) ≡ without empty_line bs text
  unfolding without is_prefix
  without_on e =
      rw (e, eqb_back b c true e, if_alike (eqb (length (c ∷ text)) 0) empty_line)
      (rw (if_alike (eqb (length text) 0) empty_line))

  without_wrong : eqb b c ≡ false → without empty_line (b ∷ bs) (c ∷ text) ≡ Left.Wrong
  unfolding without is_prefix
  without_wrong e = rw (e, eqb_back b c false e)

module _ (blank : ℕ) (h : is_blank blank ≡ true) where
  same_empty : (n width : ℕ) {newline : List ℕ} → Ended newline
      → unindented (indent blank (suc width)) n newline ≡ Text.Kept newline
  unfolding is_over is_break
  same_empty n width lf = unindented_over blank n (code "\n") [] width (blank_lf blank h) refl
  same_empty n width crlf = unindented_over blank n (code "\r") (code "\n" ∷ []) width (blank_cr blank h) refl

  same_left : (n : ℕ) (bs : List ℕ) {text newline : List ℕ} → every (eqb blank) bs ≡ true → Ended newline
      → Clean newline text
      → SameLeft n (n + length (text ++ newline)) newline (without empty_line bs text)
      (unindented (indent blank (length bs)) n (text ++ newline))
  unfolding without is_prefix every
  same_left n [] {text} {newline} p e c = rw (unindented_none blank n (text ++ newline)) (kept c)
  same_left n (b ∷ bs) p e over = rw (same_empty n (length bs) e) (kept over)
  same_left n (b ∷ bs) {newline} p e (on {b = c} {text} o k) =
      go (eqb blank c) refl (same_left (suc n) bs (&&-right (eqb blank b) (every (eqb blank) bs) p) e k)
    where
      first : blank ≡ b
      first = eqb-true blank b (&&-left (eqb blank b) (every (eqb blank) bs) p)

      go : (t : Bool) → eqb blank c ≡ t
          → SameLeft (suc n) (suc n + length (text ++ newline)) newline (without empty_line bs text)
          (unindented (indent blank (length bs)) (suc n) (text ++ newline))
          → SameLeft n (n + suc (length (text ++ newline))) newline (without empty_line (b ∷ bs) (c ∷ text))
          (unindented (indent blank (suc (length bs))) n (c ∷ (text ++ newline)))
      go true q later =
          rw (without_on b c bs text (rw first at q), unindented_on blank n c (text ++ newline) (length bs) q)
          (left_on (length (text ++ newline)) later)
      go false q later =
          rw (without_wrong b c bs text (rw first at q), unindented_stray blank n c (text ++ newline) (length bs) q o)
          (wrong {p = n + 0} (omega arith) (omega arith))

-- ---- what is left of a body

unbroken_on : (b : ℕ) (ys : List ℕ) → is_over (b ∷ ys) ≡ false → unbroken (b ∷ ys) ≡ b ∷ unbroken ys
unfolding unbroken is_over is_break
unbroken_on b [] o = rw (||-neither (b is "\n") (b is "\r" && false) o).0
unbroken_on b (c ∷ []) o = rw (||-neither (b is "\n") (b is "\r" && c is "\n") o).1
unbroken_on b (c ∷ d ∷ rest) o = refl

-- the last break goes
unbroken_last : {newline text : List ℕ} → Ended newline → Clean newline text → unbroken (text ++ newline) ≡ text
unfolding unbroken
unbroken_last lf over = refl
unbroken_last crlf over = refl
unbroken_last {newline} e (on {b} {text} o c) =
    unbroken_on b (text ++ newline) o ∙ ap (λ (r : List ℕ). b ∷ r) (unbroken_last e c)

-- one before other bytes stays
unbroken_newline : {newline : List ℕ} (more : List ℕ) → 0 < length more → Ended newline
    → unbroken (newline ++ more) ≡ newline ++ unbroken more
unfolding unbroken
unbroken_newline [] h e = absurd (omega arith)
unbroken_newline (b ∷ []) h lf = refl
unbroken_newline (b ∷ []) h crlf = refl
unbroken_newline (b ∷ c ∷ more) h lf = refl
unbroken_newline (b ∷ c ∷ more) h crlf = refl

unbroken_line : {newline text : List ℕ} (more : List ℕ) → 0 < length more → Ended newline → Clean newline text
    → unbroken ((text ++ newline) ++ more) ≡ text ++ newline ++ unbroken more
unbroken_line more h e over = unbroken_newline more h e
unbroken_line {newline} more h e (on {b} {text} o c) =
    unbroken_on b ((text ++ newline) ++ more) (is_over_line b text more e ∙ o)
    ∙ ap (λ (r : List ℕ). b ∷ r) (unbroken_line more h e c)

-- the lines of a body, each with its break
pub data SameBody : List (List ℕ) → List Line → Type 0 where
  none : SameBody [] []
  broken : {line : Line} {ls : List (List ℕ)} {more : List Line} → Ended line.newline
      → Clean line.newline line.text → SameBody ls more → SameBody (whole line ∷ ls) (line ∷ more)

pub body_snoc : {ls : List (List ℕ)} {more : List Line} (line : Line) → Ended line.newline
    → Clean line.newline line.text → SameBody ls more → SameBody (ls ++ (whole line ∷ [])) (more ++ (line ∷ []))
body_snoc line e c none = broken e c none
body_snoc line e c (broken f d s) = broken f d (body_snoc line e c s)

-- the same text, without the last break; or an error, at one of the bytes
pub data SameText (n hi : ℕ) : Left → Text → Type 0 where
  kept : {t x : List ℕ} → (n < hi → 0 < length x) → unbroken x ≡ t → SameText n hi (Left.Kept t) (Text.Kept x)
  wrong : {p : ℕ} → n ≤ p → p < hi → SameText n hi Left.Wrong (Text.Stray p)

break_some : {newline : List ℕ} (text : List ℕ) → Ended newline → 0 < length (text ++ newline)
break_some [] lf = omega arith
break_some [] crlf = omega arith
break_some (b ∷ text) e = omega arith

text_last : {n hi : ℕ} {newline : List ℕ} {l : Left} {t : Text} → Ended newline → SameLeft n hi newline l t
    → SameText n hi (joined l [] (Left.Kept [])) (followed t (Text.Kept []))
unfolding joined followed
text_last {newline} e (SameLeft.kept {t} c) =
    simp append-nil (kept (λ z. break_some t e) (unbroken_last e c))
text_last e (SameLeft.wrong h k) = wrong h k

text_line : {n m hi : ℕ} {newline : List ℕ} {l later : Left} {t u : Text} → n ≤ m → m < hi → Ended newline
    → SameLeft n m newline l t → SameText m hi later u → SameText n hi (joined l newline later) (followed t u)
unfolding joined followed
text_line {newline} h g e (SameLeft.kept {t} c) (SameText.kept {x} some same) =
    kept {x = (t ++ newline) ++ x} (λ z. omega (arith, length-append (t ++ newline) x, some g))
    (unbroken_line x (some g) e c ∙ ap (λ (r : List ℕ). t ++ newline ++ r) same)
text_line h g e (SameLeft.kept c) (SameText.wrong {p} j k) = wrong {p = p} (omega arith) k
text_line h g e (SameLeft.wrong {p} j k) s = wrong {p = p} j (omega arith)

module _ (blank : ℕ) (h : is_blank blank ≡ true) (bs : List ℕ) (p : every (eqb blank) bs ≡ true) where
  pub same_text : (n : ℕ) {ls : List (List ℕ)} {body : List Line} → SameBody ls body
      → SameText n (n + total ls) (text_of empty_line bs body) (body_text (indent blank (length bs)) n ls)
  unfolding text_of body_text total unbroken
  same_text n none = kept (λ z. absurd (omega arith)) refl
  same_text n (broken {line} e c none) =
      let z : n + (length (whole line) + 0) ≡ n + length (whole line) = omega arith in
      rw z (text_last e (same_left blank h n bs p e c))
  same_text n (broken {line} e c (broken {line = next} {ls} f d s)) =
      let m = n + length (whole line) in
      let z : m + total (whole next ∷ ls)
      ≡ n + (length (whole line) + total (whole next ∷ ls)) = omega arith in
      text_line (omega arith) (omega (arith, break_some next.text f)) e (same_left blank h n bs p e c)
      (rw z at (same_text m (broken f d s)))
