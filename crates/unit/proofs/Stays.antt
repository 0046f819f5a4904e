-- What is told of a place stays, whatever bytes follow: one law for each look ahead, in the definitions' order, last
--   unit_stays   where `unit_at m label false n b rest` is not undecided, `unit_at m label true n b (rest ++ more)` is
--                the same
-- Each law is its definition again, with `if_stays` for a choice. Assumes nothing.
use Rattle.std.specs.Prelude.{if◌then◌else◌, Option, None}
use mathlib.Core.Path.{◌≡◌, refl, ap}
use mathlib.Core.Bool.{Bool, true, false}
use mathlib.Core.List.{List, [], ◌∷◌, ◌++◌}
use Prim.Native.Nat.{ℕ, zero, suc, ◌+◌, ◌*◌, ◌<◌}
use native.Mathlib.Omega.{arith}
use lib.Dec.{ltb, eqb}
use lib.ListN.{length}
use Rattle.byte.specs.declared.Octal.{Octal}
use Rattle.byte.specs.Words.{◌is◌}
use Rattle.byte.specs.Bytes.{is_start, is_identifier, is_blank}
use Rattle.unit.specs.declared.Follow.{Follow}
use Rattle.unit.specs.declared.Indentation.{Indentation}
use Rattle.unit.specs.declared.Match.{Match}
use Rattle.unit.specs.declared.Mode.{Mode}
use Rattle.unit.specs.declared.TextUnit.{TextUnit}
use Rattle.unit.specs.Digits.{digit_value}
use Rattle.unit.specs.Escapes.{letter_value, digits, hex, code_point, braced, escape, quote_escape}
use Rattle.unit.specs.Interpolations.{property, arrow, question_arrow, follow, variable, name, dollar, brace}
use Rattle.unit.specs.Interpolations.{find_dollar, find_brace}
use Rattle.unit.specs.Closers.{matched, indented, judged, line}
use Rattle.unit.specs.Labels.{Labelled}
use Rattle.unit.specs.Units.{unit_at}

-- u is undecided, or u' says the same
abbrev pub Stays : {A : Type 0} → A → A → A → Type 0
Stays undecided u u' = (u ≡ undecided → ⊥) → u' ≡ u

abbrev UnitStays : TextUnit → TextUnit → Type 0
UnitStays u u' = Stays TextUnit.Undecided u u'

abbrev LookStays : Option Follow → Option Follow → Type 0
LookStays l l' = Stays None l l'

pub if_stays : {A : Type 0} {o u u' v v' : A} (t : Bool) → Stays o u u' → Stays o v v'
    → Stays o (if t then u else v) (if t then u' else v')
if_stays true s r k = s k
if_stays false s r k = r k

same : {A : Type 0} {o u : A} → Stays o u u
same k = refl

-- two constructors are not equal
pub clash : {A : Type 0} → ◌≡◌ {A = ℕ} 0 1 → A
clash e = absurd (omega arith)

-- ---- escapes

digits_stays : (octals : Octal) (base left value n : ℕ) (xs more : List ℕ)
    → UnitStays (digits octals false base left value n xs) (digits octals true base left value n (xs ++ more))
unfolding digits
digits_stays octals base zero value n xs more k = refl
digits_stays octals base (suc left) value n [] more k = absurd (k refl)
digits_stays octals base (suc left) value n (b ∷ xs) more k =
    if_stays (ltb (digit_value b) base)
    (digits_stays octals base left (value * base + digit_value b) (suc n) xs more) same k

hex_stays : (octals : Octal) (p : ℕ) (xs more : List ℕ)
    → UnitStays (hex octals false p xs) (hex octals true p (xs ++ more))
unfolding hex
hex_stays octals p [] more k = absurd (k refl)
hex_stays octals p (b ∷ xs) more k =
    if_stays (ltb (digit_value b) 16) (digits_stays octals 16 1 (digit_value b) (suc (suc p)) xs more) same k

code_point_stays : (some : Bool) (value n : ℕ) (xs more : List ℕ)
    → UnitStays (code_point false some value n xs) (code_point true some value n (xs ++ more))
unfolding code_point
code_point_stays some value n [] more k = absurd (k refl)
code_point_stays some value n (b ∷ xs) more k =
    if_stays (ltb (digit_value b) 16) (code_point_stays true (value * 16 + digit_value b) (suc n) xs more) same k

braced_stays : (p : ℕ) (xs more : List ℕ) → UnitStays (braced false p xs) (braced true p (xs ++ more))
unfolding braced
braced_stays p [] more k = absurd (k refl)
braced_stays p (b ∷ xs) more k = if_stays (b is "{") (code_point_stays false 0 (suc (suc p)) xs more) same k

pub escape_stays : (octals : Octal) (p : ℕ) (xs more : List ℕ)
    → UnitStays (escape octals false p xs) (escape octals true p (xs ++ more))
unfolding escape
escape_stays octals p [] more k = absurd (k refl)
escape_stays octals p (b ∷ xs) more k =
    if_stays (ltb (letter_value b) 256) same
    (if_stays (ltb (digit_value b) 8) (digits_stays octals 8 2 (digit_value b) (suc p) xs more)
    (if_stays (b is "x") (hex_stays octals p xs more) (if_stays (b is "u") (braced_stays p xs more) same)))
    k

pub quote_escape_stays : (p : ℕ) (xs more : List ℕ) → UnitStays (quote_escape false p xs) (quote_escape true p (xs ++ more))
unfolding quote_escape
quote_escape_stays p [] more k = absurd (k refl)
quote_escape_stays p (b ∷ xs) more k = refl

-- ---- interpolations

property_stays : (xs more : List ℕ) → LookStays (property false xs) (property true (xs ++ more))
unfolding property
property_stays [] more k = absurd (k refl)
property_stays (b ∷ xs) more k = refl

arrow_stays : (xs more : List ℕ) → LookStays (arrow false xs) (arrow true (xs ++ more))
unfolding arrow
arrow_stays [] more k = absurd (k refl)
arrow_stays (b ∷ xs) more k = if_stays (b is ">") (property_stays xs more) same k

question_arrow_stays : (xs more : List ℕ) → LookStays (question_arrow false xs) (question_arrow true (xs ++ more))
unfolding question_arrow
question_arrow_stays [] more k = absurd (k refl)
question_arrow_stays (b ∷ xs) more k = if_stays (b is "-") (arrow_stays xs more) same k

pub follow_stays : (xs more : List ℕ) → LookStays (follow false xs) (follow true (xs ++ more))
unfolding follow
follow_stays [] more k = absurd (k refl)
follow_stays (b ∷ xs) more k =
    if_stays (b is "[") same
    (if_stays (b is "-") (arrow_stays xs more) (if_stays (b is "?") (question_arrow_stays xs more) same))
    k

variable_stays : (from n : ℕ) (l l' : Option Follow) → LookStays l l' → UnitStays (variable from n l) (variable from n l')
unfolding variable
variable_stays from n l l' s k = ap (variable from n) (s (λ z. k (rw z)))

name_stays : (from n : ℕ) (xs more : List ℕ) → UnitStays (name false from n xs) (name true from n (xs ++ more))
unfolding name follow variable
name_stays from n [] more k = absurd (k refl)
name_stays from n (b ∷ xs) more k =
    if_stays (is_identifier b) (name_stays from (suc n) xs more) (variable_stays from n _ _ (follow_stays (b ∷ xs) more)) k

pub dollar_stays : (n : ℕ) (xs more : List ℕ) → UnitStays (dollar false n xs) (dollar true n (xs ++ more))
unfolding dollar
dollar_stays n [] more k = absurd (k refl)
dollar_stays n (b ∷ xs) more k = if_stays (b is "{") same (if_stays (is_start b) (name_stays n (suc (suc n)) xs more) same) k

pub brace_stays : (n : ℕ) (xs more : List ℕ) → UnitStays (brace false n xs) (brace true n (xs ++ more))
unfolding brace
brace_stays n [] more k = absurd (k refl)
brace_stays n (b ∷ xs) more k = refl

pub find_dollar_stays : (n : ℕ) (xs more : List ℕ) → UnitStays (find_dollar false n xs) (find_dollar true n (xs ++ more))
unfolding find_dollar
find_dollar_stays n [] more k = absurd (k refl)
find_dollar_stays n (b ∷ xs) more k = refl

pub find_brace_stays : (n : ℕ) (xs more : List ℕ) → UnitStays (find_brace false n xs) (find_brace true n (xs ++ more))
unfolding find_brace
find_brace_stays n [] more k = absurd (k refl)
find_brace_stays n (b ∷ xs) more k = refl

-- ---- closers

pub matched_stays : (label ys more : List ℕ) → Stays Match.Undecided (matched label ys) (matched label (ys ++ more))
unfolding matched
matched_stays [] ys more k = refl
matched_stays (a ∷ label) [] more k = absurd (k refl)
matched_stays (a ∷ label) (y ∷ ys) more k = if_stays (eqb a y) (matched_stays label ys more) same k

judged_stays : (n : ℕ) (u : TextUnit) (m m' : Match) → Stays Match.Undecided m m'
    → UnitStays (judged m false n u) (judged m' true n u)
unfolding judged
judged_stays n u Match.Whole m' s k = rw (s (λ (z : Match.Whole ≡ Match.Undecided). clash cc))
judged_stays n u Match.Other m' s k = rw (s (λ (z : Match.Other ≡ Match.Undecided). clash cc))
judged_stays n u Match.Undecided m' s k = absurd (k refl)

pub line_stays : (label : List ℕ) → 0 < length label → (n : ℕ) (ind : Indentation) (amount : ℕ) (xs more : List ℕ)
    → UnitStays (line label false n ind amount xs) (line label true n ind amount (xs ++ more))
unfolding line matched judged
line_stays [] h n ind amount xs more k = absurd (omega arith)
line_stays (a ∷ label) h n ind amount [] more k = absurd (k refl)
line_stays (a ∷ label) h n ind amount (b ∷ xs) more k =
    if_stays (is_blank b) (line_stays (a ∷ label) h n (indented ind b) (suc amount) xs more)
    (judged_stays n _ _ _ (matched_stays (a ∷ label) (b ∷ xs) more))
    k

-- ---- the six modes

pub unit_stays : (m : Mode) (label : List ℕ) → Labelled m label → (n b : ℕ) (rest more : List ℕ)
    → Stays TextUnit.Undecided (unit_at m label false n b rest) (unit_at m label true n b (rest ++ more))
unfolding unit_at
unit_stays Mode.Single label h n b rest more =
    if_stays (b is "'") same
    (if_stays (b is "\\") (quote_escape_stays (suc n) rest more) same)
unit_stays (Mode.Double octals) label h n b rest more =
    if_stays (b is "\"") same
    (if_stays (b is "\\") (escape_stays octals (suc n) rest more)
    (if_stays (b is "$") (find_dollar_stays n rest more) (if_stays (b is "{") (find_brace_stays n rest more) same)))
unit_stays (Mode.DoubleQuote octals) label h n b rest more =
    if_stays (b is "\"") same
    (if_stays (b is "\\") (escape_stays octals (suc n) rest more)
    (if_stays (b is "$") (dollar_stays n rest more) (if_stays (b is "{") (brace_stays n rest more) same)))
unit_stays Mode.ShellExec label h n b rest more =
    if_stays (b is "`") same
    (if_stays (b is "$") (dollar_stays n rest more) (if_stays (b is "{") (brace_stays n rest more) same))
unit_stays (Mode.Heredoc octals) label h n b rest more =
    if_stays (b is "\n") (line_stays label h.some n Indentation.None 0 rest more)
    (if_stays (b is "\\") (escape_stays octals (suc n) rest more)
    (if_stays (b is "$") (dollar_stays n rest more) (if_stays (b is "{") (brace_stays n rest more) same)))
unit_stays Mode.Nowdoc label h n b rest more =
    if_stays (b is "\n") (line_stays label h.some n Indentation.None 0 rest more) same
