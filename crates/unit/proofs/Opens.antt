-- A place of which nothing is told yet has two continuations that are told apart: one law for each look ahead, in the
-- definitions' order, last
--   unit_waits   where `unit_at m label false n b rest` is undecided, `Opening (suc n) rest (unit_at m label true n b)`
-- The pairs: a 0 comes or the text ends there (`falls`, `faults`: the refusal's place tells them apart), `->a` comes or the text
-- ends (`splits`), the rest of the label comes or the text ends (`closes`). Each law is its definition again, with `if_waits` for
-- a choice. Assumes nothing.
use Rattle.std.specs.Prelude.{if◌then◌else◌, Option, Some, None}
use Rattle.byte.specs.declared.Refusal.{Refusal}
use mathlib.Core.Path.{◌≡◌, refl, ap}
use mathlib.Core.Bool.{Bool, true, false, ◌&&◌, ◌||◌}
use mathlib.Core.List.{List, [], ◌∷◌, ◌++◌}
use Prim.Native.Nat.{ℕ, zero, suc, ◌+◌, ◌*◌}
use Prim.Native.Char.{code}
use native.Mathlib.Omega.{arith}
use lib.Dec.{ltb, eqb}
use lib.ListN.{length}
use borrow.Author.Tests.{eqb-true, eq-eqb}
use Rattle.byte.specs.declared.Octal.{Octal}
use Rattle.byte.specs.Words.{◌is◌, every}
use Rattle.byte.specs.Bytes.{is_start, is_identifier, is_blank, is_letter, is_digit}
use Rattle.byte.specs.Demand.{is_byte}
use Rattle.byte.proofs.Tests.{choice, &&-left, &&-right}
use Rattle.unit.specs.declared.Follow.{Follow}
use Rattle.unit.specs.declared.Indentation.{Indentation}
use Rattle.unit.specs.declared.Match.{Match}
use Rattle.unit.specs.declared.Mode.{Mode}
use Rattle.unit.specs.declared.TextUnit.{TextUnit}
use Rattle.unit.specs.Digits.{digit_value, is_scalar}
use Rattle.unit.specs.Escapes.{letter_value, overflowing, fitted, digits, hex, code_point, braced, escape, quote_escape}
use Rattle.unit.specs.Interpolations.{property, arrow, question_arrow, follow, variable, name, dollar, brace}
use Rattle.unit.specs.Interpolations.{find_dollar, find_brace}
use Rattle.unit.specs.Closers.{matched, indented, closer, judged, line}
use Rattle.unit.specs.Labels.{Label, Labelled}
use Rattle.unit.specs.Units.{unit_at}
use Rattle.unit.proofs.Stays.{clash}
use Rattle.unit.proofs.Openings.{Plainly, Quiet, one_more, Falls, byte, fault, Faults, Splits, Final}
use Rattle.unit.proofs.Openings.{ends, crooked, Opening, falls, faults, splits, closes, Passed}
use Rattle.unit.proofs.Openings.{other_byte, one_more_quiet, byte_told, point_told, stop_told}
use Rattle.unit.proofs.Openings.{fault_told, falls_at, blank_plainly, identifier_plainly, start_plainly}
use Rattle.unit.proofs.Openings.{octal_plainly, hex_plainly, x_plainly, u_plainly, if_waits, look_told}
use Rattle.unit.proofs.Openings.{faults_on, splits_on, opens_on}

-- ---- escapes

-- a byte or a fault, and so told
fitted_falls : (octals : Octal) (value n : ℕ) (ys : List ℕ) → Quiet ys → Falls ys (fitted octals value n) n
unfolding fitted overflowing
fitted_falls Octal.Rust value n ys h = choice (λ u. Falls ys u n) (ltb value 256) _ _ (λ e. byte h) (λ e. fault)
fitted_falls Octal.Manual value n ys h = choice (λ u. Falls ys u n) (ltb value 256) _ _ (λ e. byte h) (λ e. byte h)

fitted_told : {A : Type 0} (octals : Octal) (value n : ℕ) → fitted octals value n ≡ TextUnit.Undecided → A
unfolding fitted overflowing
fitted_told {A} Octal.Rust value n =
    choice (λ u. u ≡ TextUnit.Undecided → A) (ltb value 256) _ _ (λ e. byte_told) (λ e. fault_told)
fitted_told {A} Octal.Manual value n =
    choice (λ u. u ≡ TextUnit.Undecided → A) (ltb value 256) _ _ (λ e. byte_told) (λ e. byte_told)

digits_end : (octals : Octal) (base left value n : ℕ) → digits octals true base left value n [] ≡ fitted octals value n
unfolding digits
digits_end octals base zero value n = refl
digits_end octals base (suc left) value n = refl

digits_waits : (octals : Octal) (base left value n : ℕ) (xs : List ℕ) → ltb 0 base ≡ true
    → ((b : ℕ) → ltb (digit_value b) base ≡ true → Plainly b)
    → digits octals false base left value n xs ≡ TextUnit.Undecided
    → Opening n xs (digits octals true base left value n)
unfolding digits digit_value
digits_waits octals base zero value n xs z d k = fitted_told octals value n k
digits_waits octals base (suc left) value n [] z d k =
    falls (falls_at (omega arith) (fitted_falls octals value n [] tt))
    (rw (z, digits_end octals base left (value * base + 0) (suc n))
    (falls_at (omega arith) (fitted_falls octals (value * base + 0) (suc n) one_more one_more_quiet)))
digits_waits octals base (suc left) value n (b ∷ xs) z d k =
    opens_on b
    (if_waits (Passed b (suc n) xs) (ltb (digit_value b) base)
    (λ e h. (d b e, digits_waits octals base left (value * base + digit_value b) (suc n) xs z d h))
    (fitted_told octals value n)
    k)

hex_waits : (octals : Octal) (p : ℕ) (xs : List ℕ) → hex octals false p xs ≡ TextUnit.Undecided
    → Opening (suc p) xs (hex octals true p)
unfolding hex digits fitted digit_value
hex_waits octals p [] k = falls (byte tt) (byte one_more_quiet)
hex_waits octals p (b ∷ xs) k =
    opens_on b
    (if_waits (Passed b (suc (suc p)) xs) (ltb (digit_value b) 16)
    (λ e h. (hex_plainly b e, digits_waits octals 16 1 (digit_value b) (suc (suc p)) xs refl hex_plainly h))
    byte_told
    k)

code_point_waits : (some : Bool) (value n : ℕ) (xs : List ℕ) → code_point false some value n xs ≡ TextUnit.Undecided
    → Faults n xs (code_point true some value n)
unfolding code_point digit_value
code_point_waits some value n [] k =
    record { now = ap (TextUnit.Fault Refusal.InvalidUnicodeEscape) (omega arith); later = ap (TextUnit.Fault Refusal.InvalidUnicodeEscape) (omega arith) }
code_point_waits some value n (b ∷ xs) k =
    faults_on b
    (if_waits (Faults (suc n) xs) (ltb (digit_value b) 16) (λ e. code_point_waits true (value * 16 + digit_value b) (suc n) xs)
    (if_waits (Faults (suc n) xs) (some && b is "}")
    (λ e. if_waits (Faults (suc n) xs) (is_scalar value) (λ f. point_told) fault_told)
    fault_told)
    k)

braced_waits : (p : ℕ) (xs : List ℕ) → braced false p xs ≡ TextUnit.Undecided → Opening (suc p) xs (braced true p)
unfolding braced
braced_waits p [] k = falls (byte tt) (byte one_more_quiet)
braced_waits p (b ∷ xs) k =
    faults
    (faults_on b (if_waits (Faults (suc (suc p)) xs) (b is "{") (λ e. code_point_waits false 0 (suc (suc p)) xs) byte_told k))

pub escape_waits : (octals : Octal) (p : ℕ) (xs : List ℕ) → escape octals false p xs ≡ TextUnit.Undecided
    → Opening p xs (escape octals true p)
unfolding escape letter_value digits fitted digit_value
escape_waits octals p [] k = falls (byte tt) (byte one_more_quiet)
escape_waits octals p (b ∷ xs) k =
    opens_on b
    (if_waits (Passed b (suc p) xs) (ltb (letter_value b) 256) (λ e. byte_told)
    (if_waits (Passed b (suc p) xs) (ltb (digit_value b) 8)
    (λ e h. (octal_plainly b e, digits_waits octals 8 2 (digit_value b) (suc p) xs refl octal_plainly h))
    (if_waits (Passed b (suc p) xs) (b is "x") (λ e h. (x_plainly b e, hex_waits octals p xs h))
    (if_waits (Passed b (suc p) xs) (b is "u") (λ e h. (u_plainly b e, braced_waits p xs h)) byte_told)))
    k)

pub quote_escape_waits : (p : ℕ) (xs : List ℕ) → quote_escape false p xs ≡ TextUnit.Undecided
    → Opening p xs (quote_escape true p)
unfolding quote_escape
quote_escape_waits p [] k = falls (byte tt) (byte one_more_quiet)
quote_escape_waits p (b ∷ xs) k =
    opens_on b (if_waits (Passed b (suc p) xs) (b is "'" || b is "\\") (λ e. byte_told) byte_told k)

-- ---- interpolations

-- after a name: nothing of it, or a property
record LookSplits (xs : List ℕ) (g : List ℕ → Option Follow) : Type 0 where
  more : List ℕ
  more_bytes : every is_byte more ≡ true
  now : g xs ≡ Some Follow.Other
  later : g (xs ++ more) ≡ Some Follow.Property

look_on : {xs : List ℕ} {g : List ℕ → Option Follow} (b : ℕ) → LookSplits xs (λ ys. g (b ∷ ys)) → LookSplits (b ∷ xs) g
look_on b x = record { more = x.more; more_bytes = x.more_bytes; now = x.now; later = x.later }

property_waits : (xs : List ℕ) → property false xs ≡ None → LookSplits xs (property true)
unfolding property is_start is_letter every
property_waits [] k = record { more = code "a" ∷ []; more_bytes = refl; now = refl; later = refl }
property_waits (b ∷ xs) k = look_told k

arrow_waits : (xs : List ℕ) → arrow false xs ≡ None → LookSplits xs (arrow true)
unfolding arrow property is_start is_letter every
arrow_waits [] k = record { more = code ">" ∷ code "a" ∷ []; more_bytes = refl; now = refl; later = refl }
arrow_waits (b ∷ xs) k = look_on b (if_waits (LookSplits xs) (b is ">") (λ e. property_waits xs) look_told k)

question_arrow_waits : (xs : List ℕ) → question_arrow false xs ≡ None → LookSplits xs (question_arrow true)
unfolding question_arrow arrow property is_start is_letter every
question_arrow_waits [] k =
    record { more = code "-" ∷ code ">" ∷ code "a" ∷ []; more_bytes = refl; now = refl; later = refl }
question_arrow_waits (b ∷ xs) k = look_on b (if_waits (LookSplits xs) (b is "-") (λ e. arrow_waits xs) look_told k)

follow_waits : (xs : List ℕ) → follow false xs ≡ None → LookSplits xs (follow true)
unfolding follow arrow property is_start is_letter every
follow_waits [] k = record { more = code "-" ∷ code ">" ∷ code "a" ∷ []; more_bytes = refl; now = refl; later = refl }
follow_waits (b ∷ xs) k =
    look_on b
    (if_waits (LookSplits xs) (b is "[") (λ e. look_told)
    (if_waits (LookSplits xs) (b is "-") (λ e. arrow_waits xs)
    (if_waits (LookSplits xs) (b is "?") (λ e. question_arrow_waits xs) look_told))
    k)

variable_undecided : (from n : ℕ) (l : Option Follow) → variable from n l ≡ TextUnit.Undecided → l ≡ None
unfolding variable
variable_undecided from n (Some f) k = stop_told k
variable_undecided from n None k = refl

variable_splits : (from n b : ℕ) (xs : List ℕ) → LookSplits (b ∷ xs) (follow true)
    → Splits xs (λ ys. variable from n (follow true (b ∷ ys)))
unfolding variable
variable_splits from n b xs x =
    record {
      from = from;
      after = n;
      more = x.more;
      more_bytes = x.more_bytes;
      now = ap (variable from n) x.now;
      later = ap (variable from n) x.later;
    }

name_waits : (from n : ℕ) (xs : List ℕ) → name false from n xs ≡ TextUnit.Undecided → Splits xs (name true from n)
unfolding name variable follow arrow property is_identifier is_digit is_start is_letter every
name_waits from n [] k =
    record {
      from =
          from;
      after = n;
      more = code "-" ∷ code ">" ∷ code "a" ∷ [];
      more_bytes = refl;
      now = refl;
      later = refl;
    }
name_waits from n (b ∷ xs) k =
    splits_on b
    (if_waits (Splits xs) (is_identifier b) (λ e. name_waits from (suc n) xs)
    (λ h. variable_splits from n b xs (follow_waits (b ∷ xs) (variable_undecided from n _ h)))
    k)

pub dollar_waits : (n : ℕ) (xs : List ℕ) → dollar false n xs ≡ TextUnit.Undecided → Opening (suc n) xs (dollar true n)
unfolding dollar is_start is_letter
dollar_waits n [] k = falls (byte tt) (byte one_more_quiet)
dollar_waits n (b ∷ xs) k =
    opens_on b
    (if_waits (Passed b (suc (suc n)) xs) (b is "{") (λ e. stop_told)
    (if_waits (Passed b (suc (suc n)) xs) (is_start b)
    (λ e h. (start_plainly b e, splits (name_waits n (suc (suc n)) xs h)))
    byte_told)
    k)

pub brace_waits : (n : ℕ) (xs : List ℕ) → brace false n xs ≡ TextUnit.Undecided → Opening (suc n) xs (brace true n)
unfolding brace
brace_waits n [] k = falls (byte tt) (byte one_more_quiet)
brace_waits n (b ∷ xs) k = opens_on b (if_waits (Passed b (suc (suc n)) xs) (b is "$") (λ e. stop_told) byte_told k)

pub find_dollar_waits : (n : ℕ) (xs : List ℕ) → find_dollar false n xs ≡ TextUnit.Undecided
    → Opening (suc n) xs (find_dollar true n)
unfolding find_dollar is_start is_letter
find_dollar_waits n [] k = falls (byte tt) (byte one_more_quiet)
find_dollar_waits n (b ∷ xs) k =
    opens_on b (if_waits (Passed b (suc (suc n)) xs) (b is "{" || is_start b) (λ e. stop_told) byte_told k)

pub find_brace_waits : (n : ℕ) (xs : List ℕ) → find_brace false n xs ≡ TextUnit.Undecided
    → Opening (suc n) xs (find_brace true n)
unfolding find_brace
find_brace_waits n [] k = falls (byte tt) (byte one_more_quiet)
find_brace_waits n (b ∷ xs) k = opens_on b (if_waits (Passed b (suc (suc n)) xs) (b is "$") (λ e. stop_told) byte_told k)

-- ---- closers

matched_itself : (label : List ℕ) → matched label label ≡ Match.Whole
unfolding matched
matched_itself [] = refl
matched_itself (a ∷ label) = rw (eq-eqb a a refl) (matched_itself label)

-- the rest of the label
record Completes (label ys : List ℕ) : Type 0 where
  more : List ℕ
  more_bytes : every is_byte more ≡ true
  quiet : Quiet ys
  whole : matched label (ys ++ more) ≡ Match.Whole

matched_waits : (label ys : List ℕ) → every is_identifier label ≡ true → every is_byte label ≡ true
    → matched label ys ≡ Match.Undecided → Completes label ys
unfolding matched every
matched_waits [] ys h g k = clash cc
matched_waits (a ∷ label) [] h g k =
    record { more = a ∷ label; more_bytes = g; quiet = tt; whole = matched_itself (a ∷ label) }
matched_waits (a ∷ label) (y ∷ ys) h g k =
    go (eqb a y) refl
    (matched_waits label ys (&&-right (is_identifier a) (every is_identifier label) h) (&&-right (is_byte a) (every is_byte label) g))
    k
  where
    go : (t : Bool) → eqb a y ≡ t → (matched label ys ≡ Match.Undecided → Completes label ys)
        → (if t then matched label ys else Match.Other) ≡ Match.Undecided
        → Completes (a ∷ label) (y ∷ ys)
    go true e ih z =
        let x = ih z in
        let i : is_identifier a ≡ true = &&-left (is_identifier a) (every is_identifier label) h in
        let p : Plainly y = rw (eqb-true a y e) at (identifier_plainly a i) in
        record { more = x.more; more_bytes = x.more_bytes; quiet = (p, x.quiet); whole = rw e x.whole }
    go false e ih z = clash cc

closer_final : (size : ℕ) (ind : Indentation) (amount n : ℕ) → Final (closer size ind amount n)
unfolding closer
closer_final size Indentation.None amount n = ends
closer_final size Indentation.Space amount n = ends
closer_final size Indentation.Tab amount n = ends
closer_final size Indentation.Mixed amount n = crooked

final_told : {A : Type 0} (u : TextUnit) → Final u → u ≡ TextUnit.Undecided → A
final_told u ends k = stop_told k
final_told u crooked k = fault_told k

judged_undecided : (m : Match) (n : ℕ) (u : TextUnit) → Final u → judged m false n u ≡ TextUnit.Undecided
    → m ≡ Match.Undecided
unfolding judged
judged_undecided Match.Whole n u f k = final_told u f k
judged_undecided Match.Other n u f k = byte_told k
judged_undecided Match.Undecided n u f k = refl

judged_byte : (m : Match) (n : ℕ) (u : TextUnit) → m ≡ Match.Undecided
    → judged m true n u ≡ TextUnit.Byte (code "\n") (suc n)
unfolding judged
judged_byte m n u e = rw e

judged_final : (m : Match) (n : ℕ) (u : TextUnit) → m ≡ Match.Whole → Final u → Final (judged m true n u)
unfolding judged
judged_final m n u e f = rw e f

identifier_blank : (b : ℕ) → is_identifier b ≡ true → is_blank b ≡ false
unfolding is_blank is_identifier is_start is_letter is_digit
identifier_blank b h =
    rw (other_byte (λ x. is_identifier x) (code " ") b refl h, other_byte (λ x. is_identifier x) (code "\t") b refl h)

pub line_waits : (label : List ℕ) → Label label → (p n : ℕ) (ind : Indentation) (amount : ℕ) (xs : List ℕ)
    → line label false n ind amount xs ≡ TextUnit.Undecided → Opening p xs (line label true n ind amount)
unfolding line every
line_waits [] h p n ind amount xs z = absurd (omega (arith, h.some))
line_waits (a ∷ label) h p n ind amount [] z =
    let final = closer_final (length (a ∷ label)) ind amount (suc n + amount) in
    let i : is_identifier a ≡ true = &&-left (is_identifier a) (every is_identifier label) h.identifiers in
    closes (a ∷ label) h.bytes tt (judged_byte _ n _ (judged_undecided _ n _ final z))
    (rw (identifier_blank a i) (judged_final _ n _ (matched_itself (a ∷ label)) final))
line_waits (a ∷ label) h p n ind amount (b ∷ xs) z =
    opens_on b
    (if_waits (Passed b (suc p) xs) (is_blank b)
    (λ e y. (blank_plainly b e, line_waits (a ∷ label) h (suc p) n (indented ind b) (suc amount) xs y))
    (λ y. completed (judged_undecided _ n _ final y))
    z)
  where
    final : Final (closer (length (a ∷ label)) ind amount (suc n + amount))
    final = closer_final (length (a ∷ label)) ind amount (suc n + amount)

    completed : matched (a ∷ label) (b ∷ xs) ≡ Match.Undecided
        → Passed b (suc p) xs
        (λ ys. judged (matched (a ∷ label) (b ∷ ys)) true n (closer (length (a ∷ label)) ind amount (suc n + amount)))
    completed e =
        let x = matched_waits (a ∷ label) (b ∷ xs) h.identifiers h.bytes e in
        let w = judged_final _ n _ x.whole final in
        (x.quiet.0, closes x.more x.more_bytes x.quiet.1 (judged_byte _ n _ e) w)

-- ---- the six modes

pub unit_waits : (m : Mode) (label : List ℕ) → Labelled m label → (n b : ℕ) (rest : List ℕ)
    → unit_at m label false n b rest ≡ TextUnit.Undecided → Opening (suc n) rest (unit_at m label true n b)
unfolding unit_at
unit_waits Mode.Single label h n b rest =
    if_waits (Opening (suc n) rest) (b is "'") (λ e. stop_told)
    (if_waits (Opening (suc n) rest) (b is "\\") (λ e. quote_escape_waits (suc n) rest) byte_told)
unit_waits (Mode.Double octals) label h n b rest =
    if_waits (Opening (suc n) rest) (b is "\"") (λ e. stop_told)
    (if_waits (Opening (suc n) rest) (b is "\\") (λ e. escape_waits octals (suc n) rest)
    (if_waits (Opening (suc n) rest) (b is "$") (λ e. find_dollar_waits n rest)
    (if_waits (Opening (suc n) rest) (b is "{") (λ e. find_brace_waits n rest) byte_told)))
unit_waits (Mode.DoubleQuote octals) label h n b rest =
    if_waits (Opening (suc n) rest) (b is "\"") (λ e. stop_told)
    (if_waits (Opening (suc n) rest) (b is "\\") (λ e. escape_waits octals (suc n) rest)
    (if_waits (Opening (suc n) rest) (b is "$") (λ e. dollar_waits n rest)
    (if_waits (Opening (suc n) rest) (b is "{") (λ e. brace_waits n rest) byte_told)))
unit_waits Mode.ShellExec label h n b rest =
    if_waits (Opening (suc n) rest) (b is "`") (λ e. stop_told)
    (if_waits (Opening (suc n) rest) (b is "$") (λ e. dollar_waits n rest)
    (if_waits (Opening (suc n) rest) (b is "{") (λ e. brace_waits n rest) byte_told))
unit_waits (Mode.Heredoc octals) label h n b rest =
    if_waits (Opening (suc n) rest) (b is "\n") (λ e. line_waits label h (suc n) n Indentation.None 0 rest)
    (if_waits (Opening (suc n) rest) (b is "\\") (λ e. escape_waits octals (suc n) rest)
    (if_waits (Opening (suc n) rest) (b is "$") (λ e. dollar_waits n rest)
    (if_waits (Opening (suc n) rest) (b is "{") (λ e. brace_waits n rest) byte_told)))
unit_waits Mode.Nowdoc label h n b rest =
    if_waits (Opening (suc n) rest) (b is "\n") (λ e. line_waits label h (suc n) n Indentation.None 0 rest) byte_told
