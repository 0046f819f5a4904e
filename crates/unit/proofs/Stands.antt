-- What stands at a place of a text, told once for every mode: where a unit goes on, what its value is of, where it
-- ends a text, and what it may refuse.
--   faults        what a mode may refuse
--   unit_stands   Stands m n b (n + 1 + length rest) (unit_at m label end n b rest)
-- Each law is its definition again, with `if_stands` for a choice. Assumes nothing.
use Rattle.std.specs.Prelude.{if◌then◌else◌, Option, Some, None}
use Prim.Native.Nat.{ℕ, zero, suc, ◌+◌, ◌*◌, ◌≤◌, ◌<◌}
use Prim.Native.Char.{Char, code}
use Rattle.byte.specs.declared.Refusal.{Refusal}
use mathlib.Core.Path.{◌≡◌, refl, sym, ◌∙◌}
use mathlib.Core.Bool.{Bool, true, false, ◌&&◌, ◌||◌, false≢true}
use mathlib.Core.List.{List, [], ◌∷◌}
use native.Mathlib.Omega.{arith}
use lib.Dec.{ltb, eqb}
use lib.ListN.{length}
use borrow.Author.Tests.{eqb-true}
use Rattle.byte.specs.declared.Octal.{Octal}
use Rattle.byte.specs.Refusals.{unexpected_end_of_file, invalid_unicode_escape, invalid_octal_escape, invalid_doc_indentation}
use Rattle.byte.specs.Refusals.{octal_refusals, is_among}
use Rattle.byte.specs.Words.{◌is◌}
use Rattle.byte.specs.Bytes.{is_start, is_identifier, is_blank}
use Rattle.byte.proofs.Tests.{choice, &&-left}
use Rattle.unit.specs.declared.Follow.{Follow}
use Rattle.unit.specs.declared.Indentation.{Indentation}
use Rattle.unit.specs.declared.Match.{Match}
use Rattle.unit.specs.declared.Mode.{Mode}
use Rattle.unit.specs.declared.Stop.{Stop}
use Rattle.unit.specs.declared.TextUnit.{TextUnit}
use Rattle.unit.specs.Digits.{digit_value, is_scalar, utf8}
use Rattle.unit.specs.Escapes.{letter_value, overflowing, fitted, digits, hex, code_point, braced, escape, quote_escape}
use Rattle.unit.specs.Interpolations.{follow, variable, name, dollar, brace, find_dollar, find_brace}
use Rattle.unit.specs.Closers.{matched, indented, closer, judged, line}
use Rattle.unit.specs.Units.{unit_at}
use Rattle.unit.specs.Readings.{gap}
use Rattle.unit.proofs.Stays.{clash}
use Rattle.unit.proofs.Digits.{scalar_small}

-- a literal leaves its interpolations to `double_quote`: it enters no frame, and only it may end where it starts
abbrev pub is_literal : Mode → Bool
is_literal Mode.Single = true
is_literal (Mode.Double octals) = true
is_literal (Mode.DoubleQuote octals) = false
is_literal Mode.ShellExec = false
is_literal (Mode.Heredoc octals) = false
is_literal Mode.Nowdoc = false

-- every text may lack its end; escapes and closing lines may be faulty
abbrev pub faults : Mode → List Refusal
faults Mode.Single = unexpected_end_of_file ∷ []
faults (Mode.Double octals) = unexpected_end_of_file ∷ invalid_unicode_escape ∷ octal_refusals octals
faults (Mode.DoubleQuote octals) = unexpected_end_of_file ∷ invalid_unicode_escape ∷ octal_refusals octals
faults Mode.ShellExec = unexpected_end_of_file ∷ []
faults (Mode.Heredoc octals) =
    unexpected_end_of_file ∷ invalid_unicode_escape ∷ invalid_doc_indentation ∷ octal_refusals octals
faults Mode.Nowdoc = unexpected_end_of_file ∷ invalid_doc_indentation ∷ []

-- whether a frame is entered at a stop
abbrev pub enters : Stop → Bool
enters Stop.DollarLeftBrace = true
enters Stop.LeftBrace = true
enters (Stop.Variable Follow.Offset) = true
enters (Stop.Variable Follow.Property) = true
enters (Stop.Variable Follow.Other) = false
enters Stop.Quote = false
enters Stop.Interpolation = false
enters (Stop.Label ind amount) = false

-- an interpolation that is left to `double_quote`
abbrev pub is_interpolation : Stop → Bool
is_interpolation Stop.Interpolation = true
is_interpolation Stop.Quote = false
is_interpolation Stop.DollarLeftBrace = false
is_interpolation Stop.LeftBrace = false
is_interpolation (Stop.Variable f) = false
is_interpolation (Stop.Label ind amount) = false

-- a byte of the value: one that passes no other is b itself
pub record ByteStands (n b hi value after : ℕ) : Type 0 where
  pub on : n < after
  pub inside : after ≤ hi
  pub own : after ≤ suc n → value ≡ b

-- a code point passes more bytes than it has
pub record PointStands (n hi c after : ℕ) : Type 0 where
  pub narrow : n + length (utf8 c) < after
  pub inside : after ≤ hi
  pub small : c < 0x110000

-- a stop stands after its gap
pub record StopStands (literal : Bool) (n hi : ℕ) (stop : Stop) (from after : ℕ) : Type 0 where
  pub place : n + gap stop ≡ from
  pub order : from ≤ after
  pub inside : after ≤ hi
  pub on : literal ≡ false → n < after
  pub keeps : literal ≡ true → enters stop ≡ false
  pub own : literal ≡ false → is_interpolation stop ≡ false

-- a refusal, which is one of these
pub record FaultInside (refusals : List Refusal) (n hi : ℕ) (refusal : Refusal) (place : ℕ) : Type 0 where
  pub among : is_among refusal refusals ≡ true
  pub on : n ≤ place
  pub inside : place ≤ hi

-- a unit at n, where b stands
abbrev pub Stands : Mode → ℕ → ℕ → ℕ → TextUnit → Type 0
Stands m n b hi (TextUnit.Byte value after) = ByteStands n b hi value after
Stands m n b hi (TextUnit.Point c after) = PointStands n hi c after
Stands m n b hi (TextUnit.Ends stop from after) = StopStands (is_literal m) n hi stop from after
Stands m n b hi (TextUnit.Fault refusal place) = FaultInside (faults m) n hi refusal place
Stands m n b hi TextUnit.Undecided = Unit {0}

abbrev AtMostFour : List ℕ → Type 0
AtMostFour vs = length vs ≤ 4

pub utf8_length : (c : ℕ) → length (utf8 c) ≤ 4
unfolding utf8
utf8_length c =
    choice AtMostFour (ltb c 0x80) _ _ (λ e. omega arith)
    (λ e. choice AtMostFour (ltb c 0x800) _ _ (λ f. omega arith)
    (λ f. choice AtMostFour (ltb c 0x10000) _ _ (λ g. omega arith) (λ g. omega arith)))

pub matched_length : (label ys : List ℕ) → matched label ys ≡ Match.Whole → length label ≤ length ys
unfolding matched
matched_length [] ys h = omega arith
matched_length (a ∷ label) [] h = clash cc
matched_length (a ∷ label) (y ∷ ys) h = go (eqb a y) (matched_length label ys) h
  where
    go : (t : Bool) → (matched label ys ≡ Match.Whole → length label ≤ length ys)
        → (if t then matched label ys else Match.Other) ≡ Match.Whole
        → suc (length label) ≤ suc (length ys)
    go true shorter e = omega (arith, shorter e)
    go false shorter e = clash cc

module _ (m : Mode) (n b hi : ℕ) where
  if_stands : (t : Bool) (u v : TextUnit) → Stands m n b hi u → Stands m n b hi v
      → Stands m n b hi (if t then u else v)
  if_stands t u v x y = choice (Stands m n b hi) t u v (λ e. x) (λ e. y)

  -- a byte that stands for itself, one that passes another, a refusal
  itself : {value : ℕ} → value ≡ b → n < hi → ByteStands n b hi value (suc n)
  itself e h = record { on = omega arith; inside = h; own = λ x. e }

  passing : {value after : ℕ} → n + 2 ≤ after → after ≤ hi → ByteStands n b hi value after
  passing x y = record { on = omega arith; inside = y; own = λ z. absurd (omega arith) }

  fault : {refusal : Refusal} {place : ℕ} → is_among refusal (faults m) ≡ true → n ≤ place → place ≤ hi
      → FaultInside (faults m) n hi refusal place
  fault k x y = record { among = k; on = x; inside = y }

  -- ---- escapes

  -- of a mode that has them
  module _ (unicode : is_among invalid_unicode_escape (faults m) ≡ true)
      (octals : Octal) (octal : octals ≡ Octal.Rust → is_among invalid_octal_escape (faults m) ≡ true) where
    overflowing_stands : (o : Octal) → octals ≡ o → (value p : ℕ) → n + 2 ≤ p → p ≤ hi
        → Stands m n b hi (overflowing o value p)
    unfolding overflowing
    overflowing_stands Octal.Rust e value p x y = fault (octal e) (omega arith) y
    overflowing_stands Octal.Manual e value p x y = passing x y

    fitted_stands : (value p : ℕ) → n + 2 ≤ p → p ≤ hi → Stands m n b hi (fitted octals value p)
    unfolding fitted
    fitted_stands value p x y =
        if_stands (ltb value 256) _ _ (passing x y) (overflowing_stands octals refl value p x y)

    digits_stands : (end : Bool) (base left value p : ℕ) (xs : List ℕ) → n + 2 ≤ p → p + length xs ≤ hi
        → Stands m n b hi (digits octals end base left value p xs)
    unfolding digits
    digits_stands end base zero value p xs x y = fitted_stands value p x (omega arith)
    digits_stands end base (suc left) value p [] x y = if_stands end _ _ (fitted_stands value p x (omega arith)) tt
    digits_stands end base (suc left) value p (c ∷ xs) x y =
        if_stands (ltb (digit_value c) base) _ _
        (digits_stands end base left (value * base + digit_value c) (suc p) xs (omega arith) (omega arith))
        (fitted_stands value p x (omega arith))

    -- after `\u{` and, where there are some, a digit
    code_point_stands : (end some : Bool) (value p : ℕ) (xs : List ℕ) → n + 3 ≤ p → (some ≡ true → n + 4 ≤ p)
        → p + length xs ≤ hi
        → Stands m n b hi (code_point end some value p xs)
    unfolding code_point
    code_point_stands end some value p [] x w y = if_stands end _ _ (fault unicode (omega arith) (omega arith)) tt
    code_point_stands end some value p (c ∷ xs) x w y =
        if_stands (ltb (digit_value c) 16) _ _
        (code_point_stands end true (value * 16 + digit_value c) (suc p) xs (omega arith) (λ e. omega arith)
        (omega arith))
        (choice (Stands m n b hi) (some && c is "}") _ _
        (λ e. choice (Stands m n b hi) (is_scalar value) _ _
        (λ f.
        record {
          narrow = omega (arith, utf8_length value, w (&&-left some (c is "}") e));
          inside = omega arith;
          small = scalar_small value f;
        })
        (λ f. fault unicode (omega arith) (omega arith)))
        (λ e. fault unicode (omega arith) (omega arith)))

    -- the backslash, where it stands for itself
    module _ (end : Bool) (same : code "\\" ≡ b) where
      hex_stands : (xs : List ℕ) → n + 2 + length xs ≤ hi → Stands m n b hi (hex octals end (suc n) xs)
      unfolding hex
      hex_stands [] y = if_stands end _ _ (itself same (omega arith)) tt
      hex_stands (c ∷ xs) y =
          if_stands (ltb (digit_value c) 16) _ _
          (digits_stands end 16 1 (digit_value c) (suc (suc (suc n))) xs (omega arith) (omega arith))
          (itself same (omega arith))

      braced_stands : (xs : List ℕ) → n + 2 + length xs ≤ hi → Stands m n b hi (braced end (suc n) xs)
      unfolding braced
      braced_stands [] y = if_stands end _ _ (itself same (omega arith)) tt
      braced_stands (c ∷ xs) y =
          if_stands (c is "{") _ _
          (code_point_stands end false 0 (suc (suc (suc n))) xs (omega arith) (λ e. absurd (false≢true e)) (omega arith))
          (itself same (omega arith))

      escape_stands : (xs : List ℕ) → suc n + length xs ≤ hi → Stands m n b hi (escape octals end (suc n) xs)
      unfolding escape
      escape_stands [] y = if_stands end _ _ (itself same (omega arith)) tt
      escape_stands (c ∷ xs) y =
          if_stands (ltb (letter_value c) 256) _ _ (passing (omega arith) (omega arith))
          (if_stands (ltb (digit_value c) 8) _ _
          (digits_stands end 8 2 (digit_value c) (suc (suc n)) xs (omega arith) (omega arith))
          (if_stands (c is "x") _ _ (hex_stands xs (omega arith))
          (if_stands (c is "u") _ _ (braced_stands xs (omega arith)) (itself same (omega arith)))))

  -- a single quote's escapes, none of which is faulty
  module _ (end : Bool) (same : code "\\" ≡ b) where
    quote_escape_stands : (xs : List ℕ) → suc n + length xs ≤ hi → Stands m n b hi (quote_escape end (suc n) xs)
    unfolding quote_escape
    quote_escape_stands [] y = if_stands end _ _ (itself same (omega arith)) tt
    quote_escape_stands (c ∷ xs) y =
        if_stands (c is "'" || c is "\\") _ _ (passing (omega arith) (omega arith)) (itself same (omega arith))

  -- ---- a stop at n: of a mode that enters frames, of a literal, of either

  module _ (end : Bool) (other : is_literal m ≡ false) where
    entering : {stop : Stop} {after : ℕ} → gap stop ≡ 0 → is_interpolation stop ≡ false → n < after → after ≤ hi
        → StopStands (is_literal m) n hi stop n after
    entering g i x y =
        record {
          place = omega arith;
          order = omega arith;
          inside = y;
          on = λ e. x;
          keeps = λ e. absurd (false≢true (sym other ∙ e));
          own = λ e. i;
        }

    variable_stands : (p : ℕ) (l : Option Follow) → n < p → p ≤ hi → Stands m n b hi (variable n p l)
    unfolding variable gap
    variable_stands p (Some f) x y = entering refl refl x y
    variable_stands p None x y = tt

    name_stands : (p : ℕ) (xs : List ℕ) → n < p → p + length xs ≤ hi → Stands m n b hi (name end n p xs)
    unfolding name
    name_stands p [] x y = variable_stands p (follow end []) x (omega arith)
    name_stands p (c ∷ xs) x y =
        if_stands (is_identifier c) _ _ (name_stands (suc p) xs (omega arith) (omega arith))
        (variable_stands p (follow end (c ∷ xs)) x (omega arith))

    dollar_stands : (xs : List ℕ) → suc n + length xs ≤ hi → code "$" ≡ b → Stands m n b hi (dollar end n xs)
    unfolding dollar gap
    dollar_stands [] y e = if_stands end _ _ (itself e (omega arith)) tt
    dollar_stands (c ∷ xs) y e =
        if_stands (c is "{") _ _ (entering refl refl (omega arith) (omega arith))
        (if_stands (is_start c) _ _ (name_stands (suc (suc n)) xs (omega arith) (omega arith)) (itself e (omega arith)))

    brace_stands : (xs : List ℕ) → suc n + length xs ≤ hi → code "{" ≡ b → Stands m n b hi (brace end n xs)
    unfolding brace gap
    brace_stands [] y e = if_stands end _ _ (itself e (omega arith)) tt
    brace_stands (c ∷ xs) y e =
        if_stands (c is "$") _ _ (entering refl refl (omega arith) (omega arith)) (itself e (omega arith))

  module _ (end : Bool) (left : is_literal m ≡ true) where
    found_stands : n ≤ hi → StopStands (is_literal m) n hi Stop.Interpolation n n
    unfolding gap
    found_stands y =
        record {
          place = omega arith;
          order = omega arith;
          inside = y;
          on = λ e. absurd (false≢true (sym e ∙ left));
          keeps = λ e. refl;
          own = λ e. absurd (false≢true (sym e ∙ left));
        }

    find_dollar_stands : (xs : List ℕ) → suc n + length xs ≤ hi → code "$" ≡ b
        → Stands m n b hi (find_dollar end n xs)
    unfolding find_dollar
    find_dollar_stands [] y e = if_stands end _ _ (itself e (omega arith)) tt
    find_dollar_stands (c ∷ xs) y e =
        if_stands (c is "{" || is_start c) _ _ (found_stands (omega arith)) (itself e (omega arith))

    find_brace_stands : (xs : List ℕ) → suc n + length xs ≤ hi → code "{" ≡ b
        → Stands m n b hi (find_brace end n xs)
    unfolding find_brace
    find_brace_stands [] y e = if_stands end _ _ (itself e (omega arith)) tt
    find_brace_stands (c ∷ xs) y e = if_stands (c is "$") _ _ (found_stands (omega arith)) (itself e (omega arith))

  closing : {stop : Stop} {from after : ℕ} → n + gap stop ≡ from → from ≤ after → n < after → after ≤ hi
      → enters stop ≡ false → is_interpolation stop ≡ false → StopStands (is_literal m) n hi stop from after
  closing p o x y k i = record { place = p; order = o; inside = y; on = λ e. x; keeps = λ e. k; own = λ e. i }

  quote_stands : suc n ≤ hi → StopStands (is_literal m) n hi Stop.Quote n (suc n)
  unfolding gap
  quote_stands y = closing (omega arith) (omega arith) (omega arith) y refl refl

  -- ---- closers

  label_stands : (ind : Indentation) (amount after : ℕ) → suc n + amount ≤ after → after ≤ hi
      → StopStands (is_literal m) n hi (Stop.Label ind amount) (suc n + amount) after
  unfolding gap
  label_stands ind amount after x y = closing (omega arith) x (omega arith) y refl refl

  closer_stands : is_among invalid_doc_indentation (faults m) ≡ true → (size : ℕ) (ind : Indentation) (amount : ℕ)
      → suc n + amount + size ≤ hi
      → Stands m n b hi (closer size ind amount (suc n + amount))
  unfolding closer
  closer_stands doc size Indentation.None amount y = label_stands Indentation.None amount _ (omega arith) y
  closer_stands doc size Indentation.Space amount y = label_stands Indentation.Space amount _ (omega arith) y
  closer_stands doc size Indentation.Tab amount y = label_stands Indentation.Tab amount _ (omega arith) y
  closer_stands doc size Indentation.Mixed amount y = fault doc (omega arith) (omega arith)

  module _ (doc : is_among invalid_doc_indentation (faults m) ≡ true) (label : List ℕ) (end : Bool)
      (same : code "\n" ≡ b) where
    judged_stands : (ind : Indentation) (amount : ℕ) (ys : List ℕ) → suc n + amount + length ys ≤ hi
        → Stands m n b hi (judged (matched label ys) end n (closer (length label) ind amount (suc n + amount)))
    unfolding judged
    judged_stands ind amount ys y = go (matched label ys) (matched_length label ys)
      where
        go : (found : Match) → (found ≡ Match.Whole → length label ≤ length ys)
            → Stands m n b hi (judged found end n (closer (length label) ind amount (suc n + amount)))
        go Match.Whole h = closer_stands doc (length label) ind amount (omega (arith, h refl))
        go Match.Other h = itself same (omega arith)
        go Match.Undecided h = if_stands end _ _ (itself same (omega arith)) tt

    line_stands : (ind : Indentation) (amount : ℕ) (xs : List ℕ) → suc n + amount + length xs ≤ hi
        → Stands m n b hi (line label end n ind amount xs)
    unfolding line
    line_stands ind amount [] y = judged_stands ind amount [] y
    line_stands ind amount (c ∷ xs) y =
        if_stands (is_blank c) _ _ (line_stands (indented ind c) (suc amount) xs (omega arith))
        (judged_stands ind amount (c ∷ xs) y)

-- ---- the six modes

module _ (n b : ℕ) (rest : List ℕ) (label : List ℕ) (end : Bool) where
  abbrev hi : ℕ
  hi = n + 1 + length rest

  -- where b is this byte, the first; else the other
  at_byte : (m : Mode) (c : Char) (u v : TextUnit) → (code c ≡ b → Stands m n b hi u) → Stands m n b hi v
      → Stands m n b hi (if b is c then u else v)
  at_byte m c u v x y = choice (Stands m n b hi) (b is c) u v (λ e. x (sym (eqb-true b (code c) e))) (λ e. y)

  plain_stands : ByteStands n b hi b (suc n)
  plain_stands = itself Mode.Single n b hi refl (omega arith)

  quoted : (m : Mode) → StopStands (is_literal m) n hi Stop.Quote n (suc n)
  quoted m = quote_stands m n b hi (omega arith)

  escaped : (m : Mode) (octals : Octal) → is_among invalid_unicode_escape (faults m) ≡ true
      → (octals ≡ Octal.Rust → is_among invalid_octal_escape (faults m) ≡ true)
      → code "\\" ≡ b → Stands m n b hi (escape octals end (suc n) rest)
  escaped m octals unicode octal e = escape_stands m n b hi unicode octals octal end e rest (omega arith)

  -- `$` and `{` of a mode that enters frames
  signs : (m : Mode) → is_literal m ≡ false → Stands m n b hi
      (if b is "$" then dollar end n rest else if b is "{" then brace end n rest else TextUnit.Byte b (suc n))
  signs m other =
      at_byte m "$" _ _ (dollar_stands m n b hi end other rest (omega arith))
      (at_byte m "{" _ _ (brace_stands m n b hi end other rest (omega arith)) plain_stands)

  lined : (m : Mode) → is_among invalid_doc_indentation (faults m) ≡ true → code "\n" ≡ b
      → Stands m n b hi (line label end n Indentation.None 0 rest)
  lined m doc e = line_stands m n b hi doc label end e Indentation.None 0 rest (omega arith)

  pub unit_stands : (m : Mode) → Stands m n b hi (unit_at m label end n b rest)
  unfolding unit_at is_among octal_refusals
  unit_stands Mode.Single =
      at_byte Mode.Single "'" _ _ (λ e. quoted Mode.Single)
      (at_byte Mode.Single "\\" _ _ (λ e. quote_escape_stands Mode.Single n b hi end e rest (omega arith)) plain_stands)
  unit_stands (Mode.Double octals) =
      at_byte (Mode.Double octals) "\"" _ _ (λ e. quoted (Mode.Double octals))
      (at_byte (Mode.Double octals) "\\" _ _ (escaped (Mode.Double octals) octals refl (λ e. rw e))
      (at_byte (Mode.Double octals) "$" _ _ (find_dollar_stands (Mode.Double octals) n b hi end refl rest (omega arith))
      (at_byte (Mode.Double octals) "{" _ _ (find_brace_stands (Mode.Double octals) n b hi end refl rest (omega arith))
      plain_stands)))
  unit_stands (Mode.DoubleQuote octals) =
      at_byte (Mode.DoubleQuote octals) "\"" _ _ (λ e. quoted (Mode.DoubleQuote octals))
      (at_byte (Mode.DoubleQuote octals) "\\" _ _ (escaped (Mode.DoubleQuote octals) octals refl (λ e. rw e))
      (signs (Mode.DoubleQuote octals) refl))
  unit_stands Mode.ShellExec = at_byte Mode.ShellExec "`" _ _ (λ e. quoted Mode.ShellExec) (signs Mode.ShellExec refl)
  unit_stands (Mode.Heredoc octals) =
      at_byte (Mode.Heredoc octals) "\n" _ _ (lined (Mode.Heredoc octals) refl)
      (at_byte (Mode.Heredoc octals) "\\" _ _ (escaped (Mode.Heredoc octals) octals refl (λ e. rw e))
      (signs (Mode.Heredoc octals) refl))
  unit_stands Mode.Nowdoc = at_byte Mode.Nowdoc "\n" _ _ (lined Mode.Nowdoc refl) plain_stands
