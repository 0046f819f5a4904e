-- Literals and comments stand as they are written: the text from the token's place up to the place after, read alone,
-- gives the same token. Assumes nothing.
--   PiecesWritten, OutcomeWritten                 a literal or a comment is told alone, bears the place n and stands as
--                                                 written
--   others_written                                of what tells no literal nothing is asked
--   single_as, double_as, number_as, comment_as   what is asked of each kind
--   single_quoting, double_quoting                a closed literal, cut out, reads the same
--   step_written, reading_written                 a quoted literal: a step's text has its opening quote, a reading's
--                                                 has not
--   point_two, numbered_written   a number; one that begins with a point and a digit has both
--   comment_written               a comment
use Prim.Native.Nat.{ℕ, zero, suc, ◌+◌, ◌-◌, ◌≤◌, ◌<◌}
use Prim.Native.Char.{Char, code}
use mathlib.Core.Path.{◌≡◌, refl, sym, ap, ◌∙◌}
use mathlib.Core.Bool.{Bool, true, false, not, false≢true}
use mathlib.Core.List.{List, [], ◌∷◌, ◌++◌}
use mathlib.Core.Logic.{◌⊎◌, inl, inr}
use native.Mathlib.Omega.{arith}
use native.Mathlib.Nat.{zero-add}
use lib.ListN.{length, take, drop, get_or, length-append}
use lib.Seq.{length-take-le, take-length, take_all, take-append-add}
use borrow.Author.Tests.{eq-eqb, not-true}
use Rattle.byte.specs.declared.Octal.{Octal}
use Rattle.byte.specs.Words.{every}
use Rattle.byte.specs.Bytes.{is_digit}
use Rattle.byte.specs.Words.{is_one_of}
use Rattle.byte.proofs.Tests.{choice, &&-left}
use Rattle.state.specs.declared.Frame.{Frame}
use Rattle.state.specs.declared.Reading.{Reading}
use Rattle.token.specs.Kinds.{comment}
use Rattle.token.specs.Kinds.{literal_single_quoted_string, literal_double_quoted_string}
use Rattle.unit.specs.declared.Mode.{Mode}
use Rattle.unit.specs.declared.Stop.{Stop}
use Rattle.unit.specs.Readings as unit
use Rattle.unit.proofs.Cuts.{ClosedText, single_cut, single_closed, double_ended, double_cut, double_closed}
use Rattle.number.specs.declared.Base.{Base}
use Rattle.number.specs.declared.Literal.{Literal}
use Rattle.number.specs.Numbers as number
use Rattle.number.specs.Numbers.{Digits, is_one, base_of, before, digits, onto, followed, fraction, tail, decimal}
use Rattle.number.specs.Numbers.{digits_more, exponent, number_in, number_at}
use Rattle.number.proofs.Values.{number_at_inside}
use Rattle.number.proofs.Cuts.{number_cut, number_spelled}
use Rattle.outcome.specs.declared.Call.{Call}
use Rattle.outcome.specs.declared.Change.{Change}
use Rattle.outcome.specs.declared.CommentEnd.{CommentEnd}
use Rattle.outcome.specs.declared.CommentKind.{CommentKind}
use Rattle.outcome.specs.Outcomes.{Piece, Outcome, piece}
use Rattle.outcome.specs.Texts.{is_left, literal, number_kind, numbered}
use Rattle.outcome.specs.Lookings.{token}
use Rattle.outcome.specs.Comments.{end_taken, comment_end, endless, commented, comment_at}
use Rattle.outcome.specs.Scripts.{scripting}
use Rattle.outcome.specs.Steps.{framed, call_at, rest}
use Rattle.outcome.specs.Written.{is_literal, is_closed, is_opened, is_quoted, AsWritten}
use Rattle.outcome.proofs.Comments.{comment_end_inside, cut_end, comment_end_taken}
use Rattle.outcome.proofs.Others.{NoLiteral, TellsNone}

-- the pieces of an outcome told at n, where xs is what is left: a literal or a comment is the only one; it bears the
-- place n and stands as written from there up to the place after
abbrev pub PiecesWritten : Call → Octal → ℕ → List ℕ → ℕ → List Piece → Type 0
PiecesWritten call octals n xs after [] = Unit {0}
PiecesWritten call octals n xs after (p ∷ []) =
    is_literal p.kind ≡ true → (p.place ≡ n) × AsWritten call octals p.kind p.value (take (after - n) xs)
PiecesWritten call octals n xs after (p ∷ q ∷ more) = every (λ r. not (is_literal r.kind)) (p ∷ q ∷ more) ≡ true

abbrev pub OutcomeWritten : Call → Octal → ℕ → List ℕ → Outcome → Type 0
OutcomeWritten call octals n xs (Outcome.Told pieces after change finished) =
    PiecesWritten call octals n xs after pieces
OutcomeWritten call octals n xs (Outcome.Refused refusal place) = Unit {0}
OutcomeWritten call octals n xs Outcome.Wait = Unit {0}

pub others_written : (call : Call) (octals : Octal) (n : ℕ) (xs : List ℕ) (o : Outcome) → TellsNone o
    → OutcomeWritten call octals n xs o
unfolding every
others_written call octals n xs (Outcome.Told pieces after change finished) e = go pieces e
  where
    go : (pieces : List Piece) → NoLiteral pieces → PiecesWritten call octals n xs after pieces
    go [] z = tt
    go (p ∷ []) z = λ l. absurd (false≢true (sym (not-true (is_literal p.kind) (&&-left _ true z)) ∙ l))
    go (p ∷ q ∷ more) z = z
others_written call octals n xs (Outcome.Refused refusal place) e = tt
others_written call octals n xs Outcome.Wait e = tt

-- ---- what a literal and a comment ask

-- the text alone, at any depth
abbrev pub Alone : Call → Octal → ℕ → List ℕ → List ℕ → Type 0
Alone call octals kind value text =
    (src : List ℕ) (nowdocs : Reading) (depth : ℕ)
    → call_at call Frame.Scripting src (record { nowdocs = nowdocs; octals = octals }) depth true 0 text
    ≡ Outcome.Told (piece kind 0 value ∷ []) (length text) Change.Keep false

module _ (octals : Octal) (call : Call) (value text : List ℕ) where
  pub single_as : Alone call octals literal_single_quoted_string value text → is_quoted call "'" text ≡ true
      → AsWritten call octals literal_single_quoted_string value text
  single_as a q =
      record {
        alone = a;
        single = λ e. q;
        double = λ e. absurd (false≢true e);
        number = λ e. absurd (false≢true e);
        comment = λ e. absurd (false≢true e);
      }

  pub double_as : Alone call octals literal_double_quoted_string value text → is_quoted call "\"" text ≡ true
      → AsWritten call octals literal_double_quoted_string value text
  double_as a q =
      record {
        alone = a;
        single = λ e. absurd (false≢true e);
        double = λ e. q;
        number = λ e. absurd (false≢true e);
        comment = λ e. absurd (false≢true e);
      }

  number_as : (literal : Literal) → Alone call octals (number_kind literal) value text
      → value ≡ number.spelled (number.base_of text) text → AsWritten call octals (number_kind literal) value text
  unfolding number_kind
  number_as Literal.Integer a s =
      record {
        alone = a;
        single = λ e. absurd (false≢true e);
        double = λ e. absurd (false≢true e);
        number = λ e. s;
        comment = λ e. absurd (false≢true e);
      }
  number_as Literal.Float a s =
      record {
        alone = a;
        single = λ e. absurd (false≢true e);
        double = λ e. absurd (false≢true e);
        number = λ e. s;
        comment = λ e. absurd (false≢true e);
      }

comment_as : (octals : Octal) (call : Call) (text : List ℕ) → Alone call octals comment text text
    → AsWritten call octals comment text text
comment_as octals call text a =
    record {
      alone = a;
      single = λ e. absurd (false≢true e);
      double = λ e. absurd (false≢true e);
      number = λ e. absurd (false≢true e);
      comment = λ e. refl;
    }

-- ---- quoted literals

-- a closed literal from n on, where xs stands
pub record Quoted (m : Mode) (c : Char) (n : ℕ) (xs value : List ℕ) (from after : ℕ) : Type 0 where
  closed : ClosedText c n xs from after
  cut : (k : ℕ) → unit.text_at m [] true k (take (after - n) xs)
      ≡ unit.Text value Stop.Quote (k + (from - n)) (k + (after - n))

abbrev pub Quoting : Mode → Char → Type 0
Quoting m c =
    (end : Bool) (n : ℕ) (xs value : List ℕ) (stop : Stop) (from after : ℕ)
    → unit.text_at m [] end n xs ≡ unit.Text value stop from after → is_left stop ≡ false
    → Quoted m c n xs value from after

pub single_quoting : Quoting Mode.Single "'"
single_quoting end n xs value stop from after e l =
    let (q, cut) = single_cut end n xs value stop from after e in
    record { closed = single_closed end n xs value from after (rw q at e); cut = cut }

pub double_quoting : (octals : Octal) → Quoting (Mode.Double octals) "\""
unfolding is_left
double_quoting octals end n xs value stop from after e l = go (double_ended end n xs value stop from after octals e)
  where
    go : (stop ≡ Stop.Quote) ⊎ (stop ≡ Stop.Interpolation) → Quoted (Mode.Double octals) "\"" n xs value from after
    go (inl q) =
        let f : unit.text_at (Mode.Double octals) [] end n xs ≡ unit.Text value Stop.Quote from after = rw q at e in
        record {
          closed = double_closed end n xs value from after octals f;
          cut = double_cut end n xs value from after octals f;
        }
    go (inr i) = absurd (false≢true (sym l ∙ ap is_left i))

is_closed_take : (c : Char) (j : ℕ) (xs : List ℕ) → j < length xs → get_or xs j 0 ≡ code c
    → is_closed c (take (suc j) xs) ≡ true
unfolding is_closed
is_closed_take c j [] h e = absurd (omega arith)
is_closed_take c zero (b ∷ xs) h e = eq-eqb b (code c) e
is_closed_take c (suc j) (b ∷ []) h e = absurd (omega arith)
is_closed_take c (suc j) (b ∷ d ∷ xs) h e = is_closed_take c j (d ∷ xs) (omega arith) e

module _ (m : Mode) (c : Char) (n : ℕ) (xs value : List ℕ) (from after : ℕ)
    (x : Quoted m c n xs value from after) where
  quoted_closed : is_closed c (take (after - n) xs) ≡ true
  quoted_closed =
      let z : after - n ≡ suc (from - n) = omega (arith, x.closed.last, x.closed.on) in
      let inside : from - n < length xs = omega (arith, x.closed.last, x.closed.on, x.closed.inside) in
      rw z (is_closed_take c (from - n) xs inside x.closed.quote)

  quoted_alone : (kind k size : ℕ) → k + length (take (after - n) xs) ≡ size
      → literal kind 0 (unit.text_at m [] true k (take (after - n) xs))
      ≡ Outcome.Told (piece kind 0 value ∷ []) size Change.Keep false
  unfolding literal is_left
  quoted_alone kind k size h =
      let whole = length-take-le (after - n) xs (omega (arith, x.closed.inside)) in
      let place : k + (after - n) ≡ size = omega arith in
      rw (x.cut k, place)

module _ (octals : Octal) (m : Mode) (c : Char) (kind : ℕ) (quoting : Quoting m c)
    (makes : (call : Call) (value text : List ℕ) → Alone call octals kind value text → is_quoted call c text ≡ true
    → AsWritten call octals kind value text) (end : Bool) (n : ℕ) where
  -- read from p on, where ys stands
  read-written : (call : Call) (xs : List ℕ) (p : ℕ) (ys : List ℕ)
      → ((value : List ℕ) (from after : ℕ) → Quoted m c p ys value from after
      → AsWritten call octals kind value (take (after - n) xs))
      → OutcomeWritten call octals n xs (literal kind n (unit.text_at m [] end p ys))
  unfolding literal is_literal is_one_of
  read-written call xs p ys w = go (unit.text_at m [] end p ys) refl
    where
      go : (r : unit.Reading) → unit.text_at m [] end p ys ≡ r → OutcomeWritten call octals n xs (literal kind n r)
      go (unit.Text value stop from after) e =
          choice (OutcomeWritten call octals n xs) (is_left stop) _ _ (λ l. λ z. absurd (false≢true z))
          (λ l. λ z. (refl, w value from after (quoting end p ys value stop from after e l)))
      go (unit.Refused refusal place) e = tt
      go unit.Wait e = tt

  -- a step, from its quote on
  pub step_written : ((depth : ℕ) (ys : List ℕ)
      → scripting octals depth true 0 (code c ∷ ys) ≡ literal kind 0 (unit.text_at m [] true 1 ys))
      → (ys : List ℕ)
      → OutcomeWritten Call.Step octals n (code c ∷ ys) (literal kind n (unit.text_at m [] end (suc n) ys))
  unfolding call_at framed is_quoted is_opened
  step_written row ys =
      read-written Call.Step (code c ∷ ys) (suc n) ys
      (λ value from after x.
      let z : after - n ≡ suc (after - suc n) = omega (arith, x.closed.last, x.closed.on) in
      rw z
      (makes Call.Step value (code c ∷ take (after - suc n) ys)
      (λ src nowdocs depth. row depth _ ∙ quoted_alone m c (suc n) ys value from after x kind 1 _ (omega arith))
      (rw (eq-eqb (code c) (code c) refl) (quoted_closed m c (suc n) ys value from after x))))

  -- a reading, after the quote
  pub reading_written : (call : Call) → ((text : List ℕ) → is_quoted call c text ≡ is_closed c text)
      → ((src : List ℕ) (nowdocs : Reading) (depth : ℕ) (text : List ℕ)
      → call_at call Frame.Scripting src (record { nowdocs = nowdocs; octals = octals }) depth true 0 text
      ≡ literal kind 0 (unit.text_at m [] true 0 text))
      → (xs : List ℕ) → OutcomeWritten call octals n xs (literal kind n (unit.text_at m [] end n xs))
  reading_written call quoted row xs =
      read-written call xs n xs
      (λ value from after x.
      makes call value (take (after - n) xs)
      (λ src nowdocs depth. row src nowdocs depth _ ∙ quoted_alone m c n xs value from after x kind 0 _ (omega arith))
      (quoted _ ∙ quoted_closed m c n xs value from after x))

-- ---- numbers

-- the value has two bytes
abbrev pub Two : number.Reading → Type 0
Two (number.Reading.Number literal value after) = 2 ≤ length value
Two number.Reading.Wait = Unit {0}

pub point_two : (end : Bool) (n b : ℕ) (rest : List ℕ) → is_digit b ≡ true → Two (number_at end n (code "." ∷ b ∷ rest))
unfolding number_at number_in base_of decimal digits is_one is_digit followed tail fraction onto before
point_two end n b rest f =
    let z : n - n ≡ 0 = omega arith in
    rw (z, f)
    (go (digits_more Base.Decimal end (suc (suc n)) rest)
    (λ after. exponent end after (drop (after - suc n) (b ∷ rest))))
  where
    first : (ds : List ℕ) (r : number.Reading) → Two (onto [] (onto (code "." ∷ []) (onto (b ∷ ds) r)))
    first ds (number.Reading.Number literal value after) = omega arith
    first ds number.Reading.Wait = tt

    go : (d : Digits) (next : ℕ → number.Reading) → Two (onto [] (onto (code "." ∷ []) (followed (before b d) next)))
    go (Digits.Read ds after) next = first ds (next after)
    go Digits.Undecided next = tt

module _ (octals : Octal) (call : Call) (end : Bool) (n : ℕ) (xs : List ℕ) where
  pub numbered_written : ((literal : Literal) (value : List ℕ) (after : ℕ)
      → number_at end n xs ≡ number.Reading.Number literal value after
      → (src : List ℕ) (nowdocs : Reading) (depth : ℕ)
      → call_at call Frame.Scripting src (record { nowdocs = nowdocs; octals = octals }) depth true 0 (take (after - n) xs)
      ≡ numbered 0 (number_at true 0 (take (after - n) xs)))
      → OutcomeWritten call octals n xs (numbered n (number_at end n xs))
  unfolding numbered
  numbered_written row = go (number_at end n xs) refl
    where
      go : (r : number.Reading) → number_at end n xs ≡ r → OutcomeWritten call octals n xs (numbered n r)
      go (number.Reading.Number literal value after) e = λ l.
          let size : length (take (after - n) xs) ≡ 0 + (after - n) =
          length-take-le (after - n) xs (omega (arith, (number_at_inside end n xs literal value after e).1))
          ∙ omega arith in (
            refl,
            number_as octals call value (take (after - n) xs) literal
                (λ src nowdocs depth.
                row literal value after e src nowdocs depth
                ∙ ap (numbered 0) (number_cut end n xs literal value after e 0)
                ∙ rw (← size))
                (number_spelled end n xs literal value after e),
          )
      go number.Reading.Wait e = tt

-- ---- comments

-- a comment that is over with its text is told whole, and so is a cut with its end in it
over_told : (text : List ℕ) → endless CommentKind.SingleLine 0 text
    ≡ Outcome.Told (piece comment 0 text ∷ []) (length text) Change.Keep false
unfolding endless
over_told text = rw (take-length text, zero-add (length text))

cut_end_told : (kind : CommentKind) (j : ℕ) (text : List ℕ) → length text ≡ j + end_taken kind
    → commented kind 0 text (cut_end kind j) ≡ Outcome.Told (piece comment 0 text ∷ []) (length text) Change.Keep false
unfolding commented
cut_end_told CommentKind.SingleLine j text h = over_told text
cut_end_told CommentKind.MultiLine j text h = rw (← h, take-length text, zero-add (length text))

-- `head` was passed, and `rest` is after it
module _ (octals : Octal) (kind : CommentKind) (end : Bool) (n : ℕ) (head rest : List ℕ)
    (row : (i depth : ℕ) → scripting octals depth true 0 (head ++ take i rest)
    ≡ comment_at kind (length head) true 0 (head ++ take i rest) (take i rest)) where
  abbrev whole : List ℕ
  whole = head ++ rest

  -- the first bytes of whole, which are a comment alone
  taken_written : (s : ℕ) → length head ≤ s
      → commented kind 0 (take s whole) (comment_end kind true (length head) (take (s - length head) rest))
      ≡ Outcome.Told (piece comment 0 (take s whole) ∷ []) (length (take s whole)) Change.Keep false
      → OutcomeWritten Call.Step octals n whole (token comment n whole s Change.Keep)
  unfolding call_at framed
  taken_written s h e = λ l.
      let z : n + s - n ≡ s = omega arith in
      let k : length head + (s - length head) ≡ s = omega arith in
      let text : take s whole ≡ head ++ take (s - length head) rest =
      rw k at (take-append-add head rest (s - length head)) in (
        refl,
        rw z (comment_as octals Call.Step (take s whole)
            (λ src nowdocs depth.
            ap (scripting octals depth true 0) text ∙ row (s - length head) depth ∙ rw (← text) e)),
      )

  over_written : (k : CommentKind) → kind ≡ k → comment_end kind end (length head) rest ≡ CommentEnd.Over
      → OutcomeWritten Call.Step octals n whole (endless k n whole)
  unfolding endless commented
  over_written CommentKind.SingleLine h e =
      let long : length whole ≡ length head + length rest = length-append head rest in
      let announced : end ≡ true =
      rw e at (comment_end_inside kind end (length head) (length whole) rest (omega arith)) in
      let all = take_all (length whole - length head) rest (omega arith) in
      taken_written (length whole) (omega arith) (rw (all, ← announced, e, h) (over_told (take (length whole) whole)))
  over_written CommentKind.MultiLine h e = tt

  pub comment_written : OutcomeWritten Call.Step octals n whole (comment_at kind (length head) end n whole rest)
  unfolding commented
  comment_written = go (comment_end kind end (length head) rest) refl
    where
      go : (r : CommentEnd) → comment_end kind end (length head) rest ≡ r
          → OutcomeWritten Call.Step octals n whole (commented kind n whole r)
      go (CommentEnd.At j) e =
          let long : length whole ≡ length head + length rest = length-append head rest in
          let inside : (length head ≤ j) × (j + end_taken kind ≤ length whole) =
          rw e at (comment_end_inside kind end (length head) (length whole) rest (omega arith)) in
          taken_written (j + end_taken kind) (omega (arith, inside.0))
          (ap (commented kind 0 (take (j + end_taken kind) whole)) (comment_end_taken kind end (length head) j rest e)
          ∙ cut_end_told kind j (take (j + end_taken kind) whole) (length-take-le (j + end_taken kind) whole inside.1))
      go CommentEnd.Over e = over_written kind refl e
      go CommentEnd.Undecided e = tt
