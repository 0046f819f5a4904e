-- Demand 3 for what is made of a text and a number. Assumes nothing.
--   text_mode_demands, nowdoc_demands   the text modes, from any position on
--   literal_demands, numbered_demands   the readings
-- A wait's two continuations are the reading's own, and the outcome tells them apart: of a text by its ending, of a number
-- altogether.
use Rattle.std.specs.Prelude.{if◌then◌else◌}
use Rattle.byte.specs.declared.Refusal.{Refusal}
use mathlib.Core.Path.{◌≡◌, refl, sym, ap, ◌∙◌}
use mathlib.Core.Bool.{Bool, true, false, false≢true}
use mathlib.Core.List.{List, [], ◌∷◌, ◌++◌}
use Prim.Native.Nat.{ℕ, ◌+◌, ◌-◌, ◌≤◌}
use native.Mathlib.Omega.{arith}
use lib.Dec.{eqb}
use lib.ListN.{length, drop, length-drop}
use lib.Seq.{take-append-le, drop-append-le}
use Rattle.byte.specs.Demand.{Apart}
use Rattle.byte.proofs.Demand.{apart_by}
use Rattle.state.specs.declared.Frame.{Frame}
use Rattle.state.specs.declared.Reading as state
use Rattle.token.specs.Kinds.{literal_integer, string_part}
use Rattle.unit.specs.declared.Follow.{Follow}
use Rattle.unit.specs.declared.Mode.{Mode}
use Rattle.unit.specs.declared.Stop.{Stop}
use Rattle.unit.specs.Labels.{Label, Labelled}
use Rattle.unit.specs.Readings as unit
use Rattle.unit.proofs.Stays.{Stays}
use Rattle.unit.proofs.Inside as within
use Rattle.unit.proofs.Demand.{ending, text_stays, text_endings, text_never_waits}
use Rattle.unit.proofs.Stands.{is_literal, faults}
use Rattle.unit.proofs.Readings.{StandsReading, text_stands}
use Rattle.number.specs.declared.Literal as kind
use Rattle.number.specs.Numbers as number
use Rattle.number.proofs.Values.{number_at_ends}
use Rattle.number.proofs.Waiting.{number_waits}
use Rattle.sheet.specs.Sheets.{sheet_at}
use Rattle.sheet.proofs.Inside.{sheet_faults, sheet_inside}
use Rattle.sheet.proofs.Demand.{sheet_stays, sheet_endings, sheet_never_waits}
use Rattle.outcome.specs.declared.Change.{Change}
use Rattle.outcome.specs.Outcomes.{Piece, Outcome, piece, limited}
use Rattle.outcome.specs.Texts.{slice, stop_change, variable_change, texted, is_left}
use Rattle.outcome.specs.Texts.{literal, number_kind, numbered}
use Rattle.outcome.specs.Steps.{text_mode, nowdoc}
use Rattle.outcome.proofs.Demand.{closed, Demands, told_waits, refused_waits}

-- bytes that a part has are those of a longer text
pub slice_append : (n : ℕ) (part rest : List ℕ) (from after : ℕ) → n ≤ from → from ≤ after → after ≤ n + length part
    → slice n (part ++ rest) from after ≡ slice n part from after
unfolding slice
slice_append n part rest from after low order high =
    let a : from - n ≤ length part = omega arith in
    let size : length (drop (from - n) part) ≡ length part - (from - n) = length-drop (from - n) part in
    let b : after - from ≤ length (drop (from - n) part) = omega arith in
    rw (drop-append-le (from - n) part rest a, take-append-le (after - from) (drop (from - n) part) rest b)

-- ---- texts

texted_wait : (m : Mode) (n : ℕ) (xs : List ℕ) (r : unit.Reading) → texted m n xs r ≡ Outcome.Wait → r ≡ unit.Wait
unfolding texted
texted_wait m n xs (unit.Text value stop from after) e = told_waits e
texted_wait m n xs (unit.Refused refusal place) e = refused_waits e
texted_wait m n xs unit.Wait e = refl

texted_append : (refusals : List Refusal) (m : Mode) (n : ℕ) (part rest : List ℕ) (r : unit.Reading)
    → within.InsideReading refusals n (n + length part) r
    → texted m n (part ++ rest) r ≡ texted m n part r
unfolding texted
texted_append refusals m n part rest (unit.Text value stop from after) x =
    rw (slice_append n part rest from after (omega (arith, x.narrow)) x.order x.inside)
texted_append refusals m n part rest (unit.Refused refusal place) x = refl
texted_append refusals m n part rest unit.Wait x = refl

-- what an outcome tells of the reading's ending
abbrev ended : Outcome → unit.Reading
ended (Outcome.Told pieces after change finished) = unit.Text [] Stop.Quote 0 0
ended (Outcome.Refused refusal place) = unit.Refused refusal place
ended Outcome.Wait = unit.Wait

texted_ended : (p : ℕ) (m : Mode) (n : ℕ) (xs : List ℕ) (r : unit.Reading) → ended (closed p (texted m n xs r)) ≡ ending p r
unfolding texted stop_change variable_change limited
texted_ended p m n xs (unit.Text value Stop.Quote from after) = refl
texted_ended p m n xs (unit.Text value Stop.Interpolation from after) = refl
texted_ended p m n xs (unit.Text value Stop.DollarLeftBrace from after) = refl
texted_ended p m n xs (unit.Text value Stop.LeftBrace from after) = refl
texted_ended p m n xs (unit.Text value (Stop.Variable Follow.Other) from after) = refl
texted_ended p m n xs (unit.Text value (Stop.Variable Follow.Offset) from after) = refl
texted_ended p m n xs (unit.Text value (Stop.Variable Follow.Property) from after) = refl
texted_ended p m n xs (unit.Text value (Stop.Label ind amount) from after) = refl
texted_ended p m n xs (unit.Refused refusal place) = refl
texted_ended p m n xs unit.Wait = refl

-- what demand 3 asks of a reading from n on
pub record Reads (n : ℕ) (read : Bool → List ℕ → unit.Reading) : Type 0 where
  pub refusals : List Refusal
  pub inside : (part : List ℕ) → within.InsideReading refusals n (n + length part) (read false part)
  pub stays : (part : List ℕ) → (read false part ≡ unit.Wait → ⊥) → (rest : List ℕ) → read true (part ++ rest) ≡ read false part
  pub endings : (p : ℕ) (part : List ℕ) → read false part ≡ unit.Wait → Apart (λ xs. ending p (read true xs)) part
  pub told : (xs : List ℕ) → read true xs ≡ unit.Wait → ⊥

module _ (m : Mode) (n : ℕ) (read : Bool → List ℕ → unit.Reading) (h : Reads n read) where
  texted_stays : (part rest : List ℕ)
      → Stays Outcome.Wait (texted m n part (read false part)) (texted m n (part ++ rest) (read true (part ++ rest)))
  unfolding texted
  texted_stays part rest k =
      ap (texted m n (part ++ rest)) (h.stays part (λ z. k (ap (texted m n part) z)) rest)
      ∙ texted_append h.refusals m n part rest (read false part) (h.inside part)

  texted_demands : (p : ℕ) → Demands p (λ end xs. texted m n xs (read end xs))
  texted_demands p =
      record {
        stays = texted_stays;
        splits = λ part k.
            apart_by (λ xs. ending p (read true xs)) (λ c. closed p (texted m n (part ++ c) (read true (part ++ c)))) part []
            (λ one two e. sym (texted_ended p m n (part ++ one) _) ∙ ap ended e ∙ texted_ended p m n (part ++ two) _)
            (h.endings p part (texted_wait m n part _ k));
        told = λ xs e. h.told xs (texted_wait m n xs _ e);
      }

pub text_mode_demands : (m : Mode) (label : List ℕ) → Labelled m label → (n p : ℕ) → Demands p (λ end. text_mode m label end n)
unfolding text_mode
text_mode_demands m label h n p =
    texted_demands m n (λ end. unit.text_at m label end n)
    (record {
      refusals = faults m;
      inside = within.text_inside m label false n;
      stays = text_stays m label h n;
      endings = text_endings m label h n;
      told = text_never_waits m label h n;
    })
    p

pub nowdoc_demands : (label : List ℕ) → Label label → (n p : ℕ) (nowdocs : state.Reading)
    → Demands p (λ end. nowdoc nowdocs label end n)
unfolding nowdoc
nowdoc_demands label h n p state.Reading.Ported = text_mode_demands Mode.Nowdoc label h n p
nowdoc_demands label h n p state.Reading.Sheet =
    texted_demands Mode.Nowdoc n (λ end. sheet_at label end n)
    (record {
      refusals = sheet_faults;
      inside = sheet_inside label false n;
      stays = sheet_stays label h n;
      endings = sheet_endings label h n;
      told = sheet_never_waits label n;
    })
    p

-- ---- literals

module _ (form place : ℕ) where
  literal_wait : (r : unit.Reading) → literal form place r ≡ Outcome.Wait → r ≡ unit.Wait
  unfolding literal
  literal_wait (unit.Text value stop from after) e = go (is_left stop) e
    where
      go : (t : Bool)
          → (if t then Outcome.Told (piece string_part place value ∷ []) after (Change.Swap Frame.DoubleQuote) false
          else Outcome.Told (piece form place value ∷ []) after Change.Keep false) ≡ Outcome.Wait
          → unit.Text value stop from after ≡ unit.Wait
      go true z = told_waits z
      go false z = told_waits z
  literal_wait (unit.Refused refusal fault) e = refused_waits e
  literal_wait unit.Wait e = refl

  -- a literal enters no frame
  entered : {A : Type 0} → true ≡ false → A
  entered e = absurd (false≢true (sym e))

  literal_ended : (m : Mode) → is_literal m ≡ true → (p n hi : ℕ) (xs : List ℕ) (r : unit.Reading)
      → StandsReading m n hi xs r
      → ended (closed p (literal form place r)) ≡ ending p r
  unfolding literal is_left limited
  literal_ended m l p n hi xs (unit.Text value Stop.Quote from after) x = refl
  literal_ended m l p n hi xs (unit.Text value Stop.Interpolation from after) x = refl
  literal_ended m l p n hi xs (unit.Text value Stop.DollarLeftBrace from after) x = entered (x.keeps l)
  literal_ended m l p n hi xs (unit.Text value Stop.LeftBrace from after) x = entered (x.keeps l)
  literal_ended m l p n hi xs (unit.Text value (Stop.Variable Follow.Other) from after) x = refl
  literal_ended m l p n hi xs (unit.Text value (Stop.Variable Follow.Offset) from after) x = entered (x.keeps l)
  literal_ended m l p n hi xs (unit.Text value (Stop.Variable Follow.Property) from after) x = entered (x.keeps l)
  literal_ended m l p n hi xs (unit.Text value (Stop.Label ind amount) from after) x = refl
  literal_ended m l p n hi xs (unit.Refused refusal fault) x = refl
  literal_ended m l p n hi xs unit.Wait x = refl

  -- a literal has no label
  module _ (m : Mode) (l : is_literal m ≡ true) (h : Labelled m []) (n : ℕ) where
    read_ended : (p : ℕ) (xs : List ℕ)
        → ended (closed p (literal form place (unit.text_at m [] true n xs))) ≡ ending p (unit.text_at m [] true n xs)
    read_ended p xs =
        literal_ended m l p n (n + length xs) xs (unit.text_at m [] true n xs) (text_stands m [] true n xs)

    pub literal_demands : (p : ℕ) → Demands p (λ end xs. literal form place (unit.text_at m [] end n xs))
    unfolding literal
    literal_demands p =
        record {
          stays = λ part rest k.
              ap (literal form place) (text_stays m [] h n part (λ z. k (ap (literal form place) z)) rest);
          splits = λ part k.
              apart_by (λ xs. ending p (unit.text_at m [] true n xs))
              (λ c. closed p (literal form place (unit.text_at m [] true n (part ++ c)))) part []
              (λ one two e. sym (read_ended p (part ++ one)) ∙ ap ended e ∙ read_ended p (part ++ two))
              (text_endings m [] h n p part (literal_wait _ k));
          told = λ xs e. text_never_waits m [] h n xs (literal_wait _ e);
        }

-- ---- numbers

-- the number that an outcome tells
abbrev kind_of : ℕ → kind.Literal
kind_of k = if eqb k literal_integer then kind.Literal.Integer else kind.Literal.Float

abbrev number_in : List Piece → ℕ → number.Reading
number_in [] after = number.Reading.Wait
number_in (one ∷ more) after = number.Reading.Number (kind_of one.kind) one.value after

abbrev number_of : Outcome → number.Reading
number_of (Outcome.Told pieces after change finished) = number_in pieces after
number_of (Outcome.Refused refusal place) = number.Reading.Wait
number_of Outcome.Wait = number.Reading.Wait

numbered_told : (p place : ℕ) (r : number.Reading) → number_of (closed p (numbered place r)) ≡ r
unfolding numbered number_kind limited
numbered_told p place (number.Reading.Number kind.Literal.Integer value after) = refl
numbered_told p place (number.Reading.Number kind.Literal.Float value after) = refl
numbered_told p place number.Reading.Wait = refl

pub numbered_wait : (place : ℕ) (r : number.Reading) → numbered place r ≡ Outcome.Wait → r ≡ number.Reading.Wait
unfolding numbered
numbered_wait place (number.Reading.Number literal value after) e = told_waits e
numbered_wait place number.Reading.Wait e = refl

pub numbered_demands : (place n p : ℕ) → Demands p (λ end xs. numbered place (number.number_at end n xs))
unfolding numbered
numbered_demands place n p =
    record {
      stays = λ part rest k. ap (numbered place) ((number_waits n part).settled (λ z. k (ap (numbered place) z)) rest);
      splits = λ part k.
          apart_by (number.number_at true n) (λ c. closed p (numbered place (number.number_at true n (part ++ c)))) part []
          (λ one two e. sym (numbered_told p place _) ∙ ap number_of e ∙ numbered_told p place _)
          ((number_waits n part).exactly.0 (numbered_wait place _ k));
      told = λ xs e. number_at_ends n xs (numbered_wait place _ e);
    }
