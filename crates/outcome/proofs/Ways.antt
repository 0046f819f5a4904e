-- What every outcome of a step is: where it lies, what it does to the mode stack, that it goes on, how much it tells
-- and what it refuses. Here: what outcomes are made of, texts, literals, numbers, and the modes that look for a name or
-- an offset; each law follows its definition.
--   Welcome, ChangeGood, Changes   a frame that comes in is good, at the bottom one that may stand there, and none is
--                                  left at depth 1; a swap comes into Scripting or leaves it
--   Onward, Progress               the cursor has moved, or LookingForVarname was swapped for Scripting
--   Still                          where nothing is left to read, the frame stays
--   Few                            at most two pieces are told
--   Refuses                        what is refused is one of these
--   Asked                          the frame on top, under which premises the stack stays good and the cursor moves,
--                                  and what may be refused
--   Ways                           of an outcome from the place n on
-- Assumes nothing.
use Rattle.std.specs.Prelude.{if◌then◌else◌, Option, Some, None}
use Prim.Native.Nat.{ℕ, suc, ◌+◌, ◌-◌, ◌≤◌, ◌<◌}
use Rattle.byte.specs.declared.Refusal.{Refusal}
use mathlib.Core.Path.{◌≡◌, refl, sym}
use mathlib.Core.Bool.{Bool, true, false, not, ◌||◌, false≢true}
use mathlib.Core.List.{List, [], ◌∷◌}
use native.Mathlib.Omega.{arith}
use lib.Dec.{eqb}
use lib.ListN.{length, take, drop}
use borrow.Author.Tests.{eqb-true, not-true}
use Rattle.byte.specs.declared.Octal.{Octal}
use Rattle.byte.specs.Words.{◌is◌, every}
use Rattle.byte.specs.Refusals.{unexpected_end_of_file, invalid_unicode_escape, octal_refusals, invalid_doc_indentation}
use Rattle.byte.specs.Refusals.{no_property, wait, stack_full, stray_indentation, is_same, is_among}
use Rattle.byte.proofs.Refusals.{among_every}
use Rattle.byte.specs.Bytes.{is_start, is_identifier}
use Rattle.byte.proofs.Tests.{choice, &&-left, &&-right}
use Rattle.state.specs.declared.Frame.{Frame}
use Rattle.state.specs.Bounds.{is_frame, is_bottom, is_scripting}
use Rattle.token.specs.Kinds.{string_part, identifier, arrow, question_arrow}
use Rattle.unit.specs.declared.Follow.{Follow}
use Rattle.unit.specs.declared.Mode.{Mode}
use Rattle.unit.specs.declared.Stop.{Stop}
use Rattle.unit.specs.Readings as unit
use Rattle.unit.proofs.Inside as unit-inside
use Rattle.unit.proofs.Stands.{faults, is_interpolation}
use Rattle.number.specs.Numbers as number
use Rattle.number.proofs.Values.{Passes, number_at_inside, number_at_shorter}
use Rattle.outcome.specs.declared.Change.{Change}
use Rattle.outcome.specs.Outcomes.{Piece, Outcome, piece}
use Rattle.outcome.specs.Insides.{ToldInside, Inside}
use Rattle.outcome.specs.Texts.{slice, stop_detail, variable_change, stop_change, texted, is_left, literal}
use Rattle.outcome.specs.Texts.{number_kind, numbered}
use Rattle.outcome.specs.Lookings.{named, is_bracketed, varname, looking_for_varname}
use Rattle.outcome.specs.Lookings.{property, arrow_head, questioned, looking_for_property, var_offset}
use Rattle.outcome.proofs.Pieces.{take-length, goes_inside, one_inside, parted_inside, parted_few}

-- a frame that may come in for the one on top
pub record Welcome (src : List ℕ) (top f : Frame) : Type 0 where
  pub good : is_frame src f ≡ true
  pub bottom : is_bottom f ≡ true
  pub other : is_scripting f ≡ not (is_scripting top)

abbrev pub ChangeGood : List ℕ → Frame → ℕ → Change → Type 0
ChangeGood src top depth Change.Keep = Unit {0}
ChangeGood src top depth (Change.Swap f) = Welcome src top f
ChangeGood src top depth (Change.Enter f) = is_frame src f ≡ true
ChangeGood src top depth Change.Leave = 2 ≤ depth

abbrev pub Changes : List ℕ → Frame → ℕ → Outcome → Type 0
Changes src top depth (Outcome.Told pieces after change finished) = ChangeGood src top depth change
Changes src top depth (Outcome.Refused refusal place) = Unit {0}
Changes src top depth Outcome.Wait = Unit {0}

-- from n on, with f on top
pub data Onward (f : Frame) (n after : ℕ) (change : Change) : Type 0 where
  moves : n < after → Onward f n after change
  looks : f ≡ Frame.LookingForVarname → change ≡ Change.Swap Frame.Scripting → Onward f n after change

-- where nothing is left to read, nothing is asked
abbrev pub Progress : Frame → ℕ → Outcome → Type 0
Progress f n (Outcome.Told pieces after change true) = Unit {0}
Progress f n (Outcome.Told pieces after change false) = Onward f n after change
Progress f n (Outcome.Refused refusal place) = Unit {0}
Progress f n Outcome.Wait = Unit {0}

-- where nothing is left to read, the frame stays
abbrev pub Still : Outcome → Type 0
Still (Outcome.Told pieces after change true) = change ≡ Change.Keep
Still (Outcome.Told pieces after change false) = Unit {0}
Still (Outcome.Refused refusal place) = Unit {0}
Still Outcome.Wait = Unit {0}

abbrev pub Few : Outcome → Type 0
Few (Outcome.Told pieces after change finished) = length pieces ≤ 2
Few (Outcome.Refused refusal place) = Unit {0}
Few Outcome.Wait = Unit {0}

abbrev pub Refuses : List Refusal → Outcome → Type 0
Refuses refusals (Outcome.Told pieces after change finished) = Unit {0}
Refuses refusals (Outcome.Refused refusal place) = is_among refusal refusals ≡ true
Refuses refusals Outcome.Wait = Unit {0}

-- from n on; of a reading `Moving` never holds
pub record Asked (src : List ℕ) (n : ℕ) : Type 1 where
  pub inside : n ≤ length src
  pub top : Frame
  pub depth : ℕ
  pub Good : Type 0
  pub Moving : Type 0
  pub refusals : List Refusal
  pub others : every (λ k. not (is_same k wait)) refusals ≡ true

-- what a step may refuse of itself
abbrev pub step_refusals : Octal → List Refusal
step_refusals octals =
    unexpected_end_of_file ∷ invalid_unicode_escape ∷ invalid_doc_indentation ∷ no_property ∷ stack_full ∷ stray_indentation
    ∷ octal_refusals octals

-- those of texts with escapes are among them
pub quoted_may : (octals : Octal) → every (λ k. is_among k (step_refusals octals)) (faults (Mode.Double octals)) ≡ true
unfolding is_among every octal_refusals
quoted_may Octal.Rust = refl
quoted_may Octal.Manual = refl

pub heredoc_may : (octals : Octal) → every (λ k. is_among k (step_refusals octals)) (faults (Mode.Heredoc octals)) ≡ true
unfolding is_among every octal_refusals
heredoc_may Octal.Rust = refl
heredoc_may Octal.Manual = refl

pub record Ways {src : List ℕ} {n : ℕ} (a : Asked src n) (o : Outcome) : Type 0 where
  pub lies : Inside n (length src) o
  pub stack : a.Good → Changes src a.top a.depth o
  pub on : a.Moving → Progress a.top n o
  pub still : Still o
  pub few : Few o
  pub refusals : Refuses a.refusals o

pub scripting_in : (src : List ℕ) (top : Frame) → is_scripting top ≡ false → Welcome src top Frame.Scripting
unfolding is_frame is_bottom is_scripting
scripting_in src top e = record { good = refl; bottom = refl; other = rw e }

quote_in : (src : List ℕ) (top : Frame) → is_scripting top ≡ true → Welcome src top Frame.DoubleQuote
unfolding is_frame is_bottom is_scripting
quote_in src top e = record { good = refl; bottom = refl; other = rw e }

slice-length : (n : ℕ) (xs : List ℕ) (from after : ℕ) → length (slice n xs from after) ≤ after - from
unfolding slice
slice-length n xs from after = take-length (after - from) (drop (from - n) xs)

detail_amount : (stop : Stop) → stop_detail stop ≡ unit-inside.amount_of stop
unfolding stop_detail
detail_amount (Stop.Label ind amount) = refl
detail_amount Stop.Quote = refl
detail_amount Stop.Interpolation = refl
detail_amount Stop.DollarLeftBrace = refl
detail_amount Stop.LeftBrace = refl
detail_amount (Stop.Variable f) = refl

stop_stack : (src : List ℕ) (top : Frame) (depth : ℕ) → is_scripting top ≡ false → (stop : Stop)
    → is_interpolation stop ≡ false
    → ChangeGood src top depth (stop_change stop)
unfolding stop_change variable_change is_frame
stop_stack src top depth e Stop.Quote i = scripting_in src top e
stop_stack src top depth e Stop.Interpolation i = absurd (false≢true (sym i))
stop_stack src top depth e Stop.DollarLeftBrace i = refl
stop_stack src top depth e Stop.LeftBrace i = refl
stop_stack src top depth e (Stop.Variable Follow.Other) i = tt
stop_stack src top depth e (Stop.Variable Follow.Offset) i = refl
stop_stack src top depth e (Stop.Variable Follow.Property) i = refl
stop_stack src top depth e (Stop.Label ind amount) i = scripting_in src top e

module _ {src : List ℕ} {n : ℕ} (a : Asked src n) where
  abbrev Way : Outcome → Type 0
  Way o = Ways a o

  -- ---- what outcomes are made of

  pub if_ways : (t : Bool) (o p : Outcome) → Way o → Way p → Way (if t then o else p)
  if_ways t o p x y = choice Way t o p (λ e. x) (λ e. y)

  pub waits : Way Outcome.Wait
  waits = record { lies = tt; stack = λ g. tt; on = λ g. tt; still = tt; few = tt; refusals = tt }

  -- no byte is left: decided at the announced end alone
  pub ending_ways : (end : Bool) {o : Outcome} → Way o → Way (if end then o else Outcome.Wait)
  ending_ways end x = if_ways end _ _ x waits

  pub fault_ways : {refusal : Refusal} {place : ℕ} → is_among refusal a.refusals ≡ true → n ≤ place → place ≤ length src
      → Way (Outcome.Refused refusal place)
  fault_ways {refusal} e x y =
      record {
        lies = record { told = not-true _ (among_every _ a.refusals a.others refusal e); low = x; high = y };
        stack = λ g. tt;
        on = λ g. tt;
        still = tt;
        few = tt;
        refusals = e;
      }

  pub told_ways : {pieces : List Piece} {after : ℕ} {change : Change} → ToldInside n (length src) pieces after
      → length pieces ≤ 2 → (a.Good → ChangeGood src a.top a.depth change) → (a.Moving → n < after)
      → Way (Outcome.Told pieces after change false)
  told_ways i f c o = record { lies = i; stack = c; on = λ g. moves (o g); still = tt; few = f; refusals = tt }

  pub goes_ways : {after : ℕ} {change : Change} → n < after → after ≤ length src
      → (a.Good → ChangeGood src a.top a.depth change)
      → Way (Outcome.Told [] after change false)
  goes_ways x y c = told_ways (goes_inside n (length src) _ (omega arith) y) (omega arith) c (λ g. x)

  -- the first k bytes of xs
  pub token_ways : (kind k : ℕ) {change : Change} (xs : List ℕ) → 1 ≤ k → n + k ≤ length src
      → (a.Good → ChangeGood src a.top a.depth change)
      → Way (Outcome.Told (piece kind n (take k xs) ∷ []) (n + k) change false)
  token_ways kind k xs x y c =
      told_ways (one_inside n (length src) kind _ (take k xs) (omega (arith, take-length k xs)) y) (omega arith) c
      (λ g. omega arith)

  -- ---- texts, literals, refusals

  -- what the reading may refuse the outcome may
  abbrev Passed : List Refusal → Type 0
  Passed refusals = every (λ k. is_among k a.refusals) refusals ≡ true

  pub texted_ways : is_scripting a.top ≡ false → (m : Mode) (xs : List ℕ) (refusals : List Refusal) → Passed refusals
      → (r : unit.Reading) → unit-inside.InsideReading refusals n (length src) r → unit-inside.StopsReading r
      → (a.Moving → unit-inside.MovesReading n r) → Way (texted m n xs r)
  unfolding texted
  texted_ways t m xs refusals p (unit.Text value stop from after) x e on =
      told_ways
      (parted_inside n (length src) string_part after value _ (omega arith) (omega (arith, x.narrow, x.order))
      (omega (arith, detail_amount stop, x.indented, x.order))
      (omega (arith, slice-length n xs from after, x.narrow, x.order))
      x.inside)
      (parted_few string_part n value _)
      (λ g. stop_stack src a.top a.depth t stop e)
      on
  texted_ways t m xs refusals p (unit.Refused refusal place) x e on =
      fault_ways (among_every _ refusals p refusal x.among) x.on x.inside
  texted_ways t m xs refusals p unit.Wait x e on = waits

  -- a literal's text starts at m, from its quote on or at the cursor
  pub literal_ways : is_scripting a.top ≡ true → (kind m : ℕ) (refusals : List Refusal) → Passed refusals
      → (r : unit.Reading) → n ≤ m → (a.Moving → n < m)
      → unit-inside.InsideReading refusals m (length src) r
      → Way (literal kind n r)
  unfolding literal
  literal_ways t kind m refusals p (unit.Text value stop from after) h on x =
      if_ways (is_left stop) _ _ (told_ways (read string_part) (omega arith) (λ g. quote_in src a.top t) moved)
      (told_ways (read kind) (omega arith) (λ g. tt) moved)
    where
      read : (kind : ℕ) → ToldInside n (length src) (piece kind n value ∷ []) after
      read kind = one_inside n (length src) kind after value (omega (arith, x.narrow, x.order)) x.inside

      moved : a.Moving → n < after
      moved g = omega (arith, on g, x.narrow, x.order)
  literal_ways t kind m refusals p (unit.Refused refusal place) h on x =
      fault_ways (among_every _ refusals p refusal x.among) (omega (arith, x.on)) x.inside
  literal_ways t kind m refusals p unit.Wait h on x = waits

  pub numbered_ways : (end : Bool) (xs : List ℕ) → n + length xs ≤ length src
      → (a.Moving → Passes n (number.number_at end n xs)) → Way (numbered n (number.number_at end n xs))
  unfolding numbered
  numbered_ways end xs h on = go (number.number_at end n xs) refl on
    where
      go : (r : number.Reading) → number.number_at end n xs ≡ r → (a.Moving → Passes n r)
          → Way (numbered n r)
      go (number.Reading.Number kind value after) e on =
          let inside = number_at_inside end n xs kind value after e in
          told_ways
          (one_inside n (length src) (number_kind kind) after value
          (omega (arith, number_at_shorter end n xs kind value after e, inside.0))
          (omega (arith, inside.1)))
          (omega arith)
          (λ g. tt)
          on
      go number.Reading.Wait e on = waits

-- ---- runs of identifier bytes: k of them were passed before xs

abbrev pub RunInside : ℕ → ℕ → Option ℕ → Type 0
RunInside k hi (Some j) = (k ≤ j) × (j ≤ hi)
RunInside k hi None = Unit {0}

pub named_inside : (end : Bool) (k hi : ℕ) (xs : List ℕ) → k + length xs ≤ hi → RunInside k hi (named end k xs)
unfolding named
named_inside end k hi [] h = choice (RunInside k hi) end _ _ (λ e. (omega arith, omega arith)) (λ e. tt)
named_inside end k hi (b ∷ xs) h =
    choice (RunInside k hi) (is_identifier b) _ _
    (λ e. go (named end (suc k) xs) (named_inside end (suc k) hi xs (omega arith)))
    (λ e. (omega arith, omega arith))
  where
    go : (r : Option ℕ) → RunInside (suc k) hi r → RunInside k hi r
    go (Some j) x = (omega (arith, x.0), x.1)
    go None x = tt

-- ---- the modes that look for a name or an offset

module _ {src : List ℕ} {n : ℕ} (a : Asked src n) (end : Bool) where
  module _ (top : a.top ≡ Frame.LookingForVarname) where
    other : is_scripting a.top ≡ false
    unfolding is_scripting
    other = rw top refl

    -- the cursor may stay
    stays_ways : Ways a (Outcome.Told [] n (Change.Swap Frame.Scripting) false)
    stays_ways =
        record {
          lies = goes_inside n (length src) n (omega arith) a.inside;
          stack = λ g. scripting_in src a.top other;
          on = λ g. looks top refl;
          still = tt;
          few = omega arith;
          refusals = tt;
        }

    varname_ways : (xs : List ℕ) (r : Option ℕ) → n + length xs ≤ length src → RunInside 1 (length xs) r
        → Ways a (varname n xs r)
    unfolding varname
    varname_ways xs (Some k) h x =
        if_ways a (is_bracketed (drop k xs)) _ _
        (token_ways a identifier k xs x.0 (omega (arith, x.1)) (λ g. scripting_in src a.top other))
        stays_ways
    varname_ways xs None h x = waits a

    pub looking_for_varname_ways : (xs : List ℕ) → n + length xs ≤ length src → Ways a (looking_for_varname end n xs)
    unfolding looking_for_varname
    looking_for_varname_ways [] h = ending_ways a end stays_ways
    looking_for_varname_ways (b ∷ xs) h =
        if_ways a (is_start b) _ _
        (varname_ways (b ∷ xs) (named end 1 xs) h (named_inside end 1 (suc (length xs)) xs (omega arith)))
        stays_ways

  module _ (octals : Octal) (step : a.refusals ≡ step_refusals octals) where
    none_ways : Ways a (Outcome.Refused no_property n)
    unfolding is_among
    none_ways = fault_ways a (rw step refl) (omega arith) a.inside

    arrow_head_ways : (kind k : ℕ) (xs ys : List ℕ) → k + length ys ≤ length xs → n + length xs ≤ length src
        → Ways a (arrow_head kind k end n xs ys)
    unfolding arrow_head
    arrow_head_ways kind k xs [] h y = ending_ways a end none_ways
    arrow_head_ways kind k xs (b ∷ ys) h y =
        if_ways a (b is ">") _ _ (token_ways a kind (suc k) xs (omega arith) (omega arith) (λ g. tt)) none_ways

    questioned_ways : (xs ys : List ℕ) → 1 + length ys ≤ length xs → n + length xs ≤ length src
        → Ways a (questioned end n xs ys)
    unfolding questioned
    questioned_ways xs [] h y = ending_ways a end none_ways
    questioned_ways xs (b ∷ ys) h y =
        if_ways a (b is "-") _ _ (arrow_head_ways question_arrow 2 xs ys (omega arith) y) none_ways

    property_ways : (a.Good → 2 ≤ a.depth) → (xs : List ℕ) (r : Option ℕ) → n + length xs ≤ length src
        → RunInside 1 (length xs) r
        → Ways a (property n xs r)
    unfolding property
    property_ways deep xs (Some k) y x = token_ways a identifier k xs x.0 (omega (arith, x.1)) deep
    property_ways deep xs None y x = waits a

    pub looking_for_property_ways : (a.Good → 2 ≤ a.depth) → (xs : List ℕ) → n + length xs ≤ length src
        → Ways a (looking_for_property end n xs)
    unfolding looking_for_property
    looking_for_property_ways deep [] y = ending_ways a end none_ways
    looking_for_property_ways deep (b ∷ xs) y =
        if_ways a (b is "?") _ _ (questioned_ways (b ∷ xs) xs (omega arith) y)
        (if_ways a (b is "-") _ _ (arrow_head_ways arrow 1 (b ∷ xs) xs (omega arith) y)
        (if_ways a (is_start b) _ _
        (property_ways deep (b ∷ xs) (named end 1 xs) y (named_inside end 1 (suc (length xs)) xs (omega arith)))
        none_ways))

    pub var_offset_ways : (a.Good → 2 ≤ a.depth) → (xs : List ℕ) → n + length xs ≤ length src
        → Ways a (var_offset end n xs)
    unfolding var_offset is_among
    var_offset_ways deep [] y = ending_ways a end (fault_ways a (rw step refl) (omega arith) a.inside)
    var_offset_ways deep (b ∷ xs) y =
        goes_ways a (omega arith) (omega arith)
        (λ g. choice (ChangeGood src a.top a.depth) (b is "]") _ _ (λ e. deep g) (λ e. tt))
