-- A step at Scripting that only passes bytes, on each way through the functions that tell it. Assumes nothing.
--   others, passes_ats, quicks   the rulesets of `is_other`, `passed_at` and `passed`
--   Passes, quick_passes         what such a step tells of the call
use Rattle.std.specs.Prelude.{if◌then◌else◌}
use Prim.Native.Nat.{ℕ, suc, ◌+◌, ◌-◌, ◌<◌, ◌≤◌}
use mathlib.Core.Path.{◌≡◌, refl, sym, ◌∙◌}
use mathlib.Core.Bool.{Bool, true, false, not, ◌&&◌, ◌||◌, and-false, false≢true}
use mathlib.Core.List.{List, [], ◌∷◌}
use native.Mathlib.Omega.{arith}
use native.Mathlib.Numerals.{add-one}
use lib.Dec.{eqb, leb, ltb}
use lib.ListN.{length, get_or, take, drop, length-drop, drop_of_length-le}
use lib.Seq.{length-take-le}
use borrow.Author.Tests.{eqb-true, ne_eqb, leb-true, lt-leb, ltb-true, lt-ltb, le-ltb, not-true, not-false}
use Rattle.state.specs.Bounds.{is_scripting}
use Rattle.byte.specs.Words.{run, every}
use Rattle.byte.specs.Bytes.{is_digit, is_start, is_letter, is_identifier, is_no_break, is_none_of}
use Rattle.byte.specs.Classes.{is_sign, is_alone}
use Rattle.byte.specs.declared.Octal.{Octal}
use Rattle.source.specs.Code.{RunEnd, Unbroken, LineStart}
use Rattle.source.specs.Cursor.{passed_byte, passed}
use Rattle.source.specs.declared.Span.{Span}
use Rattle.byte.proofs.Tests.{&&-left, &&-right, &&-both, ||-neither, none_of, choice}
use Rattle.byte.proofs.Words.{drop-one}
use Rattle.source.proofs.Cursor.{passed_position}
use Rattle.source.proofs.Counts.{passed_same}
use Rattle.state.specs.declared.Frame.{Frame}
use Rattle.state.specs.declared.Choices.{Choices}
use Rattle.outcome.specs.declared.Call.{Call}
use Rattle.outcome.specs.declared.Change.{Change}
use Rattle.outcome.specs.Outcomes.{goes}
use Rattle.outcome.specs.Lookings.{named}
use Rattle.outcome.specs.Scripts.{word, scripting}
use Rattle.outcome.specs.Steps.{framed, call_at}
use Rattle.plan.specs.Code.{Here}
use Rattle.modes.specs.Code.{is_step, is_other, quick_at, quick, PassesAt}
use Rattle.modes.proofs.Looks.{named_run}

is_scripting_frame : (f : Frame) → is_scripting f ≡ true → f ≡ Frame.Scripting
unfolding is_scripting
is_scripting_frame Frame.Scripting e = refl
is_scripting_frame Frame.Initial e = absurd (false≢true e)
is_scripting_frame Frame.DoubleQuote e = absurd (false≢true e)
is_scripting_frame Frame.ShellExec e = absurd (false≢true e)
is_scripting_frame (Frame.Heredoc label) e = absurd (false≢true e)
is_scripting_frame (Frame.Nowdoc label) e = absurd (false≢true e)
is_scripting_frame Frame.LookingForVarname e = absurd (false≢true e)
is_scripting_frame Frame.LookingForProperty e = absurd (false≢true e)
is_scripting_frame Frame.VarOffset e = absurd (false≢true e)

is_step_call : (call : Call) → is_step call ≡ true → call ≡ Call.Step
unfolding is_step
is_step_call Call.Step e = refl
is_step_call Call.Number e = absurd (false≢true e)
is_step_call Call.Single e = absurd (false≢true e)
is_step_call Call.Double e = absurd (false≢true e)

-- ---- a byte of the last row

pub is_other_arm : (b arm : ℕ) → b ≡ arm → false ≡ is_other arm → false ≡ is_other b
is_other_arm b arm e h = rw e h

-- none of the table's bytes
module _ (b : ℕ) (single : b ≡ 39 → ⊥) (double : b ≡ 34 → ⊥) (tick : b ≡ 96 → ⊥) (point : b ≡ 46 → ⊥) (opens : b ≡ 123 → ⊥)
    (closes : b ≡ 125 → ⊥) (question : b ≡ 63 → ⊥) (less : b ≡ 60 → ⊥) (slash : b ≡ 47 → ⊥) (hash : b ≡ 35 → ⊥) where
  pub is_other_none : (digit : Bool) → digit ≡ is_digit b → not digit ≡ is_other b
  unfolding is_other is_none_of
  is_other_none true d = rw (← d)
  is_other_none false d =
      rw (
        ← d,
        ne_eqb b 39 single,
        ne_eqb b 34 double,
        ne_eqb b 96 tick,
        ne_eqb b 46 point,
        ne_eqb b 123 opens,
        ne_eqb b 125 closes,
        ne_eqb b 63 question,
        ne_eqb b 60 less,
        ne_eqb b 47 slash,
        ne_eqb b 35 hash,
      )

pub ruleset others = (is_other_arm, is_other_none)

-- where no identifier starts, such a byte is passed alone
other_alone : (digit signs brackets comments : Bool)
    → (not digit && signs && brackets && comments)
    ≡ (not (not (signs && brackets && comments)) && not (digit || false))
other_alone true true true true = refl
other_alone true true true false = refl
other_alone true true false comments = refl
other_alone true false brackets comments = refl
other_alone false true true true = refl
other_alone false true true false = refl
other_alone false true false comments = refl
other_alone false false brackets comments = refl

is_other_alone : (b : ℕ) → is_start b ≡ false → is_other b ≡ is_alone b
unfolding is_other is_alone is_sign is_identifier
is_other_alone b s =
    let signs = is_none_of 39 34 96 46 b in
    let brackets = is_none_of 123 125 63 60 b in
    let comments = is_none_of 47 35 47 35 b in
    rw (s) (other_alone (is_digit b) signs brackets comments)

alone_start : (b : ℕ) → is_alone b ≡ true → is_start b ≡ false
unfolding is_alone is_identifier
alone_start b e =
    let named = not-true (is_digit b || is_start b) (&&-right (not (is_sign b)) (not (is_digit b || is_start b)) e) in
    (||-neither (is_digit b) (is_start b) named).1

-- the last row
scripting_last : (octals : Octal) (depth : ℕ) (end : Bool) (n b : ℕ) (rest : List ℕ) → is_start b ≡ false
    → is_other b ≡ true → scripting octals depth end n (b ∷ rest) ≡ goes (suc n) Change.Keep
unfolding scripting is_other
scripting_last octals depth end n b rest s e =
    let signs = is_none_of 39 34 96 46 b in
    let brackets = is_none_of 123 125 63 60 b in
    let comments = is_none_of 47 35 47 35 b in
    let table = &&-left (not (is_digit b) && signs && brackets) comments e in
    let most = &&-left (not (is_digit b) && signs) brackets table in
    let digit = not-true (is_digit b) (&&-left (not (is_digit b)) signs most) in
    let h = none_of b 39 34 96 46 (&&-right (not (is_digit b)) signs most) in
    let k = none_of b 123 125 63 60 (&&-right (not (is_digit b) && signs) brackets table) in
    let m = none_of b 47 35 47 35 (&&-right (not (is_digit b) && signs && brackets) comments e) in
    rw (h.first, h.second, h.third, digit, h.fourth, s, k.first, k.second, k.third, k.fourth, m.first, m.second)

-- ---- an identifier

-- a byte that an identifier starts with is none that it doesn't
start_other : (b c : ℕ) → is_start b ≡ true → is_start c ≡ false → eqb b c ≡ false
start_other b c s o = ne_eqb b c (λ e. absurd (false≢true (sym o ∙ rw e at s)))

start_digit : (b : ℕ) → is_start b ≡ true → is_digit b ≡ false
unfolding is_digit is_start is_letter
start_digit b s = go (leb b 57) refl
  where
    go : (t : Bool) → leb b 57 ≡ t → (leb 48 b && t) ≡ false
    go false e = and-false (leb 48 b)
    go true e =
        let high : b ≤ 57 = leb-true b 57 e in
        let other : b ≡ 95 → ⊥ = λ n. omega arith in
        let none = rw (lt-leb 65 b (omega arith), lt-leb 97 b (omega arith), ne_eqb b 95 other, lt-leb 128 b (omega arith)) at s in
        absurd (false≢true none)

scripting_start : (octals : Octal) (depth : ℕ) (end : Bool) (n b : ℕ) (rest : List ℕ) → is_start b ≡ true
    → scripting octals depth end n (b ∷ rest) ≡ word n (named end 1 rest)
unfolding scripting is_start is_letter
scripting_start octals depth end n b rest s =
    rw (start_other b 39 s refl, start_other b 34 s refl, start_other b 96 s refl, start_digit b s, start_other b 46 s refl, s)

-- an identifier holds no LF
start_line : (b : ℕ) → is_start b ≡ true → is_no_break b ≡ true
unfolding is_no_break is_start is_letter
start_line b s = rw (start_other b 10 s refl)

identifier_line : (b : ℕ) → is_identifier b ≡ true → is_no_break b ≡ true
unfolding is_no_break is_identifier is_digit is_start is_letter
identifier_line b e = go (eqb b 10) refl
  where
    go : (t : Bool) → eqb b 10 ≡ t → not t ≡ true
    go false h = refl
    go true h = rw (eqb-true b 10 h) at e

run_line : (xs : List ℕ) → every is_no_break (take (run is_identifier xs) xs) ≡ true
unfolding run every
run_line [] = refl
run_line (b ∷ rest) = go (is_identifier b) refl (run_line rest)
  where
    go : (t : Bool) → is_identifier b ≡ t → every is_no_break (take (run is_identifier rest) rest) ≡ true
        → every is_no_break (take (if t then suc (run is_identifier rest) else 0) (b ∷ rest)) ≡ true
    go true e h = &&-both (is_no_break b) _ (identifier_line b e) h
    go false e h = refl

-- ---- so many bytes at a place

-- an LF is passed only alone, as the one byte
record Facts (n : ℕ) (xs : List ℕ) (k : ℕ) : Type 0 where
  inside : k ≤ length xs
  line : (k ≡ 1 → ⊥) → every is_no_break (take k xs) ≡ true
  told : (k ≡ 0 → ⊥) → (octals : Octal) (depth : ℕ) (end : Bool)
      → scripting octals depth end n xs ≡ goes (n + k) Change.Keep

facts_none : (n : ℕ) (xs : List ℕ) → Facts n xs 0
unfolding every
facts_none n xs = record { inside = omega arith; line = λ h. refl; told = λ h. absurd (h refl) }

module _ (n b : ℕ) (rest : List ℕ) where
  facts_word : is_start b ≡ true → ltb (run is_identifier rest) (length rest) ≡ true
      → Facts n (b ∷ rest) (suc (run is_identifier rest))
  unfolding every word
  facts_word s h =
      let size = run is_identifier rest in
      let next : 1 + size ≡ suc size = omega arith in
      record {
        inside = omega (arith, ltb-true size (length rest) h);
        line = λ k. &&-both (is_no_break b) _ (start_line b s) (run_line rest);
        told = λ k octals depth end. rw (scripting_start octals depth end n b rest s, named_run end 1 rest, h, next);
      }

  facts_other : is_start b ≡ false → is_other b ≡ true → Facts n (b ∷ rest) 1
  facts_other s o = record {
    inside = omega arith;
    line = λ k. absurd (k refl);
    told = λ k octals depth end. rw (add-one n) (scripting_last octals depth end n b rest s o);
  }

quick_at_facts : (n : ℕ) (xs : List ℕ) → Facts n xs (quick_at xs)
unfolding quick_at
quick_at_facts n [] = facts_none n []
quick_at_facts n (b ∷ rest) =
    let P = Facts n (b ∷ rest) in
    let none = facts_none n (b ∷ rest) in
    choice P (is_start b) _ _
    (λ s. choice P (ltb (run is_identifier rest) (length rest)) _ _ (facts_word n b rest s) (λ h. none))
    (λ s. choice P (is_other b) _ _ (facts_other n b rest s) (λ o. none))

module _ (src : List ℕ) (at : ℕ) (here : Here src at) where
  passes_at_whole : (k : ℕ) → k ≡ quick_at (drop at src) → PassesAt src at k
  passes_at_whole k e =
      let inside = (quick_at_facts at (drop at src)).inside in
      record { whole = e; inside = omega (arith, here.inside, length-drop at src) }

  pub passes_at_past : length src ≤ at → PassesAt src at 0
  unfolding quick_at
  passes_at_past h = passes_at_whole 0 (rw (drop_of_length-le src h))

  module _ (h : at < length src) (start : Bool) (f : start ≡ is_start (get_or src at 0)) where
    module _ (n : ℕ) (t : start ≡ true) (e : RunEnd is_identifier src (at + 1) n) where
      -- the name may go on
      pub passes_at_cut : n ≡ length src → PassesAt src at 0
      unfolding quick_at
      passes_at_cut o =
          let size = run is_identifier (drop (at + 1) src) in
          let long : length (drop (at + 1) src) ≤ size = omega (arith, length-drop (at + 1) src, e.place) in
          passes_at_whole 0 (rw (drop-one src at h, ← f, t, le-ltb size (length (drop (at + 1) src)) long))

      pub passes_at_word : (n ≡ length src → ⊥) → PassesAt src at (n - at)
      unfolding quick_at
      passes_at_word o =
          let size = run is_identifier (drop (at + 1) src) in
          let short : size < length (drop (at + 1) src) = omega (arith, length-drop (at + 1) src, e.place, e.inside, o) in
          let count : n - at ≡ suc size = omega (arith, e.place) in
          passes_at_whole (n - at) (rw (drop-one src at h, ← f, t, lt-ltb size (length (drop (at + 1) src)) short) count)

    module _ (other : Bool) (t : start ≡ false) (g : other ≡ is_other (get_or src at 0)) where
      pub passes_at_other : other ≡ true → PassesAt src at 1
      unfolding quick_at
      passes_at_other u = passes_at_whole 1 (rw (drop-one src at h, ← f, t, ← g, u))

      pub passes_at_none : other ≡ false → PassesAt src at 0
      unfolding quick_at
      passes_at_none u = passes_at_whole 0 (rw (drop-one src at h, ← f, t, ← g, u))

pub ruleset passes_ats = (passes_at_past, passes_at_cut, passes_at_word, passes_at_other, passes_at_none)

alone_passes : (src : List ℕ) (at : ℕ) → Here src at → at < length src → is_alone (get_or src at 0) ≡ true → PassesAt src at 1
alone_passes src at here h a =
    let b = get_or src at 0 in
    let s = alone_start b a in
    passes_at_other src at here h (is_start b) refl (is_other b) s refl (is_other_alone b s ∙ a)

-- ---- the place after

module _ (call : Call) (src : List ℕ) (f : Frame) (p : Span) (step : Bool) (g : step ≡ is_step call) where
  pub quick_call : not step ≡ true → p ≡ quick call src f p
  unfolding quick
  quick_call u = rw (← g, not-true step u)

  module _ (u : not step ≡ false) (flag : Bool) (e : flag ≡ is_scripting f) where
    pub quick_frame : not flag ≡ true → p ≡ quick call src f p
    unfolding quick
    quick_frame t = rw (← g, not-false step u, ← e, not-true flag t)

    module _ (t : not flag ≡ false) (k : ℕ) (q : PassesAt src p.position k) where
      quick-at : (r : Span) → r ≡ passed p (take k (drop p.position src)) → r ≡ quick call src f p
      unfolding quick
      quick-at r s = rw (← g, not-false step u, ← e, not-false flag t, ← q.whole) s

      pub quick_byte : (r : Span) → k ≡ 1 → r ≡ passed_byte p (get_or src p.position 0) → r ≡ quick call src f p
      unfolding passed
      quick_byte r o s =
          let h : p.position < length src = omega (arith, q.inside) in
          quick-at r (s ∙ rw (o, drop-one src p.position h))

      pub quick_line : (k ≡ 1 → ⊥)
          → record { line = p.line; column = p.column + k; position = p.position + k } ≡ quick call src f p
      quick_line o =
          let xs = drop p.position src in
          let bytes = take k xs in
          let size : length bytes ≡ k = length-take-le k xs (rw (length-drop p.position src) (omega (arith, q.inside))) in
          let clear = (quick_at_facts p.position xs).line (λ z. o (q.whole ∙ z)) in
          let last : Unbroken bytes 0 = record { inside = omega arith; clear = rw q.whole clear } in
          let start : LineStart bytes 0 = record { last = last; behind = λ h. absurd (omega arith) } in
          quick-at _ (rw size at (passed_same bytes p 0 start refl))

    pub quick_alone : not flag ≡ false → Here src p.position → p.position < length src → (alone : Bool)
        → alone ≡ is_alone (get_or src p.position 0) → alone ≡ true
        → (r : Span) → r ≡ passed_byte p (get_or src p.position 0) → r ≡ quick call src f p
    quick_alone t here h alone a own r s =
        quick_byte t 1 (alone_passes src p.position here h (sym a ∙ own)) r refl s

    pub quick_none : not flag ≡ false → Here src p.position → p.position < length src → (alone : Bool)
        → alone ≡ is_alone (get_or src p.position 0) → alone ≡ false → (start : Bool)
        → start ≡ is_start (get_or src p.position 0) → not start ≡ true → p ≡ quick call src f p
    unfolding passed
    quick_none t here h alone a own start s other =
        let b = get_or src p.position 0 in
        let none : start ≡ false = not-true start other in
        let told : is_other b ≡ false = is_other_alone b (sym s ∙ none) ∙ sym a ∙ own in
        quick-at t 0 (passes_at_none src p.position here h start s (is_other b) none refl told) p refl

pub ruleset quicks = (quick_call, quick_frame, quick_byte, quick_line, quick_alone, quick_none)

-- ---- what such a step tells

-- r is the place after such a step; the cursor p itself tells nothing
pub record Passes (call : Call) (src : List ℕ) (f : Frame) (p r : Span) : Type 0 where
  pub low : p.position ≤ r.position
  pub high : r.position ≤ length src
  pub span : r ≡ passed p (take (r.position - p.position) (drop p.position src))
  pub step : (r.position ≡ p.position → ⊥) → call ≡ Call.Step
  pub told : (r.position ≡ p.position → ⊥) → (choices : Choices) (depth : ℕ) (end : Bool)
      → call_at call f src choices depth end p.position (drop p.position src) ≡ goes r.position Change.Keep

pub quick_passes : (call : Call) (src : List ℕ) (f : Frame) (p : Span) → p.position ≤ length src
    → Passes call src f p (quick call src f p)
unfolding quick call_at framed passed
quick_passes call src f p h =
    choice (Passes call src f p) (is_step call && is_scripting f) _ _ moves (λ e. stays)
  where
    xs : List ℕ
    xs = drop p.position src

    k : ℕ
    k = quick_at xs

    facts : Facts p.position xs k
    facts = quick_at_facts p.position xs

    stays : Passes call src f p p
    stays =
        let none : p.position - p.position ≡ 0 = omega arith in
        record { low = omega arith; high = h; span = rw none; step = λ n. absurd (n refl); told = λ n. absurd (n refl) }

    moves : (is_step call && is_scripting f) ≡ true → Passes call src f p (passed p (take k xs))
    moves e =
        let size : length (take k xs) ≡ k = length-take-le k xs facts.inside in
        let place : (passed p (take k xs)).position ≡ p.position + k = passed_position p (take k xs) ∙ rw size in
        let count : (passed p (take k xs)).position - p.position ≡ k = omega arith in
        let same : call ≡ Call.Step = is_step_call call (&&-left (is_step call) (is_scripting f) e) in
        let frame : f ≡ Frame.Scripting = is_scripting_frame f (&&-right (is_step call) (is_scripting f) e) in
        record {
          low = omega arith;
          high = omega (arith, facts.inside, length-drop p.position src);
          span = rw count;
          step = λ n. same;
          told = λ n choices depth end.
              rw (same, frame, place) (facts.told (λ z. n (omega arith)) choices.octals depth end);
        }
