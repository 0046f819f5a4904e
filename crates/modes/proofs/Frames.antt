-- Scripting's table row by row, where no literal and no number starts. Assumes nothing.
use Rattle.std.specs.Prelude.{if◌then◌else◌, Option, Some, None}
use Prim.Native.Nat.{ℕ, suc, ◌+◌, ◌<◌, ◌≤◌}
use mathlib.Core.Path.{◌≡◌, refl}
use mathlib.Core.Bool.{Bool, true, false}
use mathlib.Core.List.{List, []}
use native.Mathlib.Omega.{arith}
use native.Mathlib.Numerals.{add-one}
use lib.Dec.{ltb}
use lib.ListN.{length, get_or, drop, drop_of_length-le}
use borrow.Author.Tests.{ne_eqb, lt-ltb, le-ltb}
use Rattle.byte.specs.Bytes.{is_digit, is_start, is_letter}
use Rattle.byte.specs.declared.Octal.{Octal}
use Rattle.byte.proofs.Words.{drop-one}
use Rattle.state.specs.declared.Frame.{Frame}
use Rattle.outcome.specs.declared.Change.{Change}
use Rattle.outcome.specs.Outcomes.{Outcome}
use Rattle.outcome.specs.Lookings.{named}
use Rattle.outcome.specs.Openings.{opening, opened}
use Rattle.outcome.specs.Comments.{slash, hash}
use Rattle.outcome.specs.Scripts.{point, word, close_tag, scripting}
use Rattle.plan.specs.declared.Drafts.{Drafts}
use Rattle.byte.specs.declared.Refusal.{Refusal}
use Rattle.plan.specs.declared.Plan.{Plan}
use Rattle.plan.specs.Code.{outcome_of, pieces, Plans, no_drafts, goes_plan, ending_plan}
use Rattle.modes.specs.Code.{finished_plan, NoLiteral}
use Rattle.plan.proofs.Plans.{goes_plans, wait_plans, ending_plans, sign_plans, last_sign_plans}
use Rattle.modes.proofs.Looks.{name_small}

-- ---- the rows that look further

module _ (src : List ℕ) (end : Bool) (at : ℕ) where
  -- nothing is left after a sign
  module _ (past : length src ≤ at + 1) (p r : Plan Refusal) (e : p ≡ goes_plan (at + 1) Change.Keep) (f : r ≡ ending_plan end p) where
    pub point_past : Plans src end (point end at (drop (at + 1) src)) r
    unfolding point
    point_past = rw (drop_of_length-le src past) (last_sign_plans src end at r p e f)

    pub close_tag_past : Plans src end (close_tag end at (drop (at + 1) src)) r
    unfolding close_tag
    close_tag_past = rw (drop_of_length-le src past) (last_sign_plans src end at r p e f)

  module _ (h : at + 1 < length src) (r : Plan Refusal) where
    pub point_other : is_digit (get_or src (at + 1) 0) ≡ false → r ≡ goes_plan (at + 1) Change.Keep
        → Plans src end (point end at (drop (at + 1) src)) r
    unfolding point
    point_other d e = rw (drop-one src (at + 1) h, d) (sign_plans src end at r e)

    pub close_tag_closes : get_or src (at + 1) 0 ≡ 62 → r ≡ goes_plan (at + 1 + 1) (Change.Swap Frame.Initial)
        → Plans src end (close_tag end at (drop (at + 1) src)) r
    unfolding close_tag
    close_tag_closes b e =
        rw (drop-one src (at + 1) h, b, e, add-one (at + 1), add-one at) (goes_plans src end (suc (suc at)) (Change.Swap Frame.Initial))

    pub close_tag_other : (get_or src (at + 1) 0 ≡ 62 → ⊥) → r ≡ goes_plan (at + 1) Change.Keep
        → Plans src end (close_tag end at (drop (at + 1) src)) r
    unfolding close_tag
    close_tag_other b e = rw (drop-one src (at + 1) h, ne_eqb (get_or src (at + 1) 0) 62 b) (sign_plans src end at r e)

  module _ (name : Option ℕ) (n : name ≡ named end 1 (drop (at + 1) src)) where
    pub word_over : (k : ℕ) (r : Plan Refusal) → name ≡ Some k → r ≡ goes_plan (at + k) Change.Keep
        → Plans src end (word at (named end 1 (drop (at + 1) src))) r
    unfolding word
    word_over k r e p = rw (← n, e, p) (goes_plans src end (at + k) Change.Keep)

    pub word_waits : name ≡ None → Plans src end (word at (named end 1 (drop (at + 1) src))) Plan.Wait
    unfolding word
    word_waits e = rw (← n, e) (wait_plans src end)

pub ruleset points = (point_past, point_other)

pub ruleset close_tags = (close_tag_past, close_tag_closes, close_tag_other)

pub ruleset words = (name_small, word_over, word_waits)

pub brace_leaves : (depth : ℕ) → 1 < depth → Change.Leave ≡ (if ltb 1 depth then Change.Leave else Change.Keep)
brace_leaves depth h = rw (lt-ltb 1 depth h)

pub brace_keeps : (depth : ℕ) → depth ≤ 1 → Change.Keep ≡ (if ltb 1 depth then Change.Leave else Change.Keep)
brace_keeps depth h = rw (le-ltb 1 depth h)

pub ruleset braces = (brace_leaves, brace_keeps)

-- ---- the table

pub finished_plan_made : (at : ℕ) (drafts : Drafts) → drafts ≡ no_drafts
    → Plan.Told (record { drafts = drafts; after = at; change = Change.Keep; finished = true }) ≡ finished_plan at
finished_plan_made at drafts e = rw e

module _ (octals : Octal) (depth : ℕ) (src : List ℕ) (end : Bool) (at : ℕ) (r : Plan Refusal) where
  pub scripting_past : (p : Plan Refusal) → length src ≤ at → p ≡ finished_plan at → r ≡ ending_plan end p
      → Plans src end (scripting octals depth end at (drop at src)) r
  unfolding scripting outcome_of pieces
  scripting_past p h e f =
      rw (drop_of_length-le src h, f, e)
      (ending_plans src end (Outcome.Told [] at Change.Keep true) (finished_plan at)
      (record { told = refl; ready = record { few = omega arith; all = tt } }))

  module _ (h : at < length src) where
    -- what the row's own routine plans
    pub scripting_point : get_or src at 0 ≡ 46 → Plans src end (point end at (drop (at + 1) src)) r
        → Plans src end (scripting octals depth end at (drop at src)) r
    unfolding scripting is_digit
    scripting_point b p = rw (drop-one src at h, b) p

    pub scripting_question : get_or src at 0 ≡ 63 → Plans src end (close_tag end at (drop (at + 1) src)) r
        → Plans src end (scripting octals depth end at (drop at src)) r
    unfolding scripting is_digit is_start is_letter
    scripting_question b p = rw (drop-one src at h, b) p

    pub scripting_less : get_or src at 0 ≡ 60 → Plans src end (opened at (opening end (at + 1) (drop (at + 1) src))) r
        → Plans src end (scripting octals depth end at (drop at src)) r
    unfolding scripting is_digit is_start is_letter
    scripting_less b p = rw (drop-one src at h, b, ← add-one at) p

    pub scripting_slash : get_or src at 0 ≡ 47 → Plans src end (slash end at (drop at src) (drop (at + 1) src)) r
        → Plans src end (scripting octals depth end at (drop at src)) r
    unfolding scripting is_digit is_start is_letter
    scripting_slash b p = rw (drop-one src at h, b) (rw (drop-one src at h, b) at p)

    pub scripting_hash : get_or src at 0 ≡ 35 → Plans src end (hash end at (drop at src) (drop (at + 1) src)) r
        → Plans src end (scripting octals depth end at (drop at src)) r
    unfolding scripting is_digit is_start is_letter
    scripting_hash b p = rw (drop-one src at h, b) (rw (drop-one src at h, b) at p)

    -- one byte is passed
    pub scripting_backtick : get_or src at 0 ≡ 96 → r ≡ goes_plan (at + 1) (Change.Swap Frame.ShellExec)
        → Plans src end (scripting octals depth end at (drop at src)) r
    unfolding scripting
    scripting_backtick b e = rw (drop-one src at h, b, ← add-one at, e) (goes_plans src end (at + 1) (Change.Swap Frame.ShellExec))

    pub scripting_opens : get_or src at 0 ≡ 123 → r ≡ goes_plan (at + 1) (Change.Enter Frame.Scripting)
        → Plans src end (scripting octals depth end at (drop at src)) r
    unfolding scripting is_digit is_start is_letter
    scripting_opens b e = rw (drop-one src at h, b, ← add-one at, e) (goes_plans src end (at + 1) (Change.Enter Frame.Scripting))

    pub scripting_closes : (change : Change) → get_or src at 0 ≡ 125 → change ≡ (if ltb 1 depth then Change.Leave else Change.Keep)
        → r ≡ goes_plan (at + 1) change → Plans src end (scripting octals depth end at (drop at src)) r
    unfolding scripting is_digit is_start is_letter
    scripting_closes change b c e = rw (drop-one src at h, b, ← add-one at, ← c, e) (goes_plans src end (at + 1) change)

    -- any other byte
    module _ (x : NoLiteral src at) (s : get_or src at 0 ≡ 96 → ⊥) (o : get_or src at 0 ≡ 46 → ⊥) (start : Bool)
        (g : start ≡ is_start (get_or src at 0)) where
      pub scripting_word : start ≡ true → Plans src end (word at (named end 1 (drop (at + 1) src))) r
          → Plans src end (scripting octals depth end at (drop at src)) r
      unfolding scripting
      scripting_word t p =
          rw (
            drop-one src at h,
            ne_eqb (get_or src at 0) 39 x.single,
            ne_eqb (get_or src at 0) 34 x.double,
            ne_eqb (get_or src at 0) 96 s,
            x.digit,
            ne_eqb (get_or src at 0) 46 o,
            ← g,
            t,
          ) p

      pub scripting_other : start ≡ false → (get_or src at 0 ≡ 123 → ⊥) → (get_or src at 0 ≡ 125 → ⊥)
          → (get_or src at 0 ≡ 63 → ⊥) → (get_or src at 0 ≡ 60 → ⊥) → (get_or src at 0 ≡ 47 → ⊥) → (get_or src at 0 ≡ 35 → ⊥)
          → r ≡ goes_plan (at + 1) Change.Keep → Plans src end (scripting octals depth end at (drop at src)) r
      unfolding scripting
      scripting_other t b c k l m n e =
          rw (
            drop-one src at h,
            ne_eqb (get_or src at 0) 39 x.single,
            ne_eqb (get_or src at 0) 34 x.double,
            ne_eqb (get_or src at 0) 96 s,
            x.digit,
            ne_eqb (get_or src at 0) 46 o,
            ← g,
            t,
            ne_eqb (get_or src at 0) 123 b,
            ne_eqb (get_or src at 0) 125 c,
            ne_eqb (get_or src at 0) 63 k,
            ne_eqb (get_or src at 0) 60 l,
            ne_eqb (get_or src at 0) 47 m,
            ne_eqb (get_or src at 0) 35 n,
          ) (sign_plans src end at r e)

-- what a `.` asks
pub no_number : (src : List ℕ) (at : ℕ) → NoLiteral src at → get_or src at 0 ≡ 46 → is_digit (get_or src (at + 1) 0) ≡ false
no_number src at x b = x.point b

pub ruleset scriptings = (
  no_number,
  scripting_past,
  scripting_point,
  scripting_question,
  scripting_less,
  scripting_slash,
  scripting_hash,
  scripting_backtick,
  scripting_opens,
  scripting_closes,
  scripting_word,
  scripting_other,
)
