-- A call on each way through it. Assumes nothing.
--   Lent, lent_opened      what an open gate tells
--   step_passes            over numbers and the top frame: a step that only passes bytes
--   steps                  the plan is committed
--   called_shut, open-..   in a session: the gate is shut, or what holds after it
use Prim.Native.Nat.{ℕ, ◌+◌, ◌/◌, ◌≤◌}
use Rattle.byte.specs.declared.Refusal.{Refusal}
use mathlib.Core.Path.{◌≡◌, refl, ap, ◌∙◌}
use mathlib.Core.Bool.{Bool, true, false, ◌&&◌}
use mathlib.Core.List.{List}
use native.Mathlib.Omega.{arith}
use lib.Dec.{leb}
use lib.ListN.{length, drop}
use borrow.Author.Tests.{leb-true, le-leb}
use Rattle.source.specs.Cursor.{origin}
use Rattle.source.specs.declared.Span.{Span}
use Rattle.byte.proofs.Tests.{&&-left, &&-right, unrefused}
use Rattle.state.specs.declared.Frame.{Frame}
use Rattle.state.specs.declared.Choices.{Choices}
use Rattle.state.specs.declared.Session.{Session}
use Rattle.state.specs.declared.Turn.{Turn}
use Rattle.state.specs.Bounds.{is_within, is_stack, is_good, fits_tables}
use Rattle.std.specs.Prelude.{Ok, Err}
use Rattle.state.specs.Gates.{source_fits, tables_fit, lent_refusal}
use Rattle.state.specs.Calls.{refused}
use Rattle.state.proofs.Bounds.{Within, is_within_facts}
use Rattle.state.proofs.Longer.{top_good}
use Rattle.token.specs.Records.{room_refusal}
use Rattle.outcome.specs.declared.Call.{Call}
use Rattle.outcome.specs.Outcomes.{values, limited}
use Rattle.outcome.specs.Steps.{top_frame, call_at, call_outcome}
use Rattle.outcome.proofs.StepWays.{call_at_ways}
use Rattle.plan.specs.declared.Plan.{Plan}
use Rattle.plan.specs.Code.{outcome_of, PlansIn, Here}
use Rattle.modes.specs.Code.{Near}
use Rattle.modes.proofs.Passes.{Passes}
use Rattle.commit.specs.declared.Next.{Next}
use Rattle.commit.specs.Records.{put, reached}
use Rattle.commit.specs.Code.{is_full, Commits, CommitsPlan, Committed, CommittedPlan}
use Rattle.commit.proofs.Nexts.{commits_plan, committed_same}
use Rattle.lexer.specs.declared.Place.{Place}
use Rattle.lexer.specs.Turns.{Gives, mark_of, turn_of}
use Rattle.lexer.specs.Calls.{called}
use Rattle.lexer.specs.Code.{outcome_at, moved_to, Standing}
use Rattle.lexer.proofs.Nexts.{limited_free}

-- what an open gate tells
pub record Lent (src : List ℕ) (s : Session) (list pool : ℕ) : Type 0 where
  pub source : length src ≤ 65536
  pub numbers : Within (length src) s
  pub good : is_good src s ≡ true
  pub tokens : s.tokens ≤ list / 8
  pub bytes : s.bytes ≤ pool
  pub places : list / 8 ≤ 65537
  pub room : pool ≤ 65536

pub lent_opened : (src : List ℕ) (s : Session) (list pool : ℕ) → lent_refusal src list pool s ≡ Ok tt → Lent src s list pool
unfolding lent_refusal tables_fit source_fits is_good fits_tables
lent_opened src s list pool e =
    let tables = leb pool 65536 && leb (list / 8) 65537 in
    let good = is_within (length src) s && is_stack src s in
    let marks = leb s.tokens (list / 8) && leb s.bytes pool in
    let large = unrefused (tables && leb (length src) 65536) _ _ e in
    let bad = (unrefused (good && marks) _ _ large.1).0 in
    let fits = &&-left tables (leb (length src) 65536) large.0 in
    record {
      source = leb-true _ _ (&&-right tables (leb (length src) 65536) large.0);
      numbers = is_within_facts (length src) s (&&-left (is_within (length src) s) (is_stack src s) (&&-left good marks bad));
      good = &&-left good marks bad;
      tokens = leb-true _ _ (&&-left (leb s.tokens (list / 8)) (leb s.bytes pool) (&&-right good marks bad));
      bytes = leb-true _ _ (&&-right (leb s.tokens (list / 8)) (leb s.bytes pool) (&&-right good marks bad));
      places = leb-true _ _ (&&-right (leb pool 65536) (leb (list / 8) 65537) fits);
      room = leb-true _ _ (&&-left (leb pool 65536) (leb (list / 8) 65537) fits);
    }

-- ---- over numbers and the top frame

module _ (call : Call) (src : List ℕ) (end : Bool) (f : Frame) (choices : Choices) (at : Place) (l q : List ℕ)
    (s : Standing src f at.mark (length l) (length q)) where
  pub step_here : Here src at.mark.span.position
  step_here = record { inside = s.marked.cursor.inside; short = s.marked.cursor.short }

  pub step_near : Near at.mark.span
  step_near = record { line = s.marked.cursor.line; column = s.marked.cursor.column }

  -- bytes are passed: no piece is written, so there is room
  pub step_passes : (p : Span) (x : Next Refusal) → Passes call src f at.mark.span p → (p.position ≡ at.mark.span.position → ⊥)
      → x ≡ moved_to at.mark p → Committed src at.mark l q (outcome_at call src end f choices at) x l q
  unfolding limited reached put values room_refusal
  step_passes p x o n e =
      let m = at.mark in
      let tokens : m.tokens + 0 ≡ m.tokens = omega arith in
      let bytes : m.bytes + 0 ≡ m.bytes = omega arith in
      let places = le-leb m.tokens (length l / 8) s.marked.tokens in
      let room = le-leb m.bytes (length q) s.marked.bytes in
      rw (o.told n choices at.depth end)
      (record {
        next = e ∙ rw (tokens, bytes, places, room, ← o.span);
        list = rw (tokens, bytes, places, room);
        pool = rw (tokens, bytes, places, room);
      })

  module _ (scratch : List ℕ) (plan : Plan Refusal)
      (p : PlansIn src end scratch
      (call_at call f src choices at.depth end at.mark.span.position (drop at.mark.span.position src)) plan) where
    pub step_commits : Commits src end scratch at.mark plan (length l) (length q)
    step_commits =
        record {
          marked = s.marked;
          ready = p.ready;
          inside =
              rw p.told
              (call_at_ways choices src at.depth at.mark.span.position end
              s.marked.cursor.inside f call).lies;
        }

    pub step_commits_plan : CommitsPlan src end scratch at.mark plan (length l) (length q)
    step_commits_plan = commits_plan src end scratch at.mark plan (length l) (length q) step_commits

    pub step_committed : (x : Next Refusal) (l' q' : List ℕ)
        → Committed src at.mark l q (limited at.depth at.mark.span.position (outcome_of src end plan)) x l' q'
        → Committed src at.mark l q (outcome_at call src end f choices at) x l' q'
    step_committed x l' q' c = rw p.told at c

    pub step_committed_plan : (x : Next Refusal) (l' q' : List ℕ)
        → CommittedPlan (λ (refusal : Refusal). refusal) src end at.mark at.depth l q plan x l' q'
        → Committed src at.mark l q (outcome_at call src end f choices at) x l' q'
    step_committed_plan x l' q' c = step_committed x l' q' (committed_same src end at.mark at.depth l q plan x l' q' c)

pub ruleset steps = (step_here, step_commits_plan, step_committed_plan)

-- ---- in a session

module _ (call : Call) (src : List ℕ) (end : Bool) (s : Session) (l q : List ℕ) where
  pub called_shut : (refusal : Refusal) → lent_refusal src (length l) (length q) s ≡ Err refusal → (r : Turn Refusal)
      → r ≡ refused refusal origin s → Gives (called call src end s l q) r l q
  unfolding called
  called_shut refusal e r h = rw e (record { turn = h; list = refl; pool = refl })

  -- after an open gate
  module _ (gate : lent_refusal src (length l) (length q) s ≡ Ok tt) where
    opened : Lent src s (length l) (length q)
    opened = lent_opened src s (length l) (length q) gate

    pub open_depth : (1 ≤ s.depth) × (s.depth ≤ 64)
    open_depth = (opened.numbers.depth_low, opened.numbers.depth_high)

    pub open_standing : Standing src (top_frame s) (mark_of s) (length l) (length q)
    open_standing = record {
      marked =
          record {
            cursor =
                record {
                  short = opened.source;
                  inside = opened.numbers.position;
                  line = opened.numbers.line_high;
                  column = opened.numbers.column_high;
                };
            tokens = opened.tokens;
            bytes = opened.bytes;
            places = opened.places;
            room = opened.room;
          };
      top = top_good src s opened.good;
    }

    module _ (x : Next Refusal) (l' q' : List ℕ)
        (c : Committed src (mark_of s) l q (call_outcome call src end s) x l' q') where
      pub open_free : is_full x.change s.depth ≡ false
      unfolding call_outcome
      open_free =
          rw c.next (limited_free src (mark_of s) (record { list = l; pool = q }) s.depth s.position _)

      pub open_gives : Gives (called call src end s l q) (turn_of s x) l' q'
      unfolding called
      open_gives = rw gate (record { turn = ap (turn_of s) c.next; list = c.list; pool = c.pool })
