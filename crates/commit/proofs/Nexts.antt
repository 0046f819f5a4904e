-- From a plan to its next, on each way through `commit`. Assumes nothing.
use Prim.Native.Nat.{ℕ, ◌+◌, ◌/◌, ◌≤◌}
use Rattle.std.specs.Prelude.{Ok}
use Rattle.std.specs.Prelude.{Err}
use Rattle.std.specs.Prelude.{Result}
use Rattle.byte.specs.declared.Refusal.{Refusal}
use mathlib.Core.Path.{◌≡◌, refl, sym, ap, ◌∙◌}
use mathlib.Core.Bool.{Bool, true, false, false≢true}
use mathlib.Core.List.{List, [], ◌∷◌}
use native.Mathlib.Omega.{arith}
use lib.ListN.{length}
use mir.Syntax.{w32}
use mir.Val.{Fits}
use borrow.Author.Tests.{leb-true, leb-false, le-ltb, lt-ltb}
use Rattle.source.specs.declared.Span.{Span}
use Rattle.state.specs.declared.Answer.{Answer}
use Rattle.token.specs.Records.{room_refusal}
use Rattle.outcome.specs.declared.Change.{Change}
use Rattle.outcome.specs.Outcomes.{Piece, Outcome, values, limited}
use Rattle.outcome.specs.Insides.{AllInside, PlaceInside}
use Rattle.plan.specs.declared.Work.{Work}
use Rattle.plan.specs.declared.Plan.{Plan}
use Rattle.plan.specs.Code.{drafts_of, pieces_of, outcome_of}
use Rattle.commit.specs.declared.Next.{Next}
use Rattle.commit.specs.declared.Mark.{Mark}
use Rattle.commit.specs.Records.{span_at, room_for, answer_of, stays, reached}
use Rattle.commit.specs.Code.{total_of, Ahead, DraftsFit, DraftsPut, is_full, advanced, Advances, Commits, CommitsPlan, Works}
use Rattle.commit.specs.Code.{Committed}
use Rattle.commit.specs.Code.{answer_renamed, renamed, CommittedAs, plan_next, plan_tables, CommittedPlan}
use Rattle.commit.proofs.Spans.{span_at_here}
use Rattle.commit.proofs.Records.{length-pieces, length-values}
use Rattle.commit.proofs.Putting.{room_facts}

-- pieces up to a place lie up to any after it
all_inside_wide : (after hi : ℕ) → after ≤ hi → (n : ℕ) (pieces : List Piece) → AllInside n after pieces
    → AllInside n hi pieces
all_inside_wide after hi h n [] all = tt
all_inside_wide after hi h n (p ∷ more) all = (
  record { low = all.0.low; high = omega (arith, all.0.high); detail = omega (arith, all.0.detail) },
  all_inside_wide after hi h p.place more all.1,
)

-- an answer that is no refusal has no name
answer_kept : {R : Type 0} (name : Refusal → R) (finished : Bool) → answer_renamed name (answer_of finished) ≡ answer_of finished
answer_kept name true = refl
answer_kept name false = refl

module _ (src : List ℕ) (end : Bool) (scratch : List ℕ) (m : Mark) (w : Work) (l q : List ℕ)
    (f : Works src end scratch m w (length l) (length q)) where
  work_values : length (values (pieces_of src end w.drafts)) ≡ total_of (drafts_of w.drafts)
  work_values = length-values src end scratch (drafts_of w.drafts) f.ready.all

  work_count : length (pieces_of src end w.drafts) ≡ length (drafts_of w.drafts)
  work_count = length-pieces src end (drafts_of w.drafts)

  work_narrow : total_of (drafts_of w.drafts) ≤ length src
  work_narrow = omega (arith, work_values, f.inside.narrow, f.inside.inside)

  pub work_total : total_of (drafts_of w.drafts) ≤ 65536
  work_total = omega (arith, work_narrow, f.marked.cursor.short)

  module _ (total : ℕ) (t : total ≡ total_of (drafts_of w.drafts)) where
    pub work_len : Fits w32 total
    work_len = record { fits = omega (arith, work_total) }

    module _ (count : ℕ) (k : count ≡ length (drafts_of w.drafts)) (told : Result (Unit {0}) Refusal)
        (e : told ≡ room_refusal (length l) (length q) m.tokens m.bytes count total) where
      room_pieces : told ≡ room_for m (record { list = l; pool = q }) (pieces_of src end w.drafts)
      room_pieces = e ∙ rw (k, t, work_count, work_values)

      pub work_refused : {R : Type 0} (name : Refusal → R) (r : Next R) (x : R) (refusal : Refusal) → told ≡ Err refusal
          → x ≡ name refusal → r ≡ stays x m.span m
          → CommittedAs name src m l q (outcome_of src end (Plan.Told w)) r l q
      unfolding outcome_of reached
      work_refused name r x refusal n k h = record {
        next = h ∙ rw (k, ← room_pieces, n);
        list = rw (← room_pieces, n);
        pool = rw (← room_pieces, n);
      }

      module _ (z : told ≡ Ok tt) where
        room_open : (m.tokens + count ≤ length l / 8) × (m.bytes + total ≤ length q)
        room_open = room_facts (length l) (length q) m.tokens m.bytes count total (sym e ∙ z)

        pub work_fits : (after : ℕ) → after ≡ w.after
            → DraftsFit src end scratch after m w.drafts (length l) (length q)
        work_fits after a = rw a (record {
          marked = f.marked;
          ready = f.ready.all;
          all = all_inside_wide _ _ f.inside.inside m.span.position (pieces_of src end w.drafts) f.inside.all;
          ends = f.inside.inside;
          narrow = work_narrow;
          places = rw (← k) room_open.0;
          room = rw (← t) room_open.1;
        })

        pub work_advances : Advances src m w count total
        work_advances = record {
          ahead = record { cursor = f.marked.cursor; low = f.inside.order; high = f.inside.inside };
          places = omega (arith, room_open.0, f.marked.places);
          room = omega (arith, room_open.1, f.marked.room);
        }

        pub work_written : {R : Type 0} (name : Refusal → R) (after : ℕ) → after ≡ w.after → (r : Next R) (l' q' : List ℕ)
            → DraftsPut src after m (pieces_of src end w.drafts) l q l' q'
            → r ≡ advanced src m w count total → CommittedAs name src m l q (outcome_of src end (Plan.Told w)) r l' q'
        unfolding outcome_of reached
        work_written name after a r l' q' p h =
            let same : room_for m (record { list = l; pool = q }) (pieces_of src end w.drafts) ≡ Ok tt = sym room_pieces ∙ z in
            record {
              next = h ∙ rw (k, t, same, work_count, work_values, answer_kept name w.finished);
              list = p.list ∙ rw (a, same);
              pool = p.pool ∙ rw (a, same);
            }

pub ruleset works = (work_total, work_len, work_refused, work_fits, work_advances, work_written)

-- the 64-frame limit
module _ (depth n : ℕ) (pieces : List Piece) (after : ℕ) (finished : Bool) where
  limited_full : (change : Change) → is_full change depth ≡ true
      → limited depth n (Outcome.Told pieces after change finished) ≡ Outcome.Refused Refusal.StackFull n
  unfolding is_full limited
  limited_full Change.Keep e = absurd (false≢true e)
  limited_full (Change.Swap f) e = absurd (false≢true e)
  limited_full (Change.Enter f) e = rw (le-ltb depth 64 (leb-true _ _ e))
  limited_full Change.Leave e = absurd (false≢true e)

  limited_free : (change : Change) → is_full change depth ≡ false
      → limited depth n (Outcome.Told pieces after change finished) ≡ Outcome.Told pieces after change finished
  unfolding is_full limited
  limited_free Change.Keep e = refl
  limited_free (Change.Swap f) e = refl
  limited_free (Change.Enter f) e = rw (lt-ltb depth 64 (leb-false _ _ e))
  limited_free Change.Leave e = refl

-- what a plan tells, as what is given of its outcome
module _ {R : Type 0} (name : Refusal → R) (src : List ℕ) (end : Bool) (m : Mark) (depth : ℕ) (l q : List ℕ) where
  told_plan : (w : Work) (r : Next R) (l' q' : List ℕ)
      → CommittedAs name src m l q (limited depth m.span.position (outcome_of src end (Plan.Told w))) r l' q'
      → CommittedPlan name src end m depth l q (Plan.Told w) r l' q'
  unfolding plan_next plan_tables
  told_plan w r l' q' c = record { next = c.next; list = c.list; pool = c.pool }

  module _ (plan : Plan R) where
    pub commit_wait : (r : Next R) (x : R) → plan ≡ Plan.Wait → x ≡ name Refusal.Wait → r ≡ stays x m.span m
        → CommittedPlan name src end m depth l q plan r l q
    unfolding plan_next plan_tables
    commit_wait r x e k h = rw e (record { next = h ∙ rw k; list = refl; pool = refl })

    pub commit_refused : (refusal : R) (place : ℕ) → plan ≡ Plan.Refused refusal place → (r : Next R) (span : Span)
        → span ≡ span_at src m.span place → r ≡ stays refusal span m → CommittedPlan name src end m depth l q plan r l q
    unfolding plan_next plan_tables
    commit_refused refusal place e r span p h = rw e (record { next = h ∙ rw p; list = refl; pool = refl })

    module _ (w : Work) (e : plan ≡ Plan.Told w) (full : Bool) (g : full ≡ is_full w.change depth) where
      pub commit_full : (r : Next R) (x : R) → full ≡ true → x ≡ name Refusal.StackFull → r ≡ stays x m.span m
          → CommittedPlan name src end m depth l q plan r l q
      unfolding outcome_of reached
      commit_full r x t k h =
          let here : ◌≡◌ {A = Next R} (stays x m.span m) (stays (name Refusal.StackFull) (span_at src m.span m.span.position) m) =
          rw k (ap (λ (p : Span). stays (name Refusal.StackFull) p m) (sym (span_at_here src m.span))) in
          rw e
          (told_plan w r l q
          (rw (limited_full depth m.span.position (pieces_of src end w.drafts) w.after w.finished w.change (sym g ∙ t))
          (record { next = h ∙ here; list = refl; pool = refl })))

      pub commit_told : full ≡ false → (r : Next R) (l' q' : List ℕ)
          → CommittedAs name src m l q (outcome_of src end (Plan.Told w)) r l' q'
          → CommittedPlan name src end m depth l q plan r l' q'
      unfolding outcome_of
      commit_told t r l' q' h =
          rw e
          (told_plan w r l' q'
          (rw (limited_free depth m.span.position (pieces_of src end w.drafts) w.after w.finished w.change (sym g ∙ t)) h))

module _ {R : Type 0} (src : List ℕ) (end : Bool) (scratch : List ℕ) (m : Mark) (plan : Plan R) (list pool : ℕ)
    (f : CommitsPlan src end scratch m plan list pool) where
  pub commit_behind : (refusal : R) (place : ℕ) → plan ≡ Plan.Refused refusal place → Ahead src m.span place
  commit_behind refusal place e = f.refused refusal place e

  pub commit_works : (w : Work) → plan ≡ Plan.Told w → Works src end scratch m w list pool
  commit_works w e = f.told w e

-- of a Refusal, `Commits` gives what `commit` asks
module _ (src : List ℕ) (end : Bool) (scratch : List ℕ) (m : Mark) (plan : Plan Refusal) (list pool : ℕ)
    (f : Commits src end scratch m plan list pool) where
  plan_works : (w : Work) → plan ≡ Plan.Told w → Works src end scratch m w list pool
  unfolding outcome_of
  plan_works w e = record { marked = f.marked; ready = (rw e at f).ready; inside = (rw e at f).inside }

  plan_ahead : (refusal : Refusal) (place : ℕ) → plan ≡ Plan.Refused refusal place → Ahead src m.span place
  unfolding outcome_of
  plan_ahead refusal place e =
      let i : PlaceInside m.span.position (length src) refusal place = (rw e at f).inside in
      record { cursor = f.marked.cursor; low = i.low; high = i.high }

  pub commits_plan : CommitsPlan src end scratch m plan list pool
  commits_plan = record { marked = f.marked; told = plan_works; refused = plan_ahead }

pub ruleset commits = (commit_wait, commit_behind, commit_refused, commit_full, commit_works, commit_told)

-- where each refusal is its own name, a plan's next is its outcome's
answer_same : (a : Answer Refusal) → answer_renamed (λ (refusal : Refusal). refusal) a ≡ a
answer_same Answer.Done = refl
answer_same Answer.Finished = refl
answer_same (Answer.Refused refusal span) = refl

abbrev answering : Next Refusal → Answer Refusal → Next Refusal
answering x a = record { answer = a; mark = x.mark; change = x.change }

renamed_same : (x : Next Refusal) → renamed (λ (refusal : Refusal). refusal) x ≡ x
renamed_same x = ap (answering x) (answer_same x.answer)

-- what is given of an outcome so renamed is what is given of it
module _ (src : List ℕ) (m : Mark) (l q : List ℕ) (o : Outcome) (r : Next Refusal) (l' q' : List ℕ) where
  pub as_committed : CommittedAs (λ (refusal : Refusal). refusal) src m l q o r l' q' → Committed src m l q o r l' q'
  as_committed c = record { next = c.next ∙ renamed_same _; list = c.list; pool = c.pool }

  pub committed_as : Committed src m l q o r l' q' → CommittedAs (λ (refusal : Refusal). refusal) src m l q o r l' q'
  committed_as c = record { next = c.next ∙ sym (renamed_same _); list = c.list; pool = c.pool }

pub committed_same : (src : List ℕ) (end : Bool) (m : Mark) (depth : ℕ) (l q : List ℕ) (plan : Plan Refusal) (r : Next Refusal)
    (l' q' : List ℕ) → CommittedPlan (λ (refusal : Refusal). refusal) src end m depth l q plan r l' q'
    → Committed src m l q (limited depth m.span.position (outcome_of src end plan)) r l' q'
unfolding plan_next plan_tables outcome_of limited reached
committed_same src end m depth l q (Plan.Told w) r l' q' c =
    as_committed src m l q (limited depth m.span.position (outcome_of src end (Plan.Told w))) r l' q'
    (record { next = c.next; list = c.list; pool = c.pool })
committed_same src end m depth l q (Plan.Refused refusal place) r l' q' c = record { next = c.next; list = c.list; pool = c.pool }
committed_same src end m depth l q Plan.Wait r l' q' c = record { next = c.next; list = c.list; pool = c.pool }

-- two results that meet one statement are equal
pub plan_one : {R : Type 0} (name : Refusal → R) (src : List ℕ) (end : Bool) (m : Mark) (depth : ℕ) (l q : List ℕ) (plan : Plan R)
    (r r' : Next R) (l₁ l₂ q₁ q₂ : List ℕ) → CommittedPlan name src end m depth l q plan r l₁ q₁
    → CommittedPlan name src end m depth l q plan r' l₂ q₂ → (r ≡ r') × (l₁ ≡ l₂) × (q₁ ≡ q₂)
plan_one name src end m depth l q plan r r' l₁ l₂ q₁ q₂ x y = (x.next ∙ sym y.next, x.list ∙ sym y.list, x.pool ∙ sym y.pool)
