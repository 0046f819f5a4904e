-- A step as the code has it: over drafts and numbers and the top frame, without the session.
--   total_of               how many value bytes drafts have
--   Cursor, Ahead          a cursor within a source that is not too long, and a place from it on
--   Writes                 a value can be written from a mark on, with the scratch part that it may be held in
--   Marked                 the cursor and the marks are within their bounds
--   past_draft, PastFits   the marks after a draft
--   DraftFits, DraftPut    a draft fits from the marks on; its record and its value stand there
--   DraftsFit, DraftsPut   the same of drafts
--   is_full                a frame would be the 65th
--   advanced, Advances     the numbers after so many tokens and value bytes, and that they fit
--   Commits, Works         a plan can be written, and lies from the cursor on; the same of what a plan tells
--   CommitsPlan            what `commit` asks of a plan, whose own refusal may be of any kind
--   Committed              what it gives of an outcome
--   renamed, CommittedAs   a next whose refusal bears another name; what is given of an outcome, so renamed
--   plan_next, plan_tables, CommittedPlan   what `commit` gives of a plan, whose own refusal may be of any kind
use Rattle.std.specs.Prelude.{ℕ, ◌+◌, ◌*◌, ◌/◌, ◌≤◌, Bool, false, List, [], ◌∷◌, ◌≡◌, leb, length}
use Rattle.source.specs.declared.Span.{Span}
use Rattle.state.specs.declared.Answer.{Answer}
use Rattle.token.specs.declared.Token.{Token}
use Rattle.outcome.specs.declared.Change.{Change}
use Rattle.outcome.specs.Outcomes.{Piece, Outcome, limited}
use Rattle.outcome.specs.Insides.{AllInside, ToldInside, Inside}
use Rattle.plan.specs.declared.Draft.{Draft}
use Rattle.plan.specs.declared.Drafts.{Drafts}
use Rattle.plan.specs.declared.Work.{Work}
use Rattle.byte.specs.declared.Refusal.{Refusal}
use Rattle.byte.specs.Refusals.{wait}
use Rattle.plan.specs.declared.Plan.{Plan}
use Rattle.plan.specs.Code.{drafts_of, pieces_of, Ready, AllReady, DraftsReady, PlanReady, outcome_of}
use Rattle.commit.specs.declared.Mark.{Mark}
use Rattle.commit.specs.declared.Next.{Next}
use Rattle.commit.specs.Records.{span_at, Tables, put_piece, put, answer_of, stays, reached}

unfoldable pub total_of : List Draft → ℕ
total_of [] = 0
total_of (d ∷ more) = d.len + total_of more

pub record Cursor (src : List ℕ) (p : Span) : Type 0 where
  pub short : length src ≤ 65536
  pub inside : p.position ≤ length src
  pub line : p.line ≤ p.position + 1
  pub column : p.column ≤ p.position + 1

pub record Ahead (src : List ℕ) (p : Span) (place : ℕ) : Type 0 where
  pub cursor : Cursor src p
  pub low : p.position ≤ place
  pub high : place ≤ length src

pub record Writes (src : List ℕ) (end : Bool) (scratch : List ℕ) (d : Draft) (pool mark : ℕ) : Type 0 where
  pub short : length src ≤ 65536
  pub ready : Ready src end scratch d
  pub fits : mark + d.len ≤ pool

-- the cursor and the marks are within their bounds
pub record Marked (src : List ℕ) (m : Mark) (list pool : ℕ) : Type 0 where
  pub cursor : Cursor src m.span
  pub tokens : m.tokens ≤ list / 8
  pub bytes : m.bytes ≤ pool
  pub places : list / 8 ≤ 65537
  pub room : pool ≤ 65536

-- the token of a draft of a step that ends at `after`
abbrev pub draft_token : List ℕ → ℕ → Mark → Draft → Token
draft_token src after m d = record {
  kind = d.kind;
  detail = d.detail;
  span = span_at src m.span d.place;
  start = m.bytes;
  len = d.len;
  end = after;
}

-- what a token's numbers need
pub record Drawn (src : List ℕ) (after : ℕ) (p : Span) (d : Draft) : Type 0 where
  pub ahead : Ahead src p d.place
  pub detail : d.detail ≤ length src
  pub len : d.len ≤ length src
  pub end : after ≤ length src

-- the marks after a draft, and that they fit
abbrev pub past_draft : Mark → Draft → Mark
past_draft m d = record { span = m.span; tokens = m.tokens + 1; bytes = m.bytes + d.len }

pub record PastFits (m : Mark) (d : Draft) : Type 0 where
  pub tokens : m.tokens + 1 ≤ 65537
  pub bytes : m.bytes + d.len ≤ 65536

-- a draft fits from the marks on
pub record DraftFits (src : List ℕ) (end : Bool) (scratch : List ℕ) (after : ℕ) (m : Mark) (d : Draft)
    (list pool : ℕ) : Type 0 where
  pub drawn : Drawn src after m.span d
  pub ready : Ready src end scratch d
  pub places : m.tokens * 8 + 8 ≤ list
  pub room : m.bytes + d.len ≤ pool
  pub past : PastFits m d

-- the tables with its record and its value from the marks on, and the marks after it
pub record DraftPut (src : List ℕ) (after : ℕ) (m : Mark) (d : Draft) (piece : Piece) (l q : List ℕ)
    (r : Mark) (l' q' : List ℕ) : Type 0 where
  pub mark : r ≡ past_draft m d
  pub list : l' ≡ (put_piece src after m (record { list = l; pool = q }) piece).list
  pub pool : q' ≡ (put_piece src after m (record { list = l; pool = q }) piece).pool

-- the drafts of a step that ends at `after` fit from the marks on
pub record DraftsFit (src : List ℕ) (end : Bool) (scratch : List ℕ) (after : ℕ) (m : Mark) (ds : Drafts)
    (list pool : ℕ) : Type 0 where
  pub marked : Marked src m list pool
  pub ready : AllReady (drafts_of ds) src end scratch
  pub all : AllInside m.span.position (length src) (pieces_of src end ds)
  pub ends : after ≤ length src
  pub narrow : total_of (drafts_of ds) ≤ length src
  pub places : m.tokens + length (drafts_of ds) ≤ list / 8
  pub room : m.bytes + total_of (drafts_of ds) ≤ pool

-- the tables with their records and values from the marks on
pub record DraftsPut (src : List ℕ) (after : ℕ) (m : Mark) (pieces : List Piece) (l q l' q' : List ℕ) : Type 0 where
  pub list : l' ≡ (put src after m (record { list = l; pool = q }) pieces).list
  pub pool : q' ≡ (put src after m (record { list = l; pool = q }) pieces).pool

unfoldable pub is_full : Change → ℕ → Bool
is_full Change.Keep depth = false
is_full (Change.Swap f) depth = false
is_full (Change.Enter f) depth = leb 64 depth
is_full Change.Leave depth = false

-- the numbers after count tokens with len value bytes
abbrev pub advanced : {R : Type 0} → List ℕ → Mark → Work → ℕ → ℕ → Next R
advanced src m w count len = record {
  answer = answer_of w.finished;
  mark = record { span = span_at src m.span w.after; tokens = m.tokens + count; bytes = m.bytes + len };
  change = w.change;
}

pub record Advances (src : List ℕ) (m : Mark) (w : Work) (count len : ℕ) : Type 0 where
  pub ahead : Ahead src m.span w.after
  pub places : m.tokens + count ≤ 65537
  pub room : m.bytes + len ≤ 65536

-- what a plan tells can be written, and lies from the cursor on
pub record Works (src : List ℕ) (end : Bool) (scratch : List ℕ) (m : Mark) (w : Work) (list pool : ℕ) : Type 0 where
  pub marked : Marked src m list pool
  pub ready : DraftsReady w.drafts src end scratch
  pub inside : ToldInside m.span.position (length src) (pieces_of src end w.drafts) w.after

-- what a plan stands for can be written, and lies from the cursor on
pub record Commits (src : List ℕ) (end : Bool) (scratch : List ℕ) (m : Mark) (plan : Plan Refusal) (list pool : ℕ)
    : Type 0 where
  pub marked : Marked src m list pool
  pub ready : PlanReady plan src end scratch
  pub inside : Inside m.span.position (length src) (outcome_of src end plan)

-- what `commit` asks: what the plan tells can be written, and a place that it refuses lies from the cursor on
pub record CommitsPlan {R : Type 0} (src : List ℕ) (end : Bool) (scratch : List ℕ) (m : Mark) (plan : Plan R)
    (list pool : ℕ) : Type 0 where
  pub marked : Marked src m list pool
  pub told : (w : Work) → plan ≡ Plan.Told w → Works src end scratch m w list pool
  pub refused : (refusal : R) (place : ℕ) → plan ≡ Plan.Refused refusal place → Ahead src m.span place

-- what `commit` gives of an outcome
pub record Committed (src : List ℕ) (m : Mark) (l q : List ℕ) (o : Outcome) (r : Next Refusal) (l' q' : List ℕ) : Type 0 where
  pub next : r ≡ (reached src m (record { list = l; pool = q }) o).next
  pub list : l' ≡ (reached src m (record { list = l; pool = q }) o).tables.list
  pub pool : q' ≡ (reached src m (record { list = l; pool = q }) o).tables.pool

-- an answer and a next whose refusal, if there is one, bears another name
abbrev pub answer_renamed : {R : Type 0} → (Refusal → R) → Answer Refusal → Answer R
answer_renamed name Answer.Done = Answer.Done
answer_renamed name Answer.Finished = Answer.Finished
answer_renamed name (Answer.Refused refusal span) = Answer.Refused (name refusal) span

abbrev pub renamed : {R : Type 0} → (Refusal → R) → Next Refusal → Next R
renamed name x = record { answer = answer_renamed name x.answer; mark = x.mark; change = x.change }

-- what is given of an outcome where refusals bear these names
pub record CommittedAs {R : Type 0} (name : Refusal → R) (src : List ℕ) (m : Mark) (l q : List ℕ) (o : Outcome)
    (r : Next R) (l' q' : List ℕ) : Type 0 where
  pub next : r ≡ renamed name (reached src m (record { list = l; pool = q }) o).next
  pub list : l' ≡ (reached src m (record { list = l; pool = q }) o).tables.list
  pub pool : q' ≡ (reached src m (record { list = l; pool = q }) o).tables.pool

-- a plan's own refusal stays as it is
unfoldable pub plan_next : {R : Type 0} → (Refusal → R) → List ℕ → Bool → Mark → ℕ → Tables → Plan R → Next R
plan_next name src end m depth t (Plan.Told w) =
    renamed name (reached src m t (limited depth m.span.position (outcome_of src end (Plan.Told w)))).next
plan_next name src end m depth t (Plan.Refused refusal place) = stays refusal (span_at src m.span place) m
plan_next name src end m depth t Plan.Wait = stays (name wait) m.span m

unfoldable pub plan_tables : {R : Type 0} → List ℕ → Bool → Mark → ℕ → Tables → Plan R → Tables
plan_tables src end m depth t (Plan.Told w) =
    (reached src m t (limited depth m.span.position (outcome_of src end (Plan.Told w)))).tables
plan_tables src end m depth t (Plan.Refused refusal place) = t
plan_tables src end m depth t Plan.Wait = t

-- what `commit` gives of a plan; what it refuses itself bears these names
pub record CommittedPlan {R : Type 0} (name : Refusal → R) (src : List ℕ) (end : Bool) (m : Mark) (depth : ℕ) (l q : List ℕ)
    (plan : Plan R) (r : Next R) (l' q' : List ℕ) : Type 0 where
  pub next : r ≡ plan_next name src end m depth (record { list = l; pool = q }) plan
  pub list : l' ≡ (plan_tables src end m depth (record { list = l; pool = q }) plan).list
  pub pool : q' ≡ (plan_tables src end m depth (record { list = l; pool = q }) plan).pool
