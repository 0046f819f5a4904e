-- What a plan stands for: the outcome that it makes of a source.
--   made_by, made                      the value of a draft
--   drafts_of                          the drafts, in order
--   piece_of, pieces_of, outcome_of    a draft, drafts and a plan in the outcome's words
--   Able, Ready                        a draft whose value can be written: its length is the value's, and its ranges
--                                      lie within the source; a value that is held stands at the start of the scratch
--                                      part
--   AllReady, DraftsReady, PlanReady   the same of drafts, and of a plan
--   PlansIn                            the plan makes this outcome, and can be written with this scratch part
--   Plans                              the same without one: what the contract of each routine says that fills none
--   Here                               a place of a source that is not too long; its end is one
--   Named   a label's range within the source
use Rattle.std.specs.Prelude.{ℕ, ◌+◌, ◌-◌, ◌≤◌, Bool, false, List, [], ◌∷◌, ◌≡◌, eqb, length, take, drop, if◌then◌else◌}
use Rattle.state.specs.declared.Label.{Label}
use Rattle.state.specs.Bounds.{label_bytes}
use Rattle.unit.specs.Readings.{text_at}
use Rattle.text.specs.Code as text
use Rattle.number.specs.Numbers as number
use Rattle.sheet.specs.Code.{sheet_of}
use Rattle.outcome.specs.declared.Change.{Change}
use Rattle.outcome.specs.Outcomes.{Piece, Outcome}
use Rattle.plan.specs.declared.Making.{Making}
use Rattle.plan.specs.declared.Draft.{Draft}
use Rattle.plan.specs.declared.Drafts.{Drafts}
use Rattle.byte.specs.declared.Refusal.{Refusal}
use Rattle.plan.specs.declared.Plan.{Plan}

unfoldable pub made_by : Making → List ℕ → Bool → ℕ → ℕ → List ℕ
made_by Making.Copied src end from to = take (to - from) (drop from src)
made_by (Making.Held mode label) src end from to =
    text.value_of (text_at mode (label_bytes src label) end from (drop from src))
made_by (Making.Text mode label) src end from to = text.value_of (text_at mode (label_bytes src label) end from (drop from src))
made_by Making.Number src end from to = number.value_of src from to
made_by (Making.Sheet blank width) src end from to =
    sheet_of (record { blank = blank; width = width }) from (take (to - from) (drop from src))

abbrev pub made : List ℕ → Bool → Draft → List ℕ
made src end d = made_by d.making src end d.from d.to

abbrev pub piece_of : List ℕ → Bool → Draft → Piece
piece_of src end d = record { kind = d.kind; detail = d.detail; place = d.place; value = made src end d }

-- the drafts, in order
abbrev pub drafts_of : Drafts → List Draft
drafts_of Drafts.None = []
drafts_of (Drafts.One d) = d ∷ []
drafts_of (Drafts.Two d e) = d ∷ e ∷ []

unfoldable pub pieces : List ℕ → Bool → List Draft → List Piece
pieces src end [] = []
pieces src end (d ∷ more) = piece_of src end d ∷ pieces src end more

abbrev pub pieces_of : List ℕ → Bool → Drafts → List Piece
pieces_of src end ds = pieces src end (drafts_of ds)

unfoldable pub outcome_of : List ℕ → Bool → Plan Refusal → Outcome
outcome_of src end (Plan.Told w) = Outcome.Told (pieces_of src end w.drafts) w.after w.change w.finished
outcome_of src end (Plan.Refused refusal place) = Outcome.Refused refusal place
outcome_of src end Plan.Wait = Outcome.Wait

pub record Here (src : List ℕ) (at : ℕ) : Type 0 where
  pub inside : at ≤ length src
  pub short : length src ≤ 65536

pub record Named (src : List ℕ) (label : Label) : Type 0 where
  pub inside : label.start + label.len ≤ length src
  pub short : label.len ≤ 64

pub record Range (src : List ℕ) (from to : ℕ) : Type 0 where
  pub order : from ≤ to
  pub inside : to ≤ length src

pub record Block (src : List ℕ) (label : Label) (from : ℕ) : Type 0 where
  pub start : from ≤ length src
  pub name : Named src label

-- a text's value of `len` bytes stands at the start of the scratch part
pub record Kept (src : List ℕ) (label : Label) (from : ℕ) (scratch : List ℕ) (len : ℕ) (value : List ℕ) : Type 0 where
  pub block : Block src label from
  pub same : take len scratch ≡ value

abbrev pub Able : Making → List ℕ → List ℕ → ℕ → ℕ → ℕ → List ℕ → Type 0
Able Making.Copied src scratch from to len value = Range src from to
Able (Making.Held mode label) src scratch from to len value = Kept src label from scratch len value
Able (Making.Text mode label) src scratch from to len value = Block src label from
Able Making.Number src scratch from to len value = Range src from to
Able (Making.Sheet blank width) src scratch from to len value = Range src from to

pub record Ready (src : List ℕ) (end : Bool) (scratch : List ℕ) (d : Draft) : Type 0 where
  pub size : d.len ≡ length (made src end d)
  pub able : Able d.making src scratch d.from d.to d.len (made src end d)

abbrev pub AllReady : List Draft → List ℕ → Bool → List ℕ → Type 0
AllReady [] src end scratch = Unit {0}
AllReady (d ∷ more) src end scratch = Ready src end scratch d × AllReady more src end scratch

-- there are two at most, and each can be written
pub record DraftsReady (ds : Drafts) (src : List ℕ) (end : Bool) (scratch : List ℕ) : Type 0 where
  pub few : length (drafts_of ds) ≤ 2
  pub all : AllReady (drafts_of ds) src end scratch

abbrev pub PlanReady : Plan Refusal → List ℕ → Bool → List ℕ → Type 0
PlanReady (Plan.Told w) src end scratch = DraftsReady w.drafts src end scratch
PlanReady (Plan.Refused refusal place) src end scratch = Unit {0}
PlanReady Plan.Wait src end scratch = Unit {0}

pub record PlansIn (src : List ℕ) (end : Bool) (scratch : List ℕ) (o : Outcome) (r : Plan Refusal) : Type 0 where
  pub told : outcome_of src end r ≡ o
  pub ready : PlanReady r src end scratch

abbrev pub Plans : List ℕ → Bool → Outcome → Plan Refusal → Type 0
Plans src end o r = PlansIn src end [] o r

abbrev pub copied_draft : ℕ → ℕ → ℕ → ℕ → ℕ → Draft
copied_draft kind detail place from to =
    record { kind = kind; detail = detail; place = place; making = Making.Copied; from = from; to = to; len = to - from }

abbrev pub no_drafts : Drafts
no_drafts = Drafts.None

abbrev pub one_draft : Draft → Drafts
one_draft d = Drafts.One d

abbrev pub two_drafts : Draft → Draft → Drafts
two_drafts d e = Drafts.Two d e

abbrev pub work_plan : Drafts → ℕ → Change → Plan Refusal
work_plan drafts after change = Plan.Told (record { drafts = drafts; after = after; change = change; finished = false })

abbrev pub goes_plan : ℕ → Change → Plan Refusal
goes_plan after change = work_plan no_drafts after change

abbrev pub one_plan : Draft → ℕ → Change → Plan Refusal
one_plan d after change = work_plan (one_draft d) after change

abbrev pub parted_plan : Draft → Draft → ℕ → Change → Plan Refusal
parted_plan part d after change = if eqb part.len 0 then one_plan d after change else work_plan (two_drafts part d) after change

-- nothing is left of the text: this at the announced end, else wait
abbrev pub ending_plan : {R : Type 0} → Bool → Plan R → Plan R
ending_plan end p = if end then p else Plan.Wait
