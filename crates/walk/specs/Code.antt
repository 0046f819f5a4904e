-- A walk as the code has it: over numbers, with the top frame beside them.
--   top_in             the frame on top of so many slots
--   frame_after        the frame on top after a change, where `below` stands in the slot that is then on top
--   numbers_after      the numbers after a change: a frame that is entered, or that takes another's place, is written
--                      to its slot
--   mark_at            a mark with the cursor at another place
--   GoesAlong          steps in a row that only pass bytes: the mark after them, and how many are left
--   placed_at          the numbers with another place, and the depth and the marks
--   ended_at           the same where the walk has begun or its last answer is no refusal
--   Deep               numbers of a session, and the depth of a mode stack
--   Opened             what `walk_on` may rely on: a call is wanted, and the gate is open
--   Changes, Changed   what a change of frame may rely on, and what it gives
use Rattle.std.specs.Prelude.{ℕ, ◌+◌, ◌*◌, ◌-◌, ◌≤◌, ◌<◌, Bool, false, ◌||◌, List, ◌≡◌, eqb, length, get_or, drop, if◌then◌else◌}
use Rattle.std.specs.Prelude.{Ok}
use Rattle.byte.specs.Laid.{laid}
use Rattle.source.specs.declared.Span.{Span}
use Rattle.byte.specs.declared.Refusal.{Refusal}
use Rattle.state.specs.declared.Answer.{Answer}
use Rattle.state.specs.declared.Frame.{Frame}
use Rattle.state.specs.Bounds.{no_slot}
use Rattle.state.specs.Gates.{lent_refusal}
use Rattle.layout.specs.Sessions.{slot_numbers, frames_in, session_in}
use Rattle.layout.specs.Answers.{is_unrefused}
use Rattle.layout.specs.Lent.{place_numbers}
use Rattle.outcome.specs.declared.Call.{Call}
use Rattle.outcome.specs.declared.Change.{Change}
use Rattle.modes.specs.Code.{quick_on}
use Rattle.commit.specs.declared.Mark.{Mark}
use Rattle.commit.specs.Code.{is_full}
use Rattle.lexer.specs.Turns.{depth_after}

abbrev pub top_in : List ℕ → ℕ → Frame
top_in numbers depth = (get_or (frames_in 64 (drop 7 numbers)) (depth - 1) no_slot).frame

unfoldable pub frame_after : Frame → Change → Frame → Frame
frame_after f Change.Keep below = f
frame_after f (Change.Swap g) below = g
frame_after f (Change.Enter g) below = g
frame_after f Change.Leave below = below

unfoldable pub numbers_after : Change → ℕ → List ℕ → List ℕ
numbers_after Change.Keep depth numbers = numbers
numbers_after (Change.Swap f) depth numbers = laid numbers (7 + (depth - 1) * 3) (slot_numbers (record { frame = f }))
numbers_after (Change.Enter f) depth numbers = laid numbers (7 + depth * 3) (slot_numbers (record { frame = f }))
numbers_after Change.Leave depth numbers = numbers

abbrev pub mark_at : Mark → Span → Mark
mark_at m p = record { span = p; tokens = m.tokens; bytes = m.bytes }

pub record GoesAlong (call : Call) (src : List ℕ) (f : Frame) (m : Mark) (most : ℕ) (m' : Mark) (left' : ℕ) : Type 0 where
  pub mark : m' ≡ mark_at m (quick_on call src f m.span most).span
  pub left : left' ≡ (quick_on call src f m.span most).left

abbrev pub placed_at : Mark → ℕ → List ℕ → List ℕ
placed_at m depth numbers = laid numbers 0 (place_numbers m.span depth m.tokens m.bytes)

abbrev pub ended_at : Bool → Answer Refusal → Mark → ℕ → List ℕ → List ℕ
ended_at begun answer m depth numbers = if begun || is_unrefused answer then placed_at m depth numbers else numbers

pub record Deep (numbers : List ℕ) (depth : ℕ) : Type 0 where
  pub long : 199 ≤ length numbers
  pub low : 1 ≤ depth
  pub high : depth ≤ 64

pub record Opened (most : ℕ) (src numbers : List ℕ) (list pool : ℕ) : Type 0 where
  pub long : 199 ≤ length numbers
  pub gate : lent_refusal src list pool (session_in numbers) ≡ Ok tt
  pub some : 0 < most

pub record Changes (numbers : List ℕ) (depth : ℕ) (change : Change) : Type 0 where
  pub stack : Deep numbers depth
  pub free : is_full change depth ≡ false

pub record Changed (numbers : List ℕ) (depth : ℕ) (change : Change) (r : ℕ) (numbers' : List ℕ) : Type 0 where
  pub deep : r ≡ depth_after change depth
  pub holds : numbers' ≡ numbers_after change depth numbers
