-- The plan at the opening of a text block.
--   block_plan   the block's frame becomes the top, with its label's range; nothing is written
use Rattle.std.specs.Prelude.{ℕ}
use Rattle.outcome.specs.declared.Change.{Change}
use Rattle.outcome.specs.declared.DocStringKind.{DocStringKind}
use Rattle.outcome.specs.Openings.{doc_frame}
use Rattle.byte.specs.declared.Refusal.{Refusal}
use Rattle.plan.specs.declared.Plan.{Plan}
use Rattle.plan.specs.Code.{goes_plan}

abbrev pub block_plan : DocStringKind → ℕ → ℕ → ℕ → Plan Refusal
block_plan kind start len after = goes_plan after (Change.Swap (doc_frame kind (record { start = start; len = len })))
