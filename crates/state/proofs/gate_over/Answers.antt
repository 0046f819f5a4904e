use Rattle.state.proofs.Gates.{gate_large, gate_numbers, gate_frames, gate_open}
use Rattle.state.proofs.gate_over.Goals.{then-not-is_within-via-then-not-is_within}
use Rattle.state.proofs.gate_over.Goals.{then-not-is_within-via-else-not-is_within+then-not-are_frames}
use Rattle.state.proofs.gate_over.Goals as goal

pub returns-then-src-gt65536 : goal.returns-then-src-gt65536
returns-then-src-gt65536 g c = gate_large _ _ _ _ c.if-src-gt65536.true

pub returns-then-not-is_within : goal.returns-then-not-is_within
returns-then-not-is_within g c =
    elim c.then-not-is_within.branch [
      | then-not-is_within-via-then-not-is_within w ↦
          gate_numbers _ _ _ _ c.if-src-gt65536.false _ c.is_within.ensures w.if-not-is_within.true
      | then-not-is_within-via-else-not-is_within+then-not-are_frames w ↦
          gate_frames _ _ _ _ c.if-src-gt65536.false _ c.is_within.ensures w.if-not-is_within.false _
          w.are_frames.ensures w.if-not-are_frames.true
    ]

pub returns : goal.returns
returns g c =
    gate_open _ _ _ _ c.if-src-gt65536.false _ c.is_within.ensures c.if-not-is_within.false _ c.are_frames.ensures
    c.if-not-are_frames.false
