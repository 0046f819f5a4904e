use Rattle.std.proofs.Common.{refl, ◌∙◌}
use Rattle.byte.proofs.Laid.{laid_front}
use Rattle.layout.specs.Answers.{answer_by}
use Rattle.layout.proofs.put_answer.Goals.{in-Done, in-Finished, in-Refused}
use Rattle.layout.proofs.put_answer.Goals as goal

pub returns : goal.returns
unfolding answer_by
returns g c =
    elim c.match-a.branch [
      | in-Done w ↦ rw w.in-Done.is (laid_front _ _ _ _ (c.copy_from_slice.ensures.after ∙ w.numbers-is) refl)
      | in-Finished w ↦ rw w.in-Finished.is (laid_front _ _ _ _ (c.copy_from_slice.ensures.after ∙ w.numbers-is) refl)
      | in-Refused w ↦ rw (w.in-Refused.is, ← w.number-number.ensures) (laid_front _ _ _ _ (c.copy_from_slice.ensures.after ∙ w.numbers-is) refl)
    ]
