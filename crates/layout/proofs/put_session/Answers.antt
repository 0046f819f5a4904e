use Rattle.std.proofs.Common.{◌∙◌}
use Rattle.layout.proofs.Sessions.{head_laid, session_laid}
use Rattle.layout.proofs.put_session.Goals as goal

pub returns : goal.returns
returns c =
    let head = head_laid c.args.numbers.now c.put_place.new.numbers c.args.s c.choices_number.result c.requires
    (c.put_place.ensures ∙ rw c.span_of.ensures) c.choices_number.ensures in
    session_laid _ _ _ c.args.s c.requires head c.put_frames.ensures
