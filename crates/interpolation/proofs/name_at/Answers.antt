-- The name ends where its run of bytes does. Assumes nothing.
use Rattle.std.proofs.Common.{◌≡◌, ◌-◌, ◌∙◌, length, take, drop, arith}
use Rattle.std.proofs.lemmas.List.{take_all, length-drop}
use Rattle.interpolation.proofs.Looks.{name_to}
use Rattle.interpolation.proofs.name_at.Goals as goal

pub returns : goal.returns
returns c =
    let src = c.args.src.now in
    let n = c.run_end-n.result in
    let rest : take (length src - n) (drop n src) ≡ drop n src =
    take_all _ _ (omega (arith, length-drop n src))
    in
    c.variable_of.ensures
    ∙ rw (c.follow-look.ensures, rest) (name_to src c.args.end c.args.from c.args.at n c.run_end-n.ensures)
