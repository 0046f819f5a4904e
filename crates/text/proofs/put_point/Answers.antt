-- The code point's bytes are laid in a part of four. Assumes nothing.
use Rattle.std.proofs.Common.{◌∙◌, sym, ap, length, arith}
use Rattle.unit.proofs.Stands.{utf8_length}
use Rattle.text.proofs.Writes.{point_put, point_inside}
use Rattle.text.proofs.put_point.Goals as goal

pub put_utf8-requires : goal.put_utf8-requires
put_utf8-requires c = (c.requires, omega (arith, utf8_length c.args.code))

pub slice_bounds-point-end : goal.slice_bounds-point-end
slice_bounds-point-end c = point_inside c.args.code _ _ _ c.utf8_len.ensures c.put_utf8.ensures

pub slice_bounds-put_run-end : goal.slice_bounds-put_run-end
slice_bounds-put_run-end c =
    c.utf8_len.ensures ∙ sym (ap length (point_put c.args.code _ _ _ c.utf8_len.ensures c.put_utf8.ensures))

pub returns : goal.returns
returns c = c.put_run.ensures ∙ rw (point_put c.args.code _ _ _ c.utf8_len.ensures c.put_utf8.ensures)
