use Rattle.dwg_shapes.specs.LwPolylines.{width_pair}
use Rattle.dwg_shapes.proofs.WhereCounted.{some_members}
use Rattle.dwg_shapes.proofs.lwpolyline.known_widths_where.Goals as goal

pub returns-in-Some : goal.returns-in-Some
returns-in-Some c = some_members width_pair c.args.widths.now c.in-Some.many _ c.in-Some.is c.as_slice.ensures c.known_widths.ensures
