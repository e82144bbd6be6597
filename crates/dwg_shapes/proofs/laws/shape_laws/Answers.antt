use Rattle.dwg_shapes.specs.ShapeLaws.{bodies_are_free}
use Rattle.dwg_shapes.proofs.laws.shape_laws.Goals as goal

pub returns : goal.returns
returns c = search bodies_are_free
