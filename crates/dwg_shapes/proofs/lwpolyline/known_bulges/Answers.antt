use Rattle.dwg_grammar.specs.Codes.{bd}
use Rattle.dwg_shapes.proofs.WhereCounted.{some_members}
use Rattle.dwg_shapes.proofs.lwpolyline.known_bulges.Goals as goal

pub returns-in-Some : goal.returns-in-Some
returns-in-Some c = some_members bd c.args.bulges.now c.in-Some.many _ c.in-Some.is c.as_slice.ensures c.known_words.ensures
