use Rattle.dwg_entities.specs.BodiesLaws.{bodies_are_free}
use Rattle.dwg_entities.proofs.laws.entity_laws.Goals as goal

pub returns : goal.returns
returns c = search bodies_are_free
