use Rattle.dwg_grammar.proofs.BodyLemmas.{free_of_body}
use Rattle.dwg_common.specs.CommonLaws.{entity_is_body, object_is_body}
use Rattle.dwg_common.specs.Entities.{entity_common}
use Rattle.dwg_common.specs.NonEntities.{object_common}
use Rattle.dwg_common.proofs.laws.common_laws.Goals as goal

pub returns : goal.returns
unfolding entity_common object_common
returns c = search (free_of_body, entity_is_body, object_is_body)
