use Rattle.dwg_kinds.proofs.KindTables.{no_other, in_plain_entities, in_plain_objects, entities_listed}
use Rattle.dwg_kinds.proofs.SameKinds.{same_kinds, names_differ}
use Rattle.dwg_kinds.proofs.laws.kind_laws.Goals as goal

pub returns-clause-plain_entities : goal.returns-clause-plain_entities
returns-clause-plain_entities c = in_plain_entities

pub returns-clause-plain_objects : goal.returns-clause-plain_objects
returns-clause-plain_objects c = in_plain_objects

pub returns-clause-no_other : goal.returns-clause-no_other
returns-clause-no_other c = no_other

pub returns-clause-names : goal.returns-clause-names
returns-clause-names c = names_differ

pub returns-clause-entities : goal.returns-clause-entities
returns-clause-entities c = entities_listed

pub returns-clause-same : goal.returns-clause-same
returns-clause-same c = same_kinds
