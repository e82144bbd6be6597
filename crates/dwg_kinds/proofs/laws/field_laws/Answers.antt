use Rattle.dwg_kinds.proofs.SameKinds.{numbers_differ, words_differ}
use Rattle.dwg_kinds.proofs.laws.field_laws.Goals as goal

pub returns-clause-numbers : goal.returns-clause-numbers
returns-clause-numbers c = numbers_differ

pub returns-clause-words : goal.returns-clause-words
returns-clause-words c = words_differ
