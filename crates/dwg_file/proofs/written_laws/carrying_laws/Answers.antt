use Rattle.dwg_file.proofs.CanonicalLaws.{carrying_spells, carrying_is_counted, carrying_spells_no_other, carrying_is_done_once, preview_is_carried}
use Rattle.dwg_file.proofs.CanonicalParts.{no_picture, none_is_empty}
use Rattle.dwg_file.proofs.written_laws.carrying_laws.Goals as goal

pub returns-clause-spells : goal.returns-clause-spells
returns-clause-spells c = carrying_spells

pub returns-clause-no_other : goal.returns-clause-no_other
returns-clause-no_other c = carrying_spells_no_other c.drawing_laws.ensures.one

pub returns-clause-counted : goal.returns-clause-counted
returns-clause-counted c = carrying_is_counted

pub returns-clause-preview : goal.returns-clause-preview
returns-clause-preview c = preview_is_carried

pub returns-clause-once : goal.returns-clause-once
returns-clause-once c = carrying_is_done_once

pub returns-clause-none : goal.returns-clause-none
returns-clause-none c = none_is_empty

pub returns-clause-no_picture : goal.returns-clause-no_picture
returns-clause-no_picture c = no_picture
