use Rattle.dwg_sections.proofs.FramedSound.{section_stands}
use Rattle.dwg_sections.proofs.FramedComplete.{section_is_read, section_is_counted}
use Rattle.dwg_sections.proofs.FramedRefusals.{section_is_refused}
use Rattle.dwg_sections.proofs.laws.framed_laws.Goals as goal

pub returns-clause-sound : goal.returns-clause-sound
returns-clause-sound c = section_stands

pub returns-clause-complete : goal.returns-clause-complete
returns-clause-complete c = section_is_read

pub returns-clause-counted : goal.returns-clause-counted
returns-clause-counted c = section_is_counted

pub returns-clause-refused : goal.returns-clause-refused
returns-clause-refused c = section_is_refused
