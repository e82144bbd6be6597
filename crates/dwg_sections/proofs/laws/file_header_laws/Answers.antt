use Rattle.dwg_sections.proofs.HeaderSound.{begins_with_header}
use Rattle.dwg_sections.proofs.HeaderComplete.{header_is_read, header_is_counted, header_gives_version}
use Rattle.dwg_sections.proofs.LocatorFinding.{sections_are_located}
use Rattle.dwg_sections.proofs.LocatorRefusals.{repeated_is_first, missing_is_least}
use Rattle.dwg_sections.proofs.laws.file_header_laws.Goals as goal

pub returns-clause-sound : goal.returns-clause-sound
returns-clause-sound c = begins_with_header

pub returns-clause-complete : goal.returns-clause-complete
returns-clause-complete c = header_is_read

pub returns-clause-version : goal.returns-clause-version
returns-clause-version c = header_gives_version

pub returns-clause-counted : goal.returns-clause-counted
returns-clause-counted c = header_is_counted

pub returns-clause-located : goal.returns-clause-located
returns-clause-located c = sections_are_located

pub returns-clause-repeated : goal.returns-clause-repeated
returns-clause-repeated c = repeated_is_first

pub returns-clause-missing : goal.returns-clause-missing
returns-clause-missing c = missing_is_least
