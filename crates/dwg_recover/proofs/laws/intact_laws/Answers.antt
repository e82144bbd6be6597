use Rattle.dwg_recover.proofs.IntactLemmas.{intact_objects_are_kept}
use Rattle.dwg_recover.proofs.IntactParts.{canonical_parts_stand}
use Rattle.dwg_recover.proofs.SectionsOfFile.{section_laws}
use Rattle.dwg_recover.proofs.laws.intact_laws.Goals as goal

pub returns-clause-stand : goal.returns-clause-stand
returns-clause-stand c = canonical_parts_stand

pub returns-clause-intact : goal.returns-clause-intact
returns-clause-intact c = intact_objects_are_kept (section_laws c.file_header_laws.ensures.sound c.file_header_laws.ensures.complete c.framed_laws.ensures.sound c.framed_laws.ensures.complete)
