use Rattle.dwg_recover.proofs.MapKeeping.{candidates_are_of_pairs}
use Rattle.dwg_recover.proofs.FoundParts.{content_is_taken, header_found, pages_give_pairs, parts_are_kept, section_is_whole, walk_is_located}
use Rattle.dwg_recover.proofs.SectionsOfFile.{section_laws}
use Rattle.dwg_recover.proofs.laws.part_laws.Goals as goal

pub returns-clause-header : goal.returns-clause-header
returns-clause-header c = header_found (section_laws c.file_header_laws.ensures.sound c.file_header_laws.ensures.complete c.framed_laws.ensures.sound c.framed_laws.ensures.complete)

pub returns-clause-whole : goal.returns-clause-whole
returns-clause-whole c = section_is_whole (section_laws c.file_header_laws.ensures.sound c.file_header_laws.ensures.complete c.framed_laws.ensures.sound c.framed_laws.ensures.complete)

pub returns-clause-content : goal.returns-clause-content
returns-clause-content c = content_is_taken (section_laws c.file_header_laws.ensures.sound c.file_header_laws.ensures.complete c.framed_laws.ensures.sound c.framed_laws.ensures.complete)

pub returns-clause-located : goal.returns-clause-located
returns-clause-located c = walk_is_located

pub returns-clause-pages : goal.returns-clause-pages
returns-clause-pages c = pages_give_pairs

pub returns-clause-candidates : goal.returns-clause-candidates
returns-clause-candidates c = candidates_are_of_pairs

pub returns-clause-kept : goal.returns-clause-kept
returns-clause-kept c = parts_are_kept
