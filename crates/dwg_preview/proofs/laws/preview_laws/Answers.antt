use Rattle.dwg_preview.proofs.ContentFound.{content_is_found}
use Rattle.dwg_preview.proofs.PreviewParts.{preview_is_counted, preview_is_one}
use Rattle.dwg_preview.proofs.Moving.{entries_are_moved, moved_is_content, moved_stays, moved_twice_is_moved, section_is_pieces}
use Rattle.dwg_preview.proofs.laws.preview_laws.Goals as goal

pub returns-clause-one : goal.returns-clause-one
returns-clause-one c = preview_is_one

pub returns-clause-counted : goal.returns-clause-counted
returns-clause-counted c = preview_is_counted

pub returns-clause-entries : goal.returns-clause-entries
returns-clause-entries c = entries_are_moved

pub returns-clause-content : goal.returns-clause-content
returns-clause-content c = moved_is_content

pub returns-clause-twice : goal.returns-clause-twice
returns-clause-twice c = moved_twice_is_moved

pub returns-clause-stays : goal.returns-clause-stays
returns-clause-stays c = moved_stays

pub returns-clause-pieces : goal.returns-clause-pieces
returns-clause-pieces c = section_is_pieces

pub returns-clause-found : goal.returns-clause-found
returns-clause-found c = content_is_found
