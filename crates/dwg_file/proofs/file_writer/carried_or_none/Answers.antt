use Rattle.dwg_file.proofs.CanonicalParts.{no_picture}
use Rattle.dwg_file.proofs.file_writer.carried_or_none.Goals as goal

pub returns-in-None-clause-is : goal.returns-in-None-clause-is
returns-in-None-clause-is c = no_picture
