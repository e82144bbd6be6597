use Rattle.std.proofs.Common.{ap, Some}
use Rattle.dwg_grammar.specs.Codes.{bl_by}
use Rattle.dwg_codes.proofs.TagReading.{read_at}
use Rattle.dwg_codes.proofs.tagged.CodeBLTagged.read_payload.Goals as goal

pub returns-in_ok-read-in-1-clause-reads : goal.returns-in_ok-read-in-1-clause-reads
returns-in_ok-read-in-1-clause-reads c = read_at bl_by _ 1 _ _ _ _ c.in-1.is (ap Some c.from.ensures) c.in_ok-read-in-1.ensures.reads
