use Rattle.std.proofs.Common.{refl}
use Rattle.dwg_text.proofs.Writing.{◌▷◌, written_whole}
use Rattle.dwg_text.proofs.sections.print_sections.Goals as goal

pub returns-clause-bytes : goal.returns-clause-bytes
returns-clause-bytes g c =
    written_whole c.new-writer.result c.end.new.self _ _ _ _ _ _ c.end.result c.new-writer.ensures.piece c.new-writer.ensures.fault refl
    (c.write_header.ensures ▷ c.end.ensures.written) c.end.ensures.whole c.end.ensures.cut
