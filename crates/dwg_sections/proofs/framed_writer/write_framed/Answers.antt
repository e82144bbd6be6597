use Rattle.dwg_sections.proofs.FramedWriting.{section_written}
use Rattle.dwg_sections.proofs.framed_writer.write_framed.Goals as goal

pub returns : goal.returns
returns c =
    section_written _ _ _ _ _ _ _ _ c.args.content.now _ _ _ c.put.ensures c.put-2.ensures c.put-3.ensures c.put-4.ensures c.put-5.ensures c.framed_pieces-pieces.ensures
