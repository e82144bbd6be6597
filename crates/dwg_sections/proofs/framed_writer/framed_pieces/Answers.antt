use Rattle.dwg_sections.proofs.FramedWriting.{pieces_of_section}
use Rattle.dwg_sections.proofs.framed_writer.framed_pieces.Goals as goal

pub returns : goal.returns
returns c =
    pieces_of_section c.args.which c.args.content.now _ _ _ _ c.check.result c.check-word.result
    c.begin_sentinel.ensures c.to_le_bytes-size.ensures c.check.ensures c.check-word.ensures c.to_le_bytes.ensures c.end_sentinel.ensures
