use Rattle.dwg_sections.proofs.HeaderWriting.{locator_written}
use Rattle.dwg_sections.proofs.header_writer.write_locator.Goals as goal

pub returns : goal.returns
returns c = locator_written _ _ _ _ c.args.locator.now _ _ c.to_le_bytes.ensures c.to_le_bytes-2.ensures c.put.ensures c.put-2.ensures c.put-3.ensures
