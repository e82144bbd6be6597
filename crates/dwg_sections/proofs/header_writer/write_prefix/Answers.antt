use Rattle.dwg_sections.proofs.HeaderWriting.{prefix_written}
use Rattle.dwg_sections.proofs.header_writer.write_prefix.Goals as goal

pub returns-clause-puts : goal.returns-clause-puts
returns-clause-puts c =
    prefix_written _ _ _ _ _ _ _ _ c.args.header.now _ _ _ _ _ c.bytes.ensures c.as_slice-locators.ensures c.to_le_bytes.ensures c.to_le_bytes-2.ensures c.to_le_bytes-3.ensures
    c.put.ensures c.put-2.ensures c.put-3.ensures c.put-4.ensures c.put-5.ensures c.put-6.ensures c.write_locators.ensures.puts
