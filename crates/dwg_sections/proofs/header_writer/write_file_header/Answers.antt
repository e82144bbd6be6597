use Rattle.dwg_sections.specs.FileHeader.{header_prefix}
use Rattle.dwg_sections.proofs.BytePuts.{whole_bytes, held_bytes}
use Rattle.dwg_sections.proofs.HeaderWriting.{header_written}
use Rattle.dwg_sections.proofs.header_writer.write_file_header.Goals as goal

pub as_bytes-requires : goal.as_bytes-requires
as_bytes-requires c = whole_bytes c.args.sink.now c.write_prefix.new.sink (header_prefix c.args.header.now) c.requires.empty c.write_prefix.ensures.puts

pub returns : goal.returns
returns c =
    let held = held_bytes c.args.sink.now c.write_prefix.new.sink (header_prefix c.args.header.now) c.as_bytes.result.now c.requires.empty c.write_prefix.ensures.puts c.word_after-word.ensures.small c.as_bytes.ensures in
    header_written _ _ _ _ c.args.header.now _ _ _ _ c.as_slice.ensures held c.word_after-word.ensures.word c.to_le_bytes.ensures c.write_prefix.ensures.puts c.put.ensures c.put-2.ensures
