use Rattle.std.proofs.Common.{length, ap, arith}
use Rattle.dwg_preview.proofs.Contents.{content_reads, entries_lie}
use Rattle.dwg_preview.proofs.Moving.{length_of_prefix}
use Rattle.dwg_preview.proofs.PreviewWriting.{prefix_written}
use Rattle.dwg_preview.proofs.writing.write_prefix.Goals as goal

pub write_entries-requires-clause-there : goal.write_entries-requires-clause-there
write_entries-requires-clause-there c =
    (content_reads c.args.preview.now.place c.entry_count-count.result c.args.preview.now.content.now c.requires.read c.entry_count-count.ensures).within

pub write_entries-requires-clause-lie : goal.write_entries-requires-clause-lie
write_entries-requires-clause-lie c =
    entries_lie c.args.preview.now.place c.entry_count-count.result c.args.preview.now.content.now
    (content_reads c.args.preview.now.place c.entry_count-count.result c.args.preview.now.content.now c.requires.read c.entry_count-count.ensures)

pub write_entries-requires-clause-room : goal.write_entries-requires-clause-room
write_entries-requires-clause-room c =
    let reads = content_reads c.args.preview.now.place c.entry_count-count.result c.args.preview.now.content.now c.requires.read c.entry_count-count.ensures in
    let long = length_of_prefix c.args.preview.now.place c.args.place c.args.preview.now.content.now reads.some in
    omega (arith, long, c.entry_count-count.ensures, c.requires.room, c.put.ensures.spare, c.put-2.ensures.spare, c.put-3.ensures.spare, ap length c.begin_sentinel.ensures, ap length c.to_le_bytes.ensures)

pub returns : goal.returns
returns c =
    let reads = content_reads c.args.preview.now.place c.entry_count-count.result c.args.preview.now.content.now c.requires.read c.entry_count-count.ensures in
    prefix_written _ _ _ _ _ c.args.preview.now.place c.args.place c.entry_count-count.result c.args.preview.now.content.now _ _ c.begin_sentinel.ensures c.to_le_bytes.ensures c.entry_count-count.ensures reads.some
    c.put.ensures c.put-2.ensures c.put-3.ensures c.write_entries.ensures.puts
