use Rattle.std.proofs.Common.{length, ap, arith}
use Rattle.dwg_bits.proofs.BitLaws.{length_of_bits}
use Rattle.dwg_preview.specs.Previews.{prefix_bytes}
use Rattle.dwg_preview.proofs.Moving.{pieces_counted}
use Rattle.dwg_preview.proofs.PreviewWriting.{preview_written}
use Rattle.dwg_preview.proofs.writing.write_preview.Goals as goal

pub write_prefix-requires-clause-room : goal.write_prefix-requires-clause-room
write_prefix-requires-clause-room c =
    omega (arith, pieces_counted c.args.preview.now.place c.args.place c.args.preview.now.content.now c.requires.read, c.requires.room)

pub put-requires : goal.put-requires
put-requires c =
    let counted = pieces_counted c.args.preview.now.place c.args.place c.args.preview.now.content.now c.requires.read in
    let prefix = length_of_bits (prefix_bytes c.args.preview.now.place c.args.place c.args.preview.now.content.now) in
    omega (arith, counted, prefix, c.requires.room, c.write_prefix.ensures.spare, ap length c.further.ensures)

pub put-requires-2 : goal.put-requires-2
put-requires-2 c =
    let counted = pieces_counted c.args.preview.now.place c.args.place c.args.preview.now.content.now c.requires.read in
    let prefix = length_of_bits (prefix_bytes c.args.preview.now.place c.args.place c.args.preview.now.content.now) in
    omega (arith, counted, prefix, c.requires.room, c.write_prefix.ensures.spare, c.put.ensures.spare, ap length c.further.ensures, ap length c.end_sentinel.ensures)

pub returns : goal.returns
returns c =
    preview_written _ _ _ _ c.args.preview.now.place c.args.place c.args.preview.now.content.now _ _ c.requires.read c.requires.within
    c.further.ensures c.end_sentinel.ensures c.write_prefix.ensures c.put.ensures c.put-2.ensures
