use Rattle.std.proofs.Common.{arith, ap, length, subst}
use Rattle.dwg_bits.specs.Sink.{Extends}
use Rattle.dwg_codes.proofs.RunReading.{length_of_run}
use Rattle.dwg_grammar.specs.Codes.{rc}
use Rattle.dwg_grammar.specs.ToEnd.{short_all}
use Rattle.dwg_appitems.proofs.ItemWriting.{room_after_count, text_written, text_value}
use Rattle.dwg_appitems.proofs.writing.write_text.Goals as goal

pub write_bytes-requires : goal.write_bytes-requires
write_bytes-requires c =
    let room = room_after_count c.args.mark.now c.args.text.now c.args.sink.now c.write.new.sink c.requires.room c.write.ensures in
    record { room = omega (arith, room, ap length c.bytes_with_range.ensures.same) }

pub write_bytes-requires-2 : goal.write_bytes-requires-2
write_bytes-requires-2 c =
    let room = room_after_count c.args.mark.now c.args.text.now c.args.sink.now c.write.new.sink c.requires.room c.write.ensures in
    record {
      room = omega (
        arith,
        room,
        ap length c.bytes_with_range.ensures.same,
        c.write_bytes.ensures.spare,
        length_of_run c.bytes_with_range.result.now,
        ap length c.bytes_with_range-2.ensures.same,
      );
    }

pub returns-clause-written : goal.returns-clause-written
returns-clause-written c =
    text_written c.args.mark.now c.args.text.now _ _ _ _ c.write.ensures
    (subst (λ bytes. Extends c.write.new.sink c.write_bytes.new.sink (short_all rc bytes)) c.bytes_with_range.ensures.same c.write_bytes.ensures)
    (subst (λ bytes. Extends c.write_bytes.new.sink c.write_bytes-2.new.sink (short_all rc bytes)) c.bytes_with_range-2.ensures.same c.write_bytes-2.ensures)

pub returns-clause-value : goal.returns-clause-value
returns-clause-value c = text_value c.args.mark.now c.args.text.now (search) c.bytes_with_range.ensures.bytes c.bytes_with_range-2.ensures.bytes c.requires.count
