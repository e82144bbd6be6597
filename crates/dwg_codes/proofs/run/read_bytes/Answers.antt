use Rattle.std.proofs.Common.{arith}
use Rattle.dwg_bits.proofs.BitLaws.{length_of_bits_between}
use Rattle.dwg_bits.specs.Cursor.{rest}
use Rattle.dwg_codes.proofs.RunReading.{run_read, run_unread}
use Rattle.dwg_codes.proofs.run.read_bytes.Goals as goal

pub returns-then-left-from-clause-reads : goal.returns-then-left-from-clause-reads
returns-then-left-from-clause-reads c =
    let cursor = c.args.cursor.now in
    run_unread c.args.count (rest cursor)
    (omega (arith, length_of_bits_between cursor.bytes.now cursor.place cursor.end cursor.within, c.left.ensures, c.from.ensures, c.if-left-from.true))

pub returns-clause-reads : goal.returns-clause-reads
returns-clause-reads c =
    let taken = c.in_ok-bytes.ensures in
    run_read c.args.count c.in_ok-bytes.bytes.items c.from_vec.result (rest c.args.cursor.now) (rest c.take_bytes.new.cursor) c.from_vec.ensures taken.counted taken.small taken.prefix
