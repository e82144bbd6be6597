use Rattle.std.proofs.Common.{◌≡◌, ◌<◌, length, arith}
use Rattle.std.specs.Prelude.{IfNone}
use Rattle.dwg_bits.proofs.BitLaws.{length_of_bits_between}
use Rattle.dwg_bits.specs.Cursor.{rest}
use Rattle.dwg_codes.proofs.FixedReading.{fixed_reads, rest_stays}
use Rattle.dwg_appitems.proofs.handle.CodeHandleBitCode.read.Goals as goal

pub returns-clause-reads : goal.returns-clause-reads
returns-clause-reads c =
    let short : IfNone c.take.result (length (rest c.args.cursor.now) < 64) = grind (arith, length_of_bits_between) in
    let same : IfNone c.take.result (rest c.take.new.self ≡ rest c.args.cursor.now) = grind (arith, rest_stays) in
    fixed_reads 64 c.take.result _ _ c.take.ensures.bound c.take.ensures.prefix short same
