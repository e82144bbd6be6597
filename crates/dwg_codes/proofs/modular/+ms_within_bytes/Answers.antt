use Rattle.std.proofs.Common.{sym, arith}
use Rattle.dwg_codes.proofs.GroupWriting.{above_below, groups_left}
use Rattle.dwg_codes.proofs.ShortReading.{ms_length_last, ms_length_more}
use Rattle.dwg_codes.proofs.modular.+ms_within_bytes.Goals as goal

pub returns-then-value-lt32768-clause-length : goal.returns-then-value-lt32768-clause-length
returns-then-value-lt32768-clause-length t c = sym (ms_length_last c.args.more c.args.value c.requires.some c.if-value-lt32768.true)

pub ms_within_bytes-requires : goal.ms_within_bytes-requires
ms_within_bytes-requires t c =
    let big = c.if-value-lt32768.false in
    let left = groups_left 32768 c.args.more c.args.value c.requires.some (omega (arith, big)) c.requires.value in
    (omega (arith, c.requires.some), (left, (omega (arith, c.requires.few), above_below 32768 c.args.more c.args.value (omega arith) c.requires.some c.requires.value)))

pub returns-clause-length : goal.returns-clause-length
returns-clause-length t c = omega (arith, ms_length_more c.args.more c.args.value c.requires.some (omega (arith, c.if-value-lt32768.false)), c.ms_within_bytes.ensures.length)
