use Rattle.std.proofs.Common.{sym, arith}
use Rattle.dwg_codes.proofs.GroupWriting.{mc_length_last, mc_length_more, above_below, groups_left}
use Rattle.dwg_codes.proofs.modular.+mc_within_bytes.Goals as goal

pub returns-then-value-lt128-clause-length : goal.returns-then-value-lt128-clause-length
returns-then-value-lt128-clause-length t c = sym (mc_length_last c.args.more c.args.value c.requires.some c.if-value-lt128.true)

pub mc_within_bytes-requires : goal.mc_within_bytes-requires
mc_within_bytes-requires t c =
    let big = c.if-value-lt128.false in
    let left = groups_left 128 c.args.more c.args.value c.requires.some (omega (arith, big)) c.requires.value in
    (omega (arith, c.requires.some), (left, (omega (arith, c.requires.few), above_below 128 c.args.more c.args.value (omega arith) c.requires.some c.requires.value)))

pub returns-clause-length : goal.returns-clause-length
returns-clause-length t c = omega (arith, mc_length_more c.args.more c.args.value c.requires.some (omega (arith, c.if-value-lt128.false)), c.mc_within_bytes.ensures.length)
