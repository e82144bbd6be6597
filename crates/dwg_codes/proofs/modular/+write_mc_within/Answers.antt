use Rattle.std.proofs.Common.{arith, ◌+◌, ◌%◌}
use Rattle.dwg_bits.proofs.BitLaws.{length_of_low_bits}
use Rattle.dwg_codes.proofs.GroupWriting.{mc_length_last, mc_length_more, mc_last_written, mc_more_written, above_below, groups_left}
use Rattle.dwg_codes.proofs.modular.+write_mc_within.Goals as goal

pub push-requires-clause-room : goal.push-requires-clause-room
push-requires-clause-room t c = omega (arith, c.requires.room, mc_length_last c.args.more c.args.value c.requires.some c.if-value-lt128.true)

pub returns-then-value-lt128 : goal.returns-then-value-lt128
returns-then-value-lt128 t c = mc_last_written _ _ c.args.more c.args.value c.requires.some c.if-value-lt128.true c.push.ensures

pub push-requires-2-clause-room : goal.push-requires-2-clause-room
push-requires-2-clause-room t c =
    omega (arith, c.requires.room, mc_length_more c.args.more c.args.value c.requires.some (omega (arith, c.if-value-lt128.false)))

pub write_mc_within-requires : goal.write_mc_within-requires
write_mc_within-requires t c =
    let big = c.if-value-lt128.false in
    let left = groups_left 128 c.args.more c.args.value c.requires.some (omega (arith, big)) c.requires.value in
    let room = mc_length_more c.args.more c.args.value c.requires.some (omega (arith, big)) in (
      omega (arith, c.requires.some),
      (
        left,
        (
          above_below 128 c.args.more c.args.value (omega arith) c.requires.some c.requires.value,
          omega (arith, c.requires.room, room, c.push-2.ensures.spare, length_of_low_bits 8 (128 + c.args.value % 128)),
        ),
      ),
    )

pub returns : goal.returns
returns t c = mc_more_written _ _ _ c.args.more c.args.value c.requires.some (omega (arith, c.if-value-lt128.false)) c.push-2.ensures c.write_mc_within.ensures
