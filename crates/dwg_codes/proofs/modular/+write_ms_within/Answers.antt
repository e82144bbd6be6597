use Rattle.std.proofs.Common.{arith, ◌+◌, ◌%◌}
use Rattle.dwg_codes.proofs.GroupWriting.{above_below, groups_left}
use Rattle.dwg_codes.proofs.ShortReading.{ms_length_last, ms_length_more, ms_last_written, ms_more_written, unit_bits}
use Rattle.dwg_codes.proofs.modular.+write_ms_within.Goals as goal

pub push_unit-requires-clause-room : goal.push_unit-requires-clause-room
push_unit-requires-clause-room t c = omega (arith, c.requires.room, ms_length_last c.args.more c.args.value c.requires.some c.if-value-lt32768.true)

pub returns-then-value-lt32768 : goal.returns-then-value-lt32768
returns-then-value-lt32768 t c = ms_last_written _ _ c.args.more c.args.value c.requires.some c.if-value-lt32768.true c.push_unit.ensures

pub push_unit-requires-2-clause-room : goal.push_unit-requires-2-clause-room
push_unit-requires-2-clause-room t c =
    omega (arith, c.requires.room, ms_length_more c.args.more c.args.value c.requires.some (omega (arith, c.if-value-lt32768.false)))

pub write_ms_within-requires : goal.write_ms_within-requires
write_ms_within-requires t c =
    let big = c.if-value-lt32768.false in
    let left = groups_left 32768 c.args.more c.args.value c.requires.some (omega (arith, big)) c.requires.value in
    let room = ms_length_more c.args.more c.args.value c.requires.some (omega (arith, big)) in (
      omega (arith, c.requires.some),
      (
        left,
        (
          above_below 32768 c.args.more c.args.value (omega arith) c.requires.some c.requires.value,
          omega (arith, c.requires.room, room, c.push_unit-2.ensures.spare, unit_bits (32768 + c.args.value % 32768)),
        ),
      ),
    )

pub returns : goal.returns
returns t c = ms_more_written _ _ _ c.args.more c.args.value c.requires.some (omega (arith, c.if-value-lt32768.false)) c.push_unit-2.ensures c.write_ms_within.ensures
