use Rattle.std.proofs.Common.{arith, ◌+◌, ◌%◌}
use Rattle.dwg_bits.proofs.BitLaws.{length_of_low_bits}
use Rattle.dwg_codes.proofs.SignedReading.{signed_length_last, signed_length_more, signed_last_written, signed_more_written, signed_above}
use Rattle.dwg_codes.proofs.modular.+write_signed_within.Goals as goal

pub push-requires-clause-room : goal.push-requires-clause-room
push-requires-clause-room t c = omega (arith, c.requires.room, signed_length_last c.args.more c.args.negative c.args.magnitude c.requires.some c.if-magnitude-lt64.true)

pub returns-then-magnitude-lt64 : goal.returns-then-magnitude-lt64
returns-then-magnitude-lt64 t c =
    signed_last_written _ _ c.args.more c.args.negative c.args.magnitude _ c.requires.some c.if-magnitude-lt64.true c.last_byte.ensures.byte c.push.ensures

pub push-requires-2-clause-room : goal.push-requires-2-clause-room
push-requires-2-clause-room t c =
    omega (arith, c.requires.room, signed_length_more c.args.more c.args.negative c.args.magnitude c.requires.some (omega (arith, c.if-magnitude-lt64.false)))

pub write_signed_within-requires : goal.write_signed_within-requires
write_signed_within-requires t c =
    let big = c.if-magnitude-lt64.false in
    let above = signed_above c.args.more c.args.magnitude c.requires.some (omega (arith, big)) c.requires.value in
    let room = signed_length_more c.args.more c.args.negative c.args.magnitude c.requires.some (omega (arith, big)) in (
      omega (arith, c.requires.some),
      (above.0, (above.1, omega (arith, c.requires.room, room, c.push-2.ensures.spare, length_of_low_bits 8 (128 + c.args.magnitude % 128)))),
    )

pub returns : goal.returns
returns t c =
    signed_more_written _ _ _ c.args.more c.args.negative c.args.magnitude c.requires.some (omega (arith, c.if-magnitude-lt64.false)) c.push-2.ensures c.write_signed_within.ensures
