use Rattle.std.proofs.Common.{sym, arith}
use Rattle.dwg_codes.proofs.SignedReading.{signed_length_last, signed_length_more, signed_above}
use Rattle.dwg_codes.proofs.modular.+signed_within_bytes.Goals as goal

pub returns-then-magnitude-lt64-clause-length : goal.returns-then-magnitude-lt64-clause-length
returns-then-magnitude-lt64-clause-length t c = sym (signed_length_last c.args.more c.args.negative c.args.magnitude c.requires.some c.if-magnitude-lt64.true)

pub signed_within_bytes-requires : goal.signed_within_bytes-requires
signed_within_bytes-requires t c =
    let above = signed_above c.args.more c.args.magnitude c.requires.some (omega (arith, c.if-magnitude-lt64.false)) c.requires.value in
    (omega (arith, c.requires.some), (above.0, (omega (arith, c.requires.few), above.1)))

pub returns-clause-length : goal.returns-clause-length
returns-clause-length t c =
    omega (arith, signed_length_more c.args.more c.args.negative c.args.magnitude c.requires.some (omega (arith, c.if-magnitude-lt64.false)), c.signed_within_bytes.ensures.length)
