use Rattle.std.proofs.Common.{◌≡◌, arith, to_z-of_z, to_z, of_z, w64}
use Rattle.dwg_grammar.specs.ModularCodes.{signed_number}
use Rattle.dwg_codes.proofs.SignedReading.{signed_read}
use Rattle.dwg_codes.proofs.modular.read_signed_mc.Goals as goal

pub returns-then-magnitude-clause-reads : goal.returns-then-magnitude-clause-reads
returns-then-magnitude-clause-reads c =
    let read = c.in_ok-negative in
    let same : to_z w64 (of_z w64 c.signed_number-value.result) ≡ signed_number (read.negative, read.magnitude) = grind (arith, to_z-of_z, c.signed_number-value.ensures) in
    signed_read _ read.negative read.magnitude read.used _ (λ i. (c.type_inv.bytes i).fits) c.if-magnitude.true read.ensures.used read.ensures.found same
