use Rattle.std.proofs.Common.{sym, ◌∙◌, ap, [], ◌+◌, ◌/◌, drop, get_or}
use Rattle.std.specs.Prelude.{bit_xor}
use Rattle.dwg_check.proofs.AppliedRows.{applied}
use Rattle.dwg_check.specs.declared.zeros.TheConstants.{POWERS}
use Rattle.dwg_check.proofs.Powers.{one_bit_less, no_bit_left, power_applied}
use Rattle.dwg_check.proofs.zeros.after_power.Goals as goal

pub bits-preserved : goal.bits-preserved
bits-preserved c =
    ap (λ p. bit_xor (bit_xor c.bits.after p) (applied (drop (c.bits.bit + 1) (get_or POWERS c.args.power [])) (c.bits.rest / 2))) c.part-after.ensures
    ∙ one_bit_less c.args.power c.bits.bit c.bits.after c.bits.rest c.requires c.bits-test.true ∙ c.bits.invariant

pub returns : goal.returns
returns c =
    sym (no_bit_left c.args.power c.bits.bit c.bits.after c.bits.rest c.requires c.bits-test.false)
    ∙ c.bits.invariant ∙ power_applied c.args.power c.args.word c.requires c.ranges.word.fits
