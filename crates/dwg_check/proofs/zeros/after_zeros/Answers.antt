use Rattle.dwg_check.proofs.Periods.{begins, goes_on, arrives}
use Rattle.dwg_check.proofs.zeros.after_zeros.Goals as goal

pub powers-init : goal.powers-init
powers-init g c = begins c.args.word c.args.zeros c.args.steps.now c.ranges.word.fits

pub powers-preserved : goal.powers-preserved
powers-preserved g c =
    goes_on c.args.word c.args.zeros c.powers.after c.powers.left c.powers.power c.args.steps.now c.powers.steps c.after_bit-after.result c.after_bit-after.new.steps
    c.powers.invariant c.powers-test.true c.after_bit-after.ensures.word c.after_bit-after.ensures.steps

pub returns-clause-word : goal.returns-clause-word
returns-clause-word g c = arrives c.args.word c.args.zeros c.powers.after c.powers.left c.powers.power c.powers.invariant.leads c.powers-test.false
