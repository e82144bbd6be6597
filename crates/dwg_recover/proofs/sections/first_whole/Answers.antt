use Rattle.std.proofs.Common.{sym, ◌∙◌, arith}
use Rattle.dwg_recover.proofs.SectionFinding.{begins, goes_on, ends_there, ends_nowhere}
use Rattle.dwg_recover.proofs.sections.first_whole.Goals as goal

pub places-init : goal.places-init
places-init g c = begins c.args.which c.args.bytes.now c.args.steps.now

pub returns-in_default-clause-first : goal.returns-in_default-clause-first
returns-in_default-clause-first g c =
    ends_nowhere c.args.which c.args.bytes.now c.places.counter c.places.at c.args.steps.now c.places.steps c.places.invariant (λ other after within. c.in_default.ensures.none other after)

pub returns-then-branch-clause-first : goal.returns-then-branch-clause-first
returns-then-branch-clause-first g c =
    ends_there c.args.which c.args.bytes.now c.places.counter c.places.at c.in-Some.place c.args.steps.now c.places.steps c.places.invariant c.in-Some.ensures.found
    (sym c.in_ok-is_whole.ensures.whole ∙ c.if-branch.true)

pub places-preserved : goal.places-preserved
places-preserved g c =
    goes_on c.args.which c.args.bytes.now c.places.counter c.places.at c.in-Some.place c.args.steps.now c.places.steps c.is_whole.new.steps c.places.invariant c.in-Some.ensures.found
    (sym c.in_ok-is_whole.ensures.whole ∙ c.if-branch.false) c.is_whole.ensures.steps

pub returns-clause-first : goal.returns-clause-first
returns-clause-first g c =
    ends_nowhere c.args.which c.args.bytes.now c.places.counter c.places.at c.args.steps.now c.places.steps c.places.invariant
    (λ other after within. absurd (omega (arith, c.places.invariant.far, c.places-test.false)))
