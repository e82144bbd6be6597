use Rattle.std.proofs.Common.{◌∙◌, arith}
use Rattle.dwg_recover.proofs.CandidatesAlong.{by_own, no_span, other_own, same_own}
use Rattle.dwg_recover.proofs.candidates.candidate.Goals as goal

pub returns-in_default-clause-frame : goal.returns-in_default-clause-frame
returns-in_default-clause-frame g c = no_span c.args.bytes.now c.args.number c.args.pair.now c.in_default.field-0 c.in_default.ensures.tried

pub returns-in_default-own_of_span-clause-frame : goal.returns-in_default-own_of_span-clause-frame
returns-in_default-own_of_span-clause-frame g c = by_own c.args.bytes.now c.args.number c.args.pair.now c.in-Ok.span _ c.in-Ok.ensures.tried c.in_default-own_of_span.ensures.own

pub returns-then-value-clause-frame : goal.returns-then-value-clause-frame
returns-then-value-clause-frame g c =
    other_own c.args.number c.in-Some.own c.args.pair.now c.in-Ok.span (λ same. c.if-value.true (omega (arith, same, c.value-2.ensures.value, c.value-3.ensures.value)))
    ∙ by_own c.args.bytes.now c.args.number c.args.pair.now c.in-Ok.span _ c.in-Ok.ensures.tried c.in-Some.ensures.own

pub returns-clause-frame : goal.returns-clause-frame
returns-clause-frame g c =
    same_own c.args.number c.in-Some.own c.args.pair.now c.in-Ok.span (λ null. c.if-value-eq0.false (omega (arith, null, c.value.ensures.value)))
    (omega (arith, c.if-value.false, c.value-2.ensures.value, c.value-3.ensures.value))
    ∙ by_own c.args.bytes.now c.args.number c.args.pair.now c.in-Ok.span _ c.in-Ok.ensures.tried c.in-Some.ensures.own
