use Rattle.std.proofs.Common.{arith}
use Rattle.dwg_common.specs.Layouts.{NEWER}
use Rattle.dwg_body_tests.proofs.Few.{few_written}
use Rattle.dwg_body_tests.proofs.reading.read_body.Goals as goal

pub returns-in-Ok-Some-clause-few : goal.returns-in-Ok-Some-clause-few
returns-in-Ok-Some-clause-few g c =
    let small = g.met.B.BodyCode.laws NEWER c.args.base (omega arith) (omega (arith, c.value-base.ensures.value, c.value-base.ensures.bound)) in
    let reads = rw c.in-Ok-Some.field-0-is at c.in-Ok-Some.ensures.reads in
    let few = few_written c.args.base (g.B.BodyCode.grammar NEWER c.args.base) c.in-Ok-Some.body c.args.main.now c.args.refs.now _ _ small reads in
    omega (arith, few.main, c.requires.main)

pub returns-in-Ok-Some-clause-refs_few : goal.returns-in-Ok-Some-clause-refs_few
returns-in-Ok-Some-clause-refs_few g c =
    let small = g.met.B.BodyCode.laws NEWER c.args.base (omega arith) (omega (arith, c.value-base.ensures.value, c.value-base.ensures.bound)) in
    let reads = rw c.in-Ok-Some.field-0-is at c.in-Ok-Some.ensures.reads in
    let few = few_written c.args.base (g.B.BodyCode.grammar NEWER c.args.base) c.in-Ok-Some.body c.args.main.now c.args.refs.now _ _ small reads in
    omega (arith, few.references, c.requires.refs)
