use Rattle.std.proofs.Common.{arith, ap, length}
use Rattle.dwg_common.specs.Layouts.{older}
use Rattle.dwg_body_tests.proofs.Few.{few_written}
use Rattle.dwg_body_tests.proofs.reading.read_body14.Goals as goal

pub returns-in-Ok-Some-clause-few : goal.returns-in-Ok-Some-clause-few
returns-in-Ok-Some-clause-few g c =
    let small = g.met.B.BodyCode.laws (older c.args.size) c.args.base (search) (omega (arith, c.value-base.ensures.value, c.value-base.ensures.bound)) in
    let reads = rw c.in-Ok-Some.field-0-is at c.in-Ok-Some.ensures.reads in
    let few = few_written c.args.base (g.B.BodyCode.grammar (older c.args.size) c.args.base) c.in-Ok-Some.body c.args.main.now c.args.refs.now _ _ small reads in
    omega (arith, few.main, c.requires.main, (g.met.B.BodyCode14.sizes_alike c.args.size c.args.base c.in-Ok-Some.body).main)

pub returns-in-Ok-Some-clause-refs_few : goal.returns-in-Ok-Some-clause-refs_few
returns-in-Ok-Some-clause-refs_few g c =
    let small = g.met.B.BodyCode.laws (older c.args.size) c.args.base (search) (omega (arith, c.value-base.ensures.value, c.value-base.ensures.bound)) in
    let reads = rw c.in-Ok-Some.field-0-is at c.in-Ok-Some.ensures.reads in
    let few = few_written c.args.base (g.B.BodyCode.grammar (older c.args.size) c.args.base) c.in-Ok-Some.body c.args.main.now c.args.refs.now _ _ small reads in
    omega (arith, few.references, c.requires.refs, ap length (g.met.B.BodyCode14.sizes_alike c.args.size c.args.base c.in-Ok-Some.body).references)
