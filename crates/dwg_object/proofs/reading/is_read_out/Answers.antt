use Rattle.std.proofs.Common.{arith}
use Rattle.std.proofs.lemmas.Bool.Decides.{nat_tests}
use Rattle.dwg_bits.proofs.BitLaws.{length_of_bits_between}
use Rattle.dwg_object.proofs.reading.is_read_out.Goals as goal

pub returns-then-left-eq0 : goal.returns-then-left-eq0
returns-then-left-eq0 c =
    let main = c.args.main.now in
    let refs = c.args.refs.now in
    let long = length_of_bits_between main.bytes.now main.place main.end main.within in
    let wide = length_of_bits_between refs.bytes.now refs.place refs.end refs.within in (
      λ few. (omega (arith, long, c.left.ensures, c.if-left-eq0.true), grind (arith, nat_tests, wide, few, c.left-then-left-eq0.ensures)),
      λ out. grind (arith, nat_tests, wide, out.1, c.left-then-left-eq0.ensures),
    )

pub returns-else-left-eq0 : goal.returns-else-left-eq0
returns-else-left-eq0 c =
    let main = c.args.main.now in
    let long = length_of_bits_between main.bytes.now main.place main.end main.within in (
      λ none. absurd (grind (arith, nat_tests, none, c.if-left-eq0.false)),
      λ out. absurd (omega (arith, long, out.0, c.left.ensures, c.if-left-eq0.false)),
    )
