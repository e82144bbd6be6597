use Rattle.std.proofs.Common.{sym, arith}
use Rattle.std.proofs.lemmas.List.{take_all, length-take-le}
use Rattle.dwg_appitems.proofs.reading.first_bytes.Goals as goal

pub returns-then-bytes-le-LONGEST-clause-first : goal.returns-then-bytes-le-LONGEST-clause-first
returns-then-bytes-le-LONGEST-clause-first c = sym (take_all 259 c.args.bytes.now c.if-bytes-le-LONGEST.true)

pub slice_bounds-result-end : goal.slice_bounds-result-end
slice_bounds-result-end c = sym (length-take-le 259 c.args.bytes.now (omega (arith, c.if-bytes-le-LONGEST.false)))

pub returns-clause-few : goal.returns-clause-few
returns-clause-few c = omega (arith, length-take-le 259 c.args.bytes.now (omega (arith, c.if-bytes-le-LONGEST.false)))
