use Rattle.std.proofs.Common.{ap, ◌-◌, ◌+◌, length, arith, length-drop}
use Rattle.dwg_objmap.proofs.PrefixReading.{prefix_begin, prefix_over, prefix_out, prefix_on}
use Rattle.dwg_objmap.proofs.damaged_pages.read_leading.Goals as goal

pub pairs-init : goal.pairs-init
pairs-init c = record {
  within = omega arith;
  whole = prefix_begin (length c.args.body.now - 0) c.new-pairs.result c.origin-last.result c.args.body.now (omega arith) c.new-pairs.ensures c.origin-last.ensures;
}

pub returns-in_default : goal.returns-in_default
returns-in_default c = prefix_over _ c.pairs.at c.pairs.pairs _ c.pairs.last c.bytes_after.result.now c.args.body.now c.pairs.invariant.whole c.bytes_after.ensures.rest c.in_default.ensures.none

pub pairs-preserved : goal.pairs-preserved
pairs-preserved c = record {
  within = omega (arith, c.pairs.invariant.within, c.in-Some.ensures.used, ap length c.bytes_after.ensures.rest, length-drop c.pairs.at c.args.body.now);
  whole =
      prefix_on (length c.args.body.now - c.pairs.counter) (length c.args.body.now - (c.pairs.counter + 1)) c.pairs.at c.in-Some.used c.pairs.pairs c.try_push.new.self _ c.pairs.last c.in-Some.pair
      c.bytes_after.result.now c.args.body.now (omega arith) c.pairs.invariant.whole c.bytes_after.ensures.rest c.in-Some.ensures.found c.in_ok-try_push.ensures;
}

pub returns : goal.returns
returns c = prefix_out _ c.pairs.pairs _ c.pairs.last _ c.pairs.invariant.whole (omega arith)
