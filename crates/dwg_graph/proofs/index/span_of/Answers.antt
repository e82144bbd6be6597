use Rattle.std.proofs.Common.{rules, arith}
use Rattle.dwg_graph.proofs.Searching.{AreBounds, between, in_order}
use Rattle.dwg_graph.proofs.index.span_of.Goals as goal

bounds : (c : goal.After-min-end) → AreBounds c.args.handles.now c.args.handle c.args.lowest c.args.highest c.saturating_sub-from.result c.min-end.result
bounds c = record {
  ascend = c.requires.ascend;
  first = c.requires.lowest;
  last = c.requires.highest;
  least = omega (arith, c.if-value.false, c.value.ensures.value, c.value-2.ensures.value);
  most = omega (arith, c.if-value-2.false, c.value-3.ensures.value, c.value-4.ensures.value);
  begins = search rules;
  ends = search rules;
}

pub overflow_sub-result : goal.overflow_sub-result
overflow_sub-result c = in_order c.args.handles.now c.args.handle c.args.lowest c.args.highest c.saturating_sub-from.result c.min-end.result (bounds c)

pub returns : goal.returns
returns c = between c.args.handles.now c.args.handle c.args.lowest c.args.highest c.saturating_sub-from.result c.min-end.result (bounds c)
