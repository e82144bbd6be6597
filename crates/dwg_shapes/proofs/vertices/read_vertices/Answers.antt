use Rattle.std.proofs.Common.{Option, None, rules, subst, sym, ◌+◌}
use Rattle.dwg_bits.specs.Cursor.{rest}
use Rattle.dwg_grammar.specs.declared.points.Point2.{Point2}
use Rattle.dwg_grammar.specs.Combinators.{chain}
use Rattle.dwg_shapes.specs.LwPolylines.{vertex, before_next}
use Rattle.dwg_common.proofs.ChainReading.{IsBegun, one_begun, one_missing}
use Rattle.dwg_shapes.proofs.vertices.read_vertices.Goals as goal

pub returns-in_default-clause-parsed : goal.returns-in_default-clause-parsed
unfolding chain
returns-in_default-clause-parsed c =
    one_missing vertex (before_next c.args.version) None c.points.before c.args.count _ c.points.found c.read_vertex.result _ _ _
    c.points-test.true c.in_default.is c.read_vertex.ensures.parsed c.points.invariant.so_far

pub points-preserved : goal.points-preserved
points-preserved c = record {
  so_far = subst (λ (before : Option Point2). IsBegun vertex (before_next c.args.version) None before c.args.count (c.points.counter + 1) c.try_push.new.self (rest c.args.cursor.now) (rest c.read_vertex.new.cursor)) (sym c.before_next-before.ensures)
      (one_begun vertex (before_next c.args.version) None c.points.before c.args.count _ c.points.found _ c.read_vertex.result c.in-Some.point _ _ _
      c.points-test.true c.in_ok-try_push.ensures c.in-Some.is c.read_vertex.ensures.parsed c.points.invariant.so_far);
  kept = search rules;
}
