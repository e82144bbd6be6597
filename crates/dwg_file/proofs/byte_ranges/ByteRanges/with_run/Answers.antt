use Rattle.std.proofs.Common.{sym, ◌∙◌, ap, subst, arith, ◌-◌, ◌++◌, ◌||◌}
use Rattle.dwg_file.specs.ByteRanges.{AreRuns, IsRow, shares, meets}
use Rattle.dwg_file.proofs.ByteRunLemmas.{row_with, runs_with, others_apart, shares_other}
use Rattle.dwg_file.proofs.byte_ranges.ByteRanges.with_run.Goals as goal

pub invariant_of-result : goal.invariant_of-result
invariant_of-result c = (
  subst (IsRow c.args.end) (sym c.in_ok-push.ensures.items)
      (row_with c.self.inside.end c.args.from c.args.end c.self.inside.row.items c.self.invariant.0 (omega (arith, c.if-last-from.true)) c.requires.some c.ranges.end.fits),
  c.self.invariant.1,
)

pub invariant_of-result-2 : goal.invariant_of-result-2
invariant_of-result-2 c = (
  c.self.invariant.0,
  subst AreRuns (sym c.in_ok-others.ensures)
      (runs_with (c.args.end - 1) c.args.from c.args.end c.self.inside.others.entries c.self.invariant.1 (omega (arith, c.requires.some)) c.ranges.end.fits c.requires.some
      (others_apart c.args.from c.args.end c.self.inside.row.items c.self.inside.others.entries (ap (λ runs. shares runs c.args.from c.args.end) c.self.view_is ∙ c.requires.apart))),
)

pub returns : goal.returns
returns c = λ other to.
    ap (λ others. shares (c.self.inside.row.items ++ others) other to) c.in_ok-others.ensures
    ∙ shares_other (c.args.end - 1) c.args.from c.args.end other to c.self.inside.row.items c.self.inside.others.entries c.self.invariant.1 (omega (arith, c.requires.some)) c.requires.some
    (others_apart c.args.from c.args.end c.self.inside.row.items c.self.inside.others.entries (ap (λ runs. shares runs c.args.from c.args.end) c.self.view_is ∙ c.requires.apart))
    ∙ ap (λ runs. shares runs other to || meets other to (c.args.end - 1, c.args.from)) c.self.view_is
