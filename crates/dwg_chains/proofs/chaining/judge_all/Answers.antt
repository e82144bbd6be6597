use Rattle.std.proofs.Common.{Option, subst, arith}
use Rattle.dwg_chains.specs.declared.tables.ChainEnds.{ChainEnds}
use Rattle.dwg_chains.specs.ChainMarks.{IsJudged}
use Rattle.dwg_chains.proofs.ChainWalks.{judged_more}
use Rattle.dwg_chains.proofs.chaining.judge_all.Goals as goal

pub homes-preserved : goal.homes-preserved
homes-preserved c =
    judged_more c.args.homes.now c.args.next.now c.args.ends.now c.homes.seen.items c.judge-verdict.new.seen.items c.homes.verdicts.items c.set_mark.new.table.items c.homes.home c.judge-verdict.result
    (omega arith) c.judge-verdict.ensures.places c.judge-verdict.ensures.others
    (subst (λ (ends : Option ChainEnds). IsJudged c.args.homes.now c.args.next.now c.judge-verdict.new.seen.items c.homes.home ends c.judge-verdict.result) c.ends_at.ensures c.judge-verdict.ensures.judged)
    c.set_mark.ensures c.homes.invariant
