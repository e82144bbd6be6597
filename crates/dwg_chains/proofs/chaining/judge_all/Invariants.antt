use Rattle.dwg_chains.proofs.ChainWalks.{AreJudged}
use Rattle.dwg_chains.proofs.chaining.judge_all.Given as goal

-- the homes so far are judged
abbrev pub invariant-homes : goal.invariant-homes
invariant-homes l = AreJudged l.homes l.next l.ends l.seen.items l.verdicts.items l.home
