use Rattle.std.proofs.Common.{◌-◌}
use Rattle.dwg_chains.proofs.RankWalks.{IsGiven}
use Rattle.dwg_chains.proofs.ranking.give_ranks.Given as goal

-- the places that are left lie on the way from the present place
abbrev pub invariant-places : goal.invariant-places
invariant-places l = IsGiven l.up l.goals l.initial.known.seen.items l.known.seen.items l.known.ranks.items l.at l.rank (l.end - l.counter)
