use Rattle.dwg_chains.specs.Marks.{count_unmarked}
use Rattle.dwg_chains.proofs.RankWalks.{IsWalk}
use Rattle.dwg_chains.proofs.ranking.walk.Given as goal

-- the places that were walked over lie on the way from the start to the present place, and were not seen before
abbrev pub invariant-places : goal.invariant-places
invariant-places l = IsWalk l.up l.goals l.initial.seen.items l.seen.items l.ranks l.start l.count l.at

-- each turn sees a place for the first time
abbrev pub decreases-places : goal.decreases-places
decreases-places l = count_unmarked l.seen.items
