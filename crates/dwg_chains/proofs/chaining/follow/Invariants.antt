use Rattle.dwg_chains.specs.Marks.{count_unmarked}
use Rattle.dwg_chains.proofs.ChainWalks.{IsFollowed}
use Rattle.dwg_chains.proofs.chaining.follow.Given as goal

-- a chain is what is left at the present place
abbrev pub invariant-members : goal.invariant-members
invariant-members l = IsFollowed l.homes l.next l.home l.ends l.initial.seen.items l.seen.items l.at

-- each turn meets a place for the first time
abbrev pub decreases-members : goal.decreases-members
decreases-members l = count_unmarked l.seen.items
