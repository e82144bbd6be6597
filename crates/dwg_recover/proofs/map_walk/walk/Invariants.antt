use Rattle.std.proofs.Common.{◌+◌, ◌-◌, length}
use Rattle.dwg_recover.specs.Walks.{walk_from, walk_over}
use Rattle.dwg_recover.proofs.WalkAlong.{IsLeft}
use Rattle.dwg_recover.proofs.map_walk.walk.Given as goal

-- what was walked and what is left give the whole
abbrev pub invariant-pages : goal.invariant-pages
invariant-pages l = IsLeft l.bytes l.index l.walked.pairs l.walked.losses (walk_over (length l.bytes + 1 - l.index) l.bytes l.at) (walk_from l.bytes l.fn.place)
