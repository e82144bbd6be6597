use Rattle.std.proofs.Common.{not, arith}
use Rattle.std.proofs.lemmas.List.Sums.{count_by-le-length}
use Rattle.dwg_chains.proofs.RankWalks.{walk_begins, walk_sees, walk_goes, walk_goal, walk_nowhere, walk_pathless, walk_ranked, walk_ends}
use Rattle.dwg_chains.proofs.ranking.walk.Goals as goal

pub places-init : goal.places-init
places-init c = walk_begins c.args.up.now c.args.goals.now c.args.seen.now.items c.args.ranks.now c.args.start c.requires.start c.requires.known

pub returns-then-is_marked-clause-seen : goal.returns-then-is_marked-clause-seen
returns-then-is_marked-clause-seen c =
    (walk_sees c.args.up.now c.args.goals.now _ c.places.seen.items c.set_mark.new.table.items _ _ _ c.places.at c.requires.places (cc) c.set_mark.ensures c.places.invariant).begun

pub returns-then-is_marked-clause-kept : goal.returns-then-is_marked-clause-kept
returns-then-is_marked-clause-kept c =
    (walk_sees c.args.up.now c.args.goals.now _ c.places.seen.items c.set_mark.new.table.items _ _ _ c.places.at c.requires.places (cc) c.set_mark.ensures c.places.invariant).kept

pub returns-then-is_marked-clause-known : goal.returns-then-is_marked-clause-known
returns-then-is_marked-clause-known c =
    (walk_sees c.args.up.now c.args.goals.now _ c.places.seen.items c.set_mark.new.table.items _ _ _ c.places.at c.requires.places (cc) c.set_mark.ensures c.places.invariant).known

pub returns-then-is_marked-clause-rank : goal.returns-then-is_marked-clause-rank
returns-then-is_marked-clause-rank c =
    walk_goal c.args.up.now c.args.goals.now _ _ _ _ _ c.places.at (cc)
    (walk_sees c.args.up.now c.args.goals.now _ c.places.seen.items c.set_mark.new.table.items _ _ _ c.places.at c.requires.places (cc) c.set_mark.ensures c.places.invariant)

pub returns-then-is_marked-clause-small : goal.returns-then-is_marked-clause-small
returns-then-is_marked-clause-small c =
    let turn = walk_sees c.args.up.now c.args.goals.now _ c.places.seen.items c.set_mark.new.table.items _ _ _ c.places.at c.requires.places (cc) c.set_mark.ensures c.places.invariant in
    omega (arith, turn.fewer, turn.places, count_by-le-length not c.args.seen.now.items)

pub returns-in-None-clause-seen : goal.returns-in-None-clause-seen
returns-in-None-clause-seen c =
    (walk_sees c.args.up.now c.args.goals.now _ c.places.seen.items c.set_mark.new.table.items _ _ _ c.places.at c.requires.places (cc) c.set_mark.ensures c.places.invariant).begun

pub returns-in-None-clause-kept : goal.returns-in-None-clause-kept
returns-in-None-clause-kept c =
    (walk_sees c.args.up.now c.args.goals.now _ c.places.seen.items c.set_mark.new.table.items _ _ _ c.places.at c.requires.places (cc) c.set_mark.ensures c.places.invariant).kept

pub returns-in-None-clause-pathless : goal.returns-in-None-clause-pathless
returns-in-None-clause-pathless c =
    walk_nowhere c.args.up.now c.args.goals.now _ _ _ _ _ c.places.at (cc) (cc)
    (walk_sees c.args.up.now c.args.goals.now _ c.places.seen.items c.set_mark.new.table.items _ _ _ c.places.at c.requires.places (cc) c.set_mark.ensures c.places.invariant)

pub places-smaller : goal.places-smaller
places-smaller c =
    let turn = walk_sees c.args.up.now c.args.goals.now _ c.places.seen.items c.set_mark.new.table.items _ _ _ c.places.at c.requires.places (cc) c.set_mark.ensures c.places.invariant in
    omega (arith, turn.fewer, c.places.invariant.fewer)

pub places-preserved : goal.places-preserved
places-preserved c =
    walk_goes c.args.up.now c.args.goals.now _ _ _ _ _ c.places.at c.in-Some.next c.requires.within (cc) (cc)
    (walk_sees c.args.up.now c.args.goals.now _ c.places.seen.items c.set_mark.new.table.items _ _ _ c.places.at c.requires.places (cc) c.set_mark.ensures c.places.invariant)

pub returns-in-Some-leads-clause-seen : goal.returns-in-Some-leads-clause-seen
returns-in-Some-leads-clause-seen c = walk_ends _ _ _ _ _ _ _ _ c.places.invariant (cc)

pub returns-in-Some-leads-clause-rank : goal.returns-in-Some-leads-clause-rank
returns-in-Some-leads-clause-rank c = walk_ranked c.args.up.now c.args.goals.now _ c.places.seen.items c.args.ranks.now _ _ c.places.at c.in-Some-leads.rank (cc) c.places.invariant

pub returns-in-None-leads-clause-seen : goal.returns-in-None-leads-clause-seen
returns-in-None-leads-clause-seen c = walk_ends _ _ _ _ _ _ _ _ c.places.invariant (cc)

pub returns-in-None-leads-clause-pathless : goal.returns-in-None-leads-clause-pathless
returns-in-None-leads-clause-pathless c = walk_pathless c.args.up.now c.args.goals.now _ c.places.seen.items c.args.ranks.now _ _ c.places.at (cc) (cc) c.places.invariant
