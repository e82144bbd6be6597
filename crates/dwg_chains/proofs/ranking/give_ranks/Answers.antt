use Rattle.std.proofs.Common.{arith}
use Rattle.dwg_chains.proofs.RankWalks.{given_begins, given_goes, given_goal, given_end, given_all, rank_next}
use Rattle.dwg_chains.specs.Tables.{leads, marked}
use Rattle.dwg_chains.proofs.ranking.give_ranks.Goals as goal

pub places-init : goal.places-init
places-init c = given_begins c.args.up.now c.args.goals.now _ _ _ _ _ _ c.requires.start c.requires.places (omega arith) c.requires.rank c.requires.small c.requires.known

pub returns-then-is_marked-clause-known : goal.returns-then-is_marked-clause-known
returns-then-is_marked-clause-known c =
    given_goal c.args.up.now c.args.goals.now _ _ c.places.known.ranks.items c.set_rank.new.ranks.items c.places.at c.places.rank _ c.set_rank.ensures (cc) c.places.invariant

pub returns-in-None-clause-known : goal.returns-in-None-clause-known
returns-in-None-clause-known c =
    given_end c.args.up.now c.args.goals.now _ _ c.places.known.ranks.items c.set_rank.new.ranks.items c.places.at c.places.rank _ c.set_rank.ensures (cc) c.places.invariant

pub overflow_sub-rank : goal.overflow_sub-rank
overflow_sub-rank c =
    omega (arith, (rank_next (leads c.args.up.now) (marked c.args.goals.now) c.places.at c.in-Some.next c.places.rank (cc) (cc) c.places.invariant.has).0)

pub places-preserved : goal.places-preserved
places-preserved c =
    given_goes c.args.up.now c.args.goals.now _ _ c.places.known.ranks.items c.set_rank.new.ranks.items c.places.at c.in-Some.next c.places.rank _ _ c.requires.within c.set_rank.ensures (cc) (cc) (omega arith) c.places.invariant

pub returns-clause-known : goal.returns-clause-known
returns-clause-known c = given_all c.args.up.now c.args.goals.now _ _ _ _ _ _ (omega arith) c.places.invariant
