use Rattle.std.proofs.Common.{sym, arith, rules, length, ◌+◌, ◌-◌}
use Rattle.dwg_recover.specs.Walks.{walk_from}
use Rattle.dwg_recover.specs.declared.map_walk.Walked.{Walked}
use Rattle.dwg_recover.proofs.WalkAlong.{all_walked, end_lost, last_walked, none_walked, same_in_ok, walked_on}
use Rattle.dwg_recover.proofs.map_walk.walk.Goals as goal

pub pages-init : goal.pages-init
pages-init c = none_walked c.args.bytes.now c.args.place _ c.new.result c.new-2.result (omega arith) c.new.ensures c.new-2.ensures

pub returns-in_default-clause-pairs : goal.returns-in_default-clause-pairs
returns-in_default-clause-pairs c =
    same_in_ok (λ (more : Walked). more.pairs) _ _ c.with_end.result
    (end_lost c.args.bytes.now c.pages.index c.pages.at _ (length c.args.bytes.now - c.pages.index) _ _ (walk_from c.args.bytes.now c.args.place) (omega (arith, c.pages-test.true)) c.pages.invariant (search rules)).pairs_are
    c.with_end.ensures.pairs

pub returns-in_default-clause-losses : goal.returns-in_default-clause-losses
returns-in_default-clause-losses c =
    same_in_ok (λ (more : Walked). more.losses) _ _ c.with_end.result
    (end_lost c.args.bytes.now c.pages.index c.pages.at _ (length c.args.bytes.now - c.pages.index) _ _ (walk_from c.args.bytes.now c.args.place) (omega (arith, c.pages-test.true)) c.pages.invariant (search rules)).losses_are
    c.with_end.ensures.losses

pub returns-then-size-eq-END_SIZE-clause-pairs : goal.returns-then-size-eq-END_SIZE-clause-pairs
returns-then-size-eq-END_SIZE-clause-pairs c =
    (last_walked c.args.bytes.now c.pages.index c.pages.at _ (length c.args.bytes.now - c.pages.index) c.in-Some.size _ _ _ _ (walk_from c.args.bytes.now c.args.place) (omega (arith, c.pages-test.true)) c.pages.invariant
    (sym c.in-Some.ensures.is) c.if-size-eq-END_SIZE.true c.in_ok-walked.ensures.pairs c.in_ok-walked.ensures.losses).pairs_are

pub returns-then-size-eq-END_SIZE-clause-losses : goal.returns-then-size-eq-END_SIZE-clause-losses
returns-then-size-eq-END_SIZE-clause-losses c =
    (last_walked c.args.bytes.now c.pages.index c.pages.at _ (length c.args.bytes.now - c.pages.index) c.in-Some.size _ _ _ _ (walk_from c.args.bytes.now c.args.place) (omega (arith, c.pages-test.true)) c.pages.invariant
    (sym c.in-Some.ensures.is) c.if-size-eq-END_SIZE.true c.in_ok-walked.ensures.pairs c.in_ok-walked.ensures.losses).losses_are

pub pages-preserved : goal.pages-preserved
pages-preserved c =
    walked_on c.args.bytes.now c.pages.index c.pages.at _ (length c.args.bytes.now + 1 - (c.pages.index + 1)) c.in-Some.size _ _ _ _ _ (walk_from c.args.bytes.now c.args.place) (omega (arith, c.pages-test.true)) c.pages.invariant
    (sym c.in-Some.ensures.is) c.if-size-eq-END_SIZE.false c.in_ok-walked.ensures.pairs c.in_ok-walked.ensures.losses (omega (arith, c.from.ensures))

pub returns-clause-pairs : goal.returns-clause-pairs
returns-clause-pairs c = (all_walked c.args.bytes.now c.pages.index c.pages.at _ _ _ (walk_from c.args.bytes.now c.args.place) (omega (arith, c.pages-test.false)) c.pages.invariant).pairs_are

pub returns-clause-losses : goal.returns-clause-losses
returns-clause-losses c = (all_walked c.args.bytes.now c.pages.index c.pages.at _ _ _ (walk_from c.args.bytes.now c.args.place) (omega (arith, c.pages-test.false)) c.pages.invariant).losses_are
