use Rattle.std.proofs.Common.{◌≡◌, refl, ap, arith, ◌-◌, ◌+◌, length, length-drop}
use Rattle.std.proofs.lemmas.Bool.Decides.{nat_tests}
use Rattle.std.proofs.lemmas.Result.{err_from_is_err_and}
use Rattle.dwg_objmap.proofs.StepReading.{pairs_over, pairs_out, fault_of_whole, turns, turned_on}
use Rattle.dwg_objmap.proofs.map_reading.read_pairs.Goals as goal

pub returns-then-is_empty : goal.returns-then-is_empty
returns-then-is_empty c =
    let none : length c.bytes_after-rest.result.now ≡ 0 = grind (arith, nat_tests, c.is_empty.ensures, c.if-is_empty.true) in
    pairs_over _ c.args.index _ c.pairs.at c.pairs.gathered _ _ c.args.body.now _ c.pairs.invariant.whole c.bytes_after-rest.ensures.rest none

pub returns-in_err-step : goal.returns-in_err-step
returns-in_err-step c =
    let p = err_from_is_err_and c.from_residual.result c.from_residual.ensures.1 in
    rw (p.1, p.2) (fault_of_whole _ _ _ _
    (turns (length c.args.body.now - c.pairs.counter) (length c.args.body.now - (c.pairs.counter + 1)) c.args.index _ c.pairs.at _ _ _ c.args.body.now _ (omega arith) c.bytes_after-rest.ensures.rest
    c.pairs.invariant.whole) (c.in_err-step.ensures.step _))

pub pairs-preserved : goal.pairs-preserved
pairs-preserved c = record {
  within = omega (arith, c.pairs.invariant.within, c.in_ok-step.ensures.used, ap length c.bytes_after-rest.ensures.rest, length-drop c.pairs.at c.args.body.now);
  whole =
      turned_on _ (length c.args.body.now - (c.pairs.counter + 1)) c.args.index c.args.place c.pairs.at c.in_ok-step.step.used c.in_ok-step.step.gathered c.in_ok-step.step.pair _ c.args.body.now _ _ refl
      c.bytes_after-rest.ensures.rest
      (turns (length c.args.body.now - c.pairs.counter) (length c.args.body.now - (c.pairs.counter + 1)) c.args.index _ c.pairs.at _ _ _ c.args.body.now _ (omega arith) c.bytes_after-rest.ensures.rest
      c.pairs.invariant.whole) (c.in_ok-step.ensures.step _);
}

pub returns : goal.returns
returns c = pairs_out _ c.args.index _ c.pairs.gathered _ _ _ c.pairs.invariant.whole (omega arith)
