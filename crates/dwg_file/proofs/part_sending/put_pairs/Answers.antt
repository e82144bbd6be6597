use Rattle.std.proofs.Common.{refl, ◌∙◌}
use Rattle.std.proofs.lemmas.Result.{err_from_is_err_and}
use Rattle.dwg_objmap.specs.Writing.{map_after}
use Rattle.dwg_file.proofs.PlanMap.{none_put, pair_put, pair_cut, all_put, ascends_after}
use Rattle.dwg_file.proofs.part_sending.put_pairs.Goals as goal

pub pairs-init : goal.pairs-init
pairs-init g c = record {
  put = none_put (g.W.Sink.taken c.args.sink.now) c.args.writer.now c.args.pairs.now;
  ascend = c.requires.ascending;
  still_open = c.requires.open;
  counts = refl;
}

pub returns-in_err-put-clause-cut : goal.returns-in_err-put-clause-cut
returns-in_err-put-clause-cut g c =
    let p = err_from_is_err_and c.from_residual.result c.from_residual.ensures.1 in
    rw p.1 (
    pair_cut c.args.pairs.now c.pairs.pair-index c.pair-item.result (g.W.Sink.taken c.args.sink.now) (g.W.Sink.taken c.pairs.sink) (g.W.Sink.taken c.put.new.sink) c.pairs.writer
    (map_after c.args.writer.now c.args.pairs.now) c.pairs-test.true c.pair-item.is c.in_err-put.ensures.bytes c.pairs.invariant.put
    )

pub pairs-preserved : goal.pairs-preserved
pairs-preserved g c = record {
  put =
      pair_put c.args.pairs.now c.pairs.pair-index c.pair-item.result (g.W.Sink.taken c.args.sink.now) (g.W.Sink.taken c.pairs.sink) (g.W.Sink.taken c.put.new.sink) c.pairs.writer
      c.put.new.self (map_after c.args.writer.now c.args.pairs.now) c.pairs-test.true c.pair-item.is c.in_ok-put.ensures.bytes c.in_ok-put.ensures.page c.pairs.invariant.put;
  ascend = ascends_after c.args.pairs.now c.pairs.pair-index _ c.pair-item.result c.put.new.self.last c.pairs-test.true c.pair-item.is c.in_ok-put.ensures.last c.pairs.invariant.ascend;
  still_open = c.in_ok-put.ensures.still_open;
  counts = c.in_ok-put.ensures.counts.ok ∙ c.pairs.invariant.counts;
}

pub returns-clause-put : goal.returns-clause-put
returns-clause-put g c =
    all_put c.args.pairs.now c.pairs.pair-index (g.W.Sink.taken c.args.sink.now) (g.W.Sink.taken c.pairs.sink) c.pairs.writer (map_after c.args.writer.now c.args.pairs.now)
    c.pairs-test.false c.pairs.invariant.put
