use Rattle.std.proofs.Common.{◌≡◌, false, drop}
use Rattle.dwg_objmap.specs.Writing.{Ascend, map_after}
use Rattle.dwg_file.specs.Plans.{IsPut}
use Rattle.dwg_file.proofs.part_sending.put_pairs.Given as goal

-- what went out so far and what is made of the pairs that are left are the whole
abbrev pub invariant-pairs : goal.invariant-pairs
invariant-pairs g l = record {
  put : IsPut (g.W.Sink.taken l.fn.sink) (g.W.Sink.taken l.sink) l.writer (drop l.pair-index l.pairs) (map_after l.fn.writer l.pairs);
  ascend : Ascend l.writer.last.handle (drop l.pair-index l.pairs);
  still_open : l.writer.ended ≡ false;
  counts : g.W.Sink.faults l.sink ≡ g.W.Sink.faults l.fn.sink;
}
