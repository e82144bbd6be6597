use Rattle.std.proofs.Common.{◌≡◌, ◌+◌, ◌-◌, ◌≤◌, length, drop}
use Rattle.dwg_objmap.specs.Pairs.{ORIGIN}
use Rattle.dwg_objmap.specs.MapLines.{pairs_after}
use Rattle.dwg_objmap.proofs.map_reading.read_pairs.Given as goal

-- what is left, from the last pair, gives the whole
abbrev pub invariant-pairs : goal.invariant-pairs
invariant-pairs l = record {
  within : l.at ≤ length l.body;
  whole : pairs_after (length l.body - l.counter) l.index l.gathered l.last (l.place + l.at) (drop l.at l.body)
      ≡ pairs_after (length l.body) l.index l.fn.gathered ORIGIN l.place l.body;
}
