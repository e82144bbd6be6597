use Rattle.std.proofs.Common.{◌≡◌, ◌+◌, ◌*◌, ◌≤◌, drop}
use Rattle.dwg_objmap.specs.Pairs.{IsPair, ORIGIN}
use Rattle.dwg_objmap.specs.Writing.{MOST_PAGE, Ascend}
use Rattle.dwg_objmap.specs.MapLength.{length_after}
use Rattle.dwg_objmap.proofs.length.map_length.Given as goal

-- what is counted so far and what is left give the whole
abbrev pub invariant-pairs : goal.invariant-pairs
invariant-pairs l = record {
  whole : l.count.sent + length_after l.count.size l.count.last (drop l.pair-index l.pairs) ≡ length_after 0 ORIGIN l.pairs;
  ascend : Ascend l.count.last.handle (drop l.pair-index l.pairs);
  fits : IsPair l.count.last;
  size : 2 + l.count.size ≤ MOST_PAGE;
  few : l.count.sent + l.count.size ≤ 24 * l.pair-index;
}
