use Rattle.std.proofs.Common.{◌≡◌, ◌-◌, ◌≤◌, length, drop}
use Rattle.dwg_objmap.specs.Walking.{pairs_from, leading_pairs}
use Rattle.dwg_objmap.proofs.damaged_pages.read_leading.Given as goal

-- what is left, from the last pair, gives the whole
abbrev pub invariant-pairs : goal.invariant-pairs
invariant-pairs l = record {
  within : l.at ≤ length l.body;
  whole : pairs_from (length l.body - l.counter) l.pairs l.last (drop l.at l.body) ≡ leading_pairs l.body;
}
