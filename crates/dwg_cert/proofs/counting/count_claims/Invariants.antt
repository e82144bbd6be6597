use Rattle.std.proofs.Common.{◌≡◌, drop, map, take}
use Rattle.std.specs.List.{list_all}
use Rattle.dwg_cert.specs.Checked.{are_met}
use Rattle.dwg_graph.proofs.HolderLoops.{AreBothCounts}
use Rattle.dwg_object.specs.Objects.{value_of}
use Rattle.dwg_cert.proofs.counting.count_claims.Given as goal

-- the holders so far are counted, and what is left reports whether the slots of all meet their needs
abbrev pub invariant-holders : goal.invariant-holders
invariant-holders l = record {
  counted : AreBothCounts (map value_of l.objects) (take l.holder-index (map value_of l.objects)) l.known l.claimed;
  left : list_all (are_met (map value_of l.objects)) (drop l.holder-index (map value_of l.objects)) ≡ list_all (are_met (map value_of l.objects)) (map value_of l.objects);
}
