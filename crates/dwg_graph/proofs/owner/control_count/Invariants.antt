use Rattle.std.proofs.Common.{◌≡◌, ◌≤◌, ◌+◌, drop, map, length}
use Rattle.dwg_graph.specs.Owners.{block_controls}
use Rattle.dwg_object.specs.Objects.{value_of}
use Rattle.dwg_graph.proofs.owner.control_count.Given as goal

abbrev pub invariant-objects : goal.invariant-objects
invariant-objects l =
    (l.count ≤ l.object-index) × (l.count + length (block_controls (map value_of (drop l.object-index l.objects))) ≡ length (block_controls (map value_of l.objects)))
