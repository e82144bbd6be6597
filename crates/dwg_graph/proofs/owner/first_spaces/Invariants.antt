use Rattle.std.proofs.Common.{◌≡◌, drop, map}
use Rattle.dwg_chains.specs.Paths.{first_of}
use Rattle.dwg_graph.specs.Owners.{block_controls}
use Rattle.dwg_object.specs.Objects.{value_of}
use Rattle.dwg_graph.proofs.owner.first_spaces.Given as goal

abbrev pub invariant-objects : goal.invariant-objects
invariant-objects l = first_of (block_controls (map value_of (drop l.object-index l.objects))) ≡ first_of (block_controls (map value_of l.objects))
