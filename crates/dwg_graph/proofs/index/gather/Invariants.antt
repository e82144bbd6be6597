use Rattle.std.proofs.Common.{◌≡◌, ◌++◌, drop, map}
use Rattle.dwg_graph.specs.Places.{handles_of}
use Rattle.dwg_object.specs.Objects.{value_of}
use Rattle.dwg_graph.proofs.index.gather.Given as goal

abbrev pub invariant-objects : goal.invariant-objects
invariant-objects l = l.handles.items ++ handles_of (map value_of (drop l.object-index l.objects)) ≡ handles_of (map value_of l.objects)
