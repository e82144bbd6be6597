use Rattle.std.proofs.Common.{◌≡◌, ◌++◌, drop, map}
use Rattle.std.specs.List.{AllByRecursion}
use Rattle.dwg_object.specs.Objects.{value_of}
use Rattle.dwg_recover.specs.Placing.{IsFound}
use Rattle.dwg_recover.specs.Recovering.{object_of}
use Rattle.dwg_recover.proofs.objects.read_objects.Given as goal

-- what is read and what is left are all
abbrev pub invariant-frames : goal.invariant-frames
invariant-frames l = record {
  whole : map value_of l.objects.items ++ map (object_of l.hints l.bytes) (drop l.index l.frames) ≡ map (object_of l.hints l.bytes) l.frames;
  found : AllByRecursion (IsFound l.bytes) (drop l.index l.frames);
}
