use Rattle.std.proofs.Common.{◌≡◌, ℕ, ◌^◌, ◌<◌, ◌≤◌, ◌++◌, drop}
use Rattle.std.specs.Prelude.{map}
use Rattle.std.specs.List.{AllByRecursion}
use Rattle.dwg_object.specs.Frames.{frame_bytes}
use Rattle.dwg_object.specs.Objects.{value_of}
use Rattle.dwg_file.specs.Canonical.{placed}
use Rattle.dwg_file.specs.Plans.{CanBeFramed, FitsIn}
use Rattle.dwg_file.proofs.PlanLoops.{AreCounted}
use Rattle.dwg_file.proofs.frame_layout.place_objects.Given as goal

-- what is placed so far and what is left give the whole; and where what is left fits in as much as those so far, all do
abbrev pub invariant-objects : goal.invariant-objects
invariant-objects l = record {
  counted : AreCounted value_of (frame_bytes l.fn.version) l.objects (drop l.object-index l.objects) l.fn.from l.place;
  whole : placed l.fn.version l.fn.from (map value_of l.objects) ≡ l.pairs.items ++ placed l.fn.version l.place (map value_of (drop l.object-index l.objects));
  framed : AllByRecursion (CanBeFramed l.fn.version) (map value_of (drop l.object-index l.objects));
  fit : (most : ℕ) → l.part ≤ most → AllByRecursion (FitsIn l.fn.version most) (map value_of (drop l.object-index l.objects)) → AllByRecursion (FitsIn l.fn.version most) (map value_of l.objects);
  few : l.part < 2 ^ 30;
}
