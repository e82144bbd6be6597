use Rattle.std.proofs.Common.{◌≡◌, drop}
use Rattle.std.proofs.Common.{◌+◌, ◌≤◌, length}
use Rattle.std.specs.Prelude.{map}
use Rattle.std.specs.List.{AllByRecursion}
use Rattle.dwg_object.specs.Frames.{frame_bytes}
use Rattle.dwg_object.specs.Objects.{value_of}
use Rattle.dwg_file.specs.Plans.{CanBeSent}
use Rattle.dwg_file.proofs.PlanLoops.{AreGiven}
use Rattle.dwg_file.proofs.part_sending.send_frames.Given as goal

-- what is given so far and what is left give the whole
abbrev pub invariant-objects : goal.invariant-objects
invariant-objects g l = record {
  given : AreGiven value_of (frame_bytes l.fn.version) l.objects (drop l.object-index l.objects) (g.W.Sink.taken l.fn.sink) (g.W.Sink.taken l.sink) l.fn.buffer l.buffer;
  counts : g.W.Sink.faults l.sink ≡ g.W.Sink.faults l.fn.sink;
  room : l.fn.part.spare + length l.fn.part.written ≤ l.part.spare + length l.part.written;
  can : AllByRecursion (CanBeSent l.fn.version (l.fn.part.spare + length l.fn.part.written)) (map value_of (drop l.object-index l.objects));
}
