use Rattle.std.specs.List.{All}
use Rattle.dwg_object.specs.Objects.{IsBorrowedObject}
use Rattle.dwg_file.proofs.FrameReading.{IsAlong}
use Rattle.dwg_file.proofs.frames.read_frames.Given as goal

-- the frames of the pairs so far were read, what is left gives the whole, and the objects so far borrow what they keep
abbrev pub invariant-pairs : goal.invariant-pairs
invariant-pairs l = record {
  along : IsAlong l.hints l.bytes l.pairs l.index l.read;
  lent : All IsBorrowedObject l.read.objects.items;
}
