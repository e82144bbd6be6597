use Rattle.std.proofs.Common.{take}
use Rattle.std.specs.Prelude.{flat_map}
use Rattle.dwg_text.specs.Classes.{class_line}
use Rattle.dwg_text.specs.Writing.{WritesText}
use Rattle.dwg_text.proofs.classes.write_class_lines.Given as goal

-- those so far are written
abbrev pub invariant-classes : goal.invariant-classes
invariant-classes g l =
    WritesText l.initial.writer l.writer (g.W.Sink.taken l.initial.sink) (g.W.Sink.taken l.sink) (g.W.Sink.faults l.initial.sink) (g.W.Sink.faults l.sink)
    (flat_map class_line (take l.index l.classes))
