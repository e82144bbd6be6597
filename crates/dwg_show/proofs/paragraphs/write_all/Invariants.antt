use Rattle.std.proofs.Common.{take}
use Rattle.std.specs.Prelude.{flat_map}
use Rattle.dwg_text.specs.Writing.{WritesText}
use Rattle.dwg_show.proofs.paragraphs.write_all.Given as goal

-- those so far are written
abbrev pub invariant-paragraphs : goal.invariant-paragraphs
invariant-paragraphs g l =
    WritesText l.initial.writer l.writer (g.W.Sink.taken l.initial.sink) (g.W.Sink.taken l.sink) (g.W.Sink.faults l.initial.sink) (g.W.Sink.faults l.sink)
    (flat_map g.T.Paragraph.written (take l.index l.paragraphs))
