use Rattle.std.proofs.Common.{take}
use Rattle.dwg_text.specs.Numbered.{numbered}
use Rattle.dwg_show.specs.Fields.{element}
use Rattle.dwg_text.specs.Writing.{WritesText}
use Rattle.dwg_show.proofs.fields.print_elements.Given as goal

-- the elements so far are written
abbrev pub invariant-elements : goal.invariant-elements
invariant-elements g l =
    WritesText l.initial.writer l.writer (g.W.Sink.taken l.initial.sink) (g.W.Sink.taken l.sink) (g.W.Sink.faults l.initial.sink) (g.W.Sink.faults l.sink)
    (numbered (element g.T.Print.lines l.path) 0 (take l.index l.elements))
