use Rattle.std.proofs.Common.{take}
use Rattle.std.specs.Prelude.{flat_map}
use Rattle.dwg_text.specs.Sections.{section_line}
use Rattle.dwg_text.specs.Writing.{WritesText}
use Rattle.dwg_text.proofs.sections.write_locators.Given as goal

-- those so far are written
abbrev pub invariant-locators : goal.invariant-locators
invariant-locators g l =
    WritesText l.initial.writer l.writer (g.W.Sink.taken l.initial.sink) (g.W.Sink.taken l.sink) (g.W.Sink.faults l.initial.sink) (g.W.Sink.faults l.sink)
    (flat_map section_line (take l.index l.locators))
