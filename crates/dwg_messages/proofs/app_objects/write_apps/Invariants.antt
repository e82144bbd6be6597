use Rattle.std.proofs.Common.{take}
use Rattle.dwg_text.specs.Numbered.{numbered}
use Rattle.dwg_text.specs.Writing.{WritesText}
use Rattle.dwg_messages.specs.AppText.{app_text}
use Rattle.dwg_messages.proofs.app_objects.write_apps.Given as goal

-- those so far are written
abbrev pub invariant-apps : goal.invariant-apps
invariant-apps g l =
    WritesText l.initial.writer l.writer (g.W.Sink.taken l.initial.sink) (g.W.Sink.taken l.sink) (g.W.Sink.faults l.initial.sink) (g.W.Sink.faults l.sink)
    (numbered (app_text l.handle) 0 (take l.index l.apps))
