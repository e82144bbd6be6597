use Rattle.std.proofs.Common.{map}
use Rattle.dwg_audit.proofs.Judging.{empty_alike}
use Rattle.dwg_audit.specs.Findings.{findings}
use Rattle.dwg_graph.specs.Sound.{IsSound}
use Rattle.dwg_object.specs.Objects.{value_of}
use Rattle.dwg_audit.proofs.auditing.audit.Goals as goal

pub returns-clause-sound : goal.returns-clause-sound
returns-clause-sound g c =
    let objects = map value_of c.args.objects.now in
    empty_alike (findings objects) (IsSound objects) c.judge_all.result c.judge_all.ensures (c.finding_laws.ensures.sound objects c.requires.ascending)
