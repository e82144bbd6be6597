use Rattle.std.proofs.Common.{subst, List, []}
use Rattle.std.specs.Prelude.{Ok}
use Rattle.dwg_classes.specs.declared.class.Class.{Class}
use Rattle.dwg_file.specs.FileLines.{frames_after}
use Rattle.dwg_file.specs.FrameReading.{AnswersFrames}
use Rattle.dwg_file.proofs.HandleOrder.{objects_answered}
use Rattle.dwg_file.proofs.objects.read_objects.Goals as goal

pub returns-clause-tried : goal.returns-clause-tried
returns-clause-tried c =
    let tried = subst (λ (classes : List Class). AnswersFrames classes c.args.bytes.now (frames_after c.args.bytes.now 0 [] c.args.pairs.now) (Ok c.in_ok-read.read)) c.in_ok-hints.ensures c.in_ok-read.ensures.tried in
    objects_answered c.args.classes.now c.args.bytes.now _ c.in_ok-read.read c.in_ok-objects.objects tried c.in_ok-objects.ensures.same c.in_ok-objects.ensures.ascend
