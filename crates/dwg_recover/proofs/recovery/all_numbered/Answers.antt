use Rattle.std.proofs.Common.{◌∙◌, ap, ◌∷◌, [], ◌++◌}
use Rattle.dwg_recover.specs.declared.frame.Frame.{Frame}
use Rattle.dwg_recover.proofs.WholeRecovery.{numbered_on, numbered_over}
use Rattle.dwg_recover.proofs.recovery.all_numbered.Goals as goal

pub frames-preserved : goal.frames-preserved
frames-preserved c =
    numbered_on c.frames.index c.args.frames.now _ _ _ _ _ c.frames-test.true c.index-frames-index.is (c.in_ok-push.ensures.items ∙ ap (λ (one : Frame). c.frames.all.items ++ one ∷ []) c.numbered.ensures)
    c.frames.invariant

pub returns : goal.returns
returns c = numbered_over c.frames.index c.args.frames.now _ _ c.frames-test.false c.frames.invariant
