use Rattle.std.proofs.Common.{◌∙◌, ap, Err}
use Rattle.dwg_commands.proofs.Deliveries.{sent_within, sent_too_large}
use Rattle.dwg_file.specs.Contents.{contents_of}
use Rattle.dwg_commands.proofs.sending.send_file.Goals as goal

pub returns-in-Ok : goal.returns-in-Ok
returns-in-Ok g c = sent_within c.args.carrying.now (contents_of c.args.drawing.now) _ _ _ _ _ _ (rw c.preview.ensures.carried at c.in-Ok.ensures.within) (rw c.preview.ensures.carried at c.in-Ok.ensures.plan) c.send_plan.ensures

pub returns-in-Err-TooLarge : goal.returns-in-Err-TooLarge
returns-in-Err-TooLarge g c =
    let refused = c.in-Err-TooLarge.is ∙ ap Err c.in-Err-TooLarge.field-0-is in
    sent_too_large c.args.carrying.now (contents_of c.args.drawing.now) _ _ _ _ _ _ (rw c.preview.ensures.carried at c.prepare_with.ensures.too_large _ refused)
    (c.in-Err-TooLarge.size-is ∙ rw c.preview.ensures.carried at c.prepare_with.ensures.with_size _ refused) c.send_too_large.ensures
