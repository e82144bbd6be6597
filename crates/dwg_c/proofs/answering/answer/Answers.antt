use Rattle.dwg_c.proofs.Whole.{answered}
use Rattle.dwg_c.proofs.answering.answer.Goals as goal

pub returns-in-Ok : goal.returns-in-Ok
returns-in-Ok c =
    answered _ _ c.in-Ok.sent.status (c.in-Ok.ensures.written, c.in-Ok.ensures.noted) c.in-Ok.ensures.output c.in-Ok.ensures.notes
    c.in-Ok.ensures.settled c.in-Ok.ensures.status c.status_of.ensures
