use Rattle.std.proofs.Common.{sym, subst, ℕ}
use Rattle.std.proofs.lemmas.Result.{err_from_is_err_and}
use Rattle.dwg_object.specs.FoundFrames.{AnswersFrame}
use Rattle.dwg_object.specs.FrameLines.{tried_frame}
use Rattle.dwg_object.proofs.FrameReading.{refused_span}
use Rattle.dwg_object.proofs.frame.read_frame.Goals as goal

pub returns-in_err-span-clause-tried : goal.returns-in_err-span-clause-tried
returns-in_err-span-clause-tried c =
    let p = err_from_is_err_and c.from_residual.result c.from_residual.ensures.1 in
    rw (p.1, p.2) (refused_span _ _ _ _ _ (sym c.in_err-span.ensures.tried))

pub returns-clause-tried : goal.returns-clause-tried
returns-clause-tried c = subst (λ (n : ℕ). AnswersFrame c.read_span.result (tried_frame c.args.version n c.args.index c.args.bytes.now)) c.in_ok-span.ensures.place c.read_span.ensures.tried
