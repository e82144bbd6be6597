use Rattle.std.proofs.Common.{refl, arith, ◌∙◌, ap, Err, inr}
use Rattle.dwg_commands.proofs.Outcomes.{answered_within, answered_too_long, outcome_of_few, outcome_of_many, outcome_is_drained}
use Rattle.dwg_commands.proofs.job.job_from.Goals as goal

pub returns-in-Ok-clause-answered : goal.returns-in-Ok-clause-answered
returns-in-Ok-clause-answered g c = λ bytes reported.
    answered_within c.args.command _ _ c.in-Ok.bytes bytes _ c.in-Ok.ensures.whole c.in-Ok.ensures.end c.in-Ok.ensures.within refl reported

pub returns-in-Ok-clause-came : goal.returns-in-Ok-clause-came
returns-in-Ok-clause-came g c = (
  c.in-Ok.bytes,
  c.in-Ok.ensures.whole,
  c.in-Ok.ensures.bytes,
  (omega (arith, c.in-Ok.ensures.within), outcome_of_few c.args.command c.in-Ok.bytes _ c.in-Ok.ensures.within refl),
)

pub returns-in-Ok-clause-status : goal.returns-in-Ok-clause-status
returns-in-Ok-clause-status g c = inr (outcome_is_drained c.args.command c.in-Ok.bytes c.requires)

pub returns-in-Err-TooLong-clause-answered : goal.returns-in-Err-TooLong-clause-answered
returns-in-Err-TooLong-clause-answered g c = λ bytes reported.
    let gone = c.read_all.ensures.too_long (c.in-Err-TooLong.is ∙ ap Err c.in-Err-TooLong.field-0-is) in
    answered_too_long c.args.command _ _ gone.0 bytes _ gone.1 gone.3 refl reported

pub returns-in-Err-TooLong-clause-came : goal.returns-in-Err-TooLong-clause-came
returns-in-Err-TooLong-clause-came g c =
    let gone = c.read_all.ensures.too_long (c.in-Err-TooLong.is ∙ ap Err c.in-Err-TooLong.field-0-is) in (
      gone.0,
      gone.1,
      gone.2,
      (omega (arith, gone.3), outcome_of_many c.args.command gone.0 _ (omega (arith, gone.3)) refl),
    )
