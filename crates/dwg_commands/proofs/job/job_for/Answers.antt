use Rattle.std.proofs.Common.{[], arith, sym, subst}
use Rattle.std.proofs.KnownBytes.{Consumes-nil}
use Rattle.dwg_commands.specs.Words.{IsUsage}
use Rattle.dwg_commands.proofs.CommandsRead.{names_reading, read_is_heeded}
use Rattle.dwg_commands.proofs.Outcomes.{outcome_of_no_command, answered_by, came_by}
use Rattle.dwg_commands.proofs.Unread.{unread_answered, unread_settled, unread_usage, unread_usage_reported}
use Rattle.dwg_commands.proofs.job.job_for.Goals as goal

pub returns-in-None-clause-answered : goal.returns-in-None-clause-answered
returns-in-None-clause-answered g c = λ bytes fed. outcome_of_no_command _ bytes (sym c.in-None.ensures.named)

pub returns-in-None-clause-came : goal.returns-in-None-clause-came
returns-in-None-clause-came g c = ([], Consumes-nil _, tt, (omega arith, outcome_of_no_command _ [] (sym c.in-None.ensures.named)))

pub returns-then-reads-clause-answered : goal.returns-then-reads-clause-answered
returns-then-reads-clause-answered g c = answered_by _ _ c.job_from.result _ (sym c.in-Some.ensures.named) (sym c.if-reads.ensures) c.job_from.ensures.answered

pub returns-then-reads-clause-came : goal.returns-then-reads-clause-came
returns-then-reads-clause-came g c = came_by _ _ c.job_from.result _ _ (sym c.in-Some.ensures.named) (sym c.if-reads.ensures) c.job_from.ensures.came

pub returns-then-reads-clause-usage_reported : goal.returns-then-reads-clause-usage_reported
returns-then-reads-clause-usage_reported g c = λ usage. absurd (read_is_heeded _ (names_reading _ _ (sym c.in-Some.ensures.named) (sym c.if-reads.ensures)) usage)

pub returns-else-reads-clause-answered : goal.returns-else-reads-clause-answered
returns-else-reads-clause-answered g c = λ bytes fed. unread_answered _ _ _ bytes (sym c.in-Some.ensures.named) (sym c.if-reads.ensures)

pub returns-else-reads-clause-came : goal.returns-else-reads-clause-came
returns-else-reads-clause-came g c = ([], Consumes-nil _, tt, (omega arith, unread_answered _ _ _ [] (sym c.in-Some.ensures.named) (sym c.if-reads.ensures)))

pub returns-else-reads-clause-settled : goal.returns-else-reads-clause-settled
returns-else-reads-clause-settled g c = unread_settled c.in-Some.command _ (sym c.if-reads.ensures)

pub returns-else-reads-clause-usage : goal.returns-else-reads-clause-usage
returns-else-reads-clause-usage g c = λ ends. subst IsUsage c.in-Some.ensures.named (unread_usage c.in-Some.command _ (sym c.if-reads.ensures) ends)

pub returns-else-reads-clause-usage_reported : goal.returns-else-reads-clause-usage_reported
returns-else-reads-clause-usage_reported g c = λ usage. unread_usage_reported c.in-Some.command _ (sym c.if-reads.ensures) (subst IsUsage (sym c.in-Some.ensures.named) usage)
