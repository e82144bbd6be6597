use Rattle.std.proofs.Common.{inl, rules, subst}
use Rattle.dwg_commands.specs.Meaning.{Means}
use Rattle.dwg_commands.specs.declared.status.Status.{Status}
use Rattle.dwg_commands.proofs.CommandsRead.{read_is_heeded}
use Rattle.dwg_commands.proofs.Meanings.{answer_means}
use Rattle.dwg_cli.proofs.Stopping.{settled_is_whole, status_means_of_came, stopped_is_cut}
use Rattle.dwg_cli.proofs.run.run.Goals as goal

pub returns-in-Ok-clause-stopped : goal.returns-in-Ok-clause-stopped
returns-in-Ok-clause-stopped g c =
    λ stopped bytes feeds. inl (stopped_is_cut _ _ _ _ _ (c.in-Ok.ensures.answered bytes feeds) c.in-Ok.ensures.settled c.run_job.ensures.sent stopped)

pub returns-in-Err-ReadFault-clause-usage_reported : goal.returns-in-Err-ReadFault-clause-usage_reported
returns-in-Err-ReadFault-clause-usage_reported g c = λ usage. absurd (read_is_heeded _ (search rules) usage)

pub returns-in-Ok-clause-means : goal.returns-in-Ok-clause-means
returns-in-Ok-clause-means g c =
    λ settled bytes reported command names.
    subst (λ (status : Status). Means status command bytes) (settled_is_whole _ _ _ _ settled c.run_job.ensures.sent)
    (answer_means c.status_laws.ensures.means _ _ _ _ c.in-Ok.ensures.answered c.in-Ok.ensures.came c.in-Ok.ensures.drained bytes reported command names)

pub returns-in-Ok-clause-means_came : goal.returns-in-Ok-clause-means_came
returns-in-Ok-clause-means_came g c =
    λ settled. status_means_of_came c.status_laws.ensures.means _ _ _ _ _ (settled_is_whole _ _ _ _ settled c.run_job.ensures.sent) c.in-Ok.ensures.came
