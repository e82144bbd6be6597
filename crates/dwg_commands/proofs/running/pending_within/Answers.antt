use Rattle.dwg_base.specs.Refusals.{first_fault}
use Rattle.dwg_commands.specs.Commands.{lines_of, row_of}
use Rattle.dwg_commands.specs.Outcome.{outcome_within}
use Rattle.dwg_commands.proofs.running.pending_within.Goals as goal

pub returns-in-Err : goal.returns-in-Err
unfolding outcome_within
returns-in-Err c = c.refused_pending.ensures (first_fault (lines_of c.args.command) c.args.bytes.now) ((row_of c.args.command).answer c.args.bytes.now) c.in-Err.ensures.refused
