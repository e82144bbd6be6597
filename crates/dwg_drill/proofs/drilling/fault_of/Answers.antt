use Rattle.dwg_base.specs.Refusals.{first_fault}
use Rattle.dwg_file.specs.FileLines.{ALL_LINES}
use Rattle.dwg_drill.proofs.drilling.fault_of.Goals as goal

pub returns-in-Err : goal.returns-in-Err
returns-in-Err c = record { fault = c.refusal_of.ensures (first_fault ALL_LINES c.args.file.now) c.in-Err.ensures.refused }
