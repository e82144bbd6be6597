use Rattle.std.proofs.Common.{◌≡◌, subst, arith}
use Rattle.std.specs.Prelude.{IfOk}
use Rattle.dwg_base.proofs.ByteLists.{are_bytes}
use Rattle.dwg_recover.specs.Recovering.{RecoveredValue}
use Rattle.dwg_recover.specs.Results.{recovered_value}
use Rattle.dwg_recover.proofs.WholeRecovery.{recovered_of_damaged, recovered_of_whole}
use Rattle.dwg_file.specs.Contents.{contents_of}
use Rattle.dwg_file.specs.DrawingAt.{drawing_at}
use Rattle.dwg_recover.proofs.recovery.recover_refused.Goals as goal

pub recover_damaged-requires-clause-refusal : goal.recover_damaged-requires-clause-refusal
recover_damaged-requires-clause-refusal g c = rw c.in-Refused.is at c.requires.refused

pub returns-in-Refused-clause-recovered : goal.returns-in-Refused-clause-recovered
returns-in-Refused-clause-recovered g c =
    subst (λ (all : RecoveredValue). IfOk c.recover_damaged.result (λ value. recovered_value value ≡ all)) (recovered_of_damaged c.args.bytes.now c.in-Refused.refusal (rw c.in-Refused.is at c.requires.refused))
    c.recover_damaged.ensures.recovered
