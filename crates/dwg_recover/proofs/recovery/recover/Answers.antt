use Rattle.std.proofs.Common.{◌≡◌, subst, arith}
use Rattle.std.specs.Prelude.{IfOk}
use Rattle.dwg_base.proofs.ByteLists.{are_bytes}
use Rattle.dwg_recover.specs.Recovering.{RecoveredValue}
use Rattle.dwg_recover.specs.Results.{recovered_value}
use Rattle.dwg_recover.proofs.WholeRecovery.{recovered_of_damaged, recovered_of_whole}
use Rattle.dwg_file.specs.Contents.{contents_of}
use Rattle.dwg_file.specs.DrawingAt.{drawing_at}
use Rattle.dwg_recover.proofs.recovery.recover.Goals as goal

pub recover_whole-requires-clause-drawing : goal.recover_whole-requires-clause-drawing
recover_whole-requires-clause-drawing g c =
    let bytes = c.args.bytes.now in
    let are = are_bytes bytes (λ i. omega (arith, c.type_inv.bytes i)) in
    c.drawing_laws.ensures.one bytes (contents_of c.in-Ok.read.drawing) (drawing_at bytes) are c.in-Ok.ensures.spelled (c.drawing_laws.ensures.spelled bytes are c.in-Ok.ensures.holds)

pub returns-in-Ok-clause-recovered : goal.returns-in-Ok-clause-recovered
returns-in-Ok-clause-recovered g c =
    subst (λ (all : RecoveredValue). IfOk c.recover_whole.result (λ value. recovered_value value ≡ all)) (recovered_of_whole c.args.bytes.now c.in-Ok.ensures.holds) c.recover_whole.ensures.recovered
