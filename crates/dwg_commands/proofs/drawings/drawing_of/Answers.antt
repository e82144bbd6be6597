use Rattle.std.proofs.Common.{arith}
use Rattle.dwg_base.proofs.ByteLists.{are_bytes}
use Rattle.dwg_file.specs.DrawingAt.{drawing_at}
use Rattle.dwg_commands.proofs.CertificateOutcomes.{objects_few}
use Rattle.dwg_file.specs.Contents.{contents_of}
use Rattle.dwg_commands.proofs.drawings.drawing_of.Goals as goal

pub returns-clause-drawing : goal.returns-clause-drawing
returns-clause-drawing c =
    let bytes = c.args.bytes.now in
    let are = are_bytes bytes (λ i. omega (arith, c.type_inv.bytes i)) in
    c.drawing_laws.ensures.one bytes (contents_of c.in_ok-drawing.drawing) (drawing_at bytes) are c.in_ok-drawing.ensures.spelled (c.drawing_laws.ensures.spelled bytes are c.in_ok-drawing.ensures.holds)

pub returns-clause-few : goal.returns-clause-few
returns-clause-few c = omega (arith, c.requires, objects_few (contents_of c.in_ok-drawing.drawing) c.args.bytes.now c.in_ok-drawing.ensures.spelled)
