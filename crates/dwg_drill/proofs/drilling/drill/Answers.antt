use Rattle.std.proofs.Common.{arith}
use Rattle.dwg_drill.specs.Drilled.{DRILL_SEED}
use Rattle.dwg_make.specs.Made.{made}
use Rattle.dwg_drill.proofs.Drills.{can_be_drilled, reported_is_drilled}
use Rattle.dwg_drill.proofs.drilling.drill.Goals as goal

pub drill_file-requires : goal.drill_file-requires
drill_file-requires c =
    let within = c.in_ok-file.ensures.within in
    let valid = c.make_laws.ensures.valid c.args.n DRILL_SEED within.0 within.1 (omega arith) in
    let can = can_be_drilled c.canonical_laws.ensures.counted c.canonical_laws.ensures.read (made c.args.n DRILL_SEED) c.in_ok-file.file valid within.2 c.in_ok-file.ensures.file in
    record { length = can.few; some = can.some; passes = can.passes }

pub returns-clause-report : goal.returns-clause-report
returns-clause-report c =
    let within = c.in_ok-file.ensures.within in
    let valid = c.make_laws.ensures.valid c.args.n DRILL_SEED within.0 within.1 (omega arith) in
    let can = can_be_drilled c.canonical_laws.ensures.counted c.canonical_laws.ensures.read (made c.args.n DRILL_SEED) c.in_ok-file.file valid within.2 c.in_ok-file.ensures.file in
    reported_is_drilled c.args.n c.in_ok-file.file c.in_ok-report.report c.in_ok-report.ensures.report can.read c.in_ok-file.ensures.file
