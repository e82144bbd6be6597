use Rattle.dwg_common.proofs.PointReading.{dd2_unread}
use Rattle.dwg_common.proofs.points.Code2DDBitCode.read.Goals as goal

pub returns-in_err-point-clause-reads : goal.returns-in_err-point-clause-reads
returns-in_err-point-clause-reads c = dd2_unread c.args.context.now _ _ (search) (search) c.from_residual.ensures c.in_err-point.ensures.parsed
