use Rattle.dwg_more.proofs.CornerReading.{dd3_unread}
use Rattle.dwg_more.proofs.corners.Code3DDBitCode.read.Goals as goal

pub returns-in_err-point-clause-reads : goal.returns-in_err-point-clause-reads
returns-in_err-point-clause-reads c = dd3_unread c.args.context.now _ _ c.point_with_range.ensures c.from_residual.ensures c.in_err-point.ensures.parsed
