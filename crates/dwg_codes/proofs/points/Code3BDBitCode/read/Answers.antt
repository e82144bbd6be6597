use Rattle.std.proofs.Common.{refl}
use Rattle.dwg_codes.proofs.PointReading.{point_read, x_unread, y_unread, z_unread}
use Rattle.dwg_codes.proofs.points.Code3BDBitCode.read.Goals as goal

pub returns-in_err-x-clause-reads : goal.returns-in_err-x-clause-reads
returns-in_err-x-clause-reads c = x_unread _ _ _ c.from_residual.ensures c.in_err-x.ensures.reads

pub returns-in_err-y-clause-reads : goal.returns-in_err-y-clause-reads
returns-in_err-y-clause-reads c =
    y_unread c.in_ok-x.x _ _ _ _ c.from_residual-in_err-y.ensures c.in_ok-x.ensures.reads c.in_err-y.ensures.reads

pub returns-in_err-z-clause-reads : goal.returns-in_err-z-clause-reads
returns-in_err-z-clause-reads c =
    z_unread c.in_ok-x.x c.in_ok-y.y _ _ _ _ _ c.from_residual-in_err-z.ensures c.in_ok-x.ensures.reads c.in_ok-y.ensures.reads c.in_err-z.ensures.reads

pub returns-clause-reads : goal.returns-clause-reads
returns-clause-reads c =
    point_read c.in_ok-x.x c.in_ok-y.y c.in_ok-z.z _ _ _ _ _ refl c.in_ok-x.ensures.reads c.in_ok-y.ensures.reads c.in_ok-z.ensures.reads
