use Rattle.dwg_handles.proofs.OwnReading.{own_read, own_unresolved}
use Rattle.dwg_handles.proofs.own.read_own.Goals as goal

pub returns-in_err-own-clause-reads : goal.returns-in_err-own-clause-reads
returns-in_err-own-clause-reads c = own_unresolved _ c.in_ok-parts.parts _ _ c.from_residual-in_err-own.ensures c.in_ok-parts.ensures.reads c.in_err-own.ensures.unresolved

pub returns-clause-reads : goal.returns-clause-reads
returns-clause-reads c = own_read _ c.in_ok-parts.parts _ _ c.in_ok-parts.ensures.reads c.in_ok-own.ensures.resolved.0 c.in_ok-own.ensures.resolved.1
