use Rattle.std.proofs.Common.{arith}
use Rattle.dwg_codes.proofs.DefaultReading.{six_read, fifth_unread, sixth_unread, low_unread}
use Rattle.dwg_codes.proofs.default.read_six_bytes.Goals as goal

pub returns-in_err-fifth-clause-reads : goal.returns-in_err-fifth-clause-reads
returns-in_err-fifth-clause-reads c = fifth_unread _ _ _ _ c.from_residual.ensures c.in_err-fifth.ensures.reads

pub returns-in_err-sixth-clause-reads : goal.returns-in_err-sixth-clause-reads
returns-in_err-sixth-clause-reads c =
    sixth_unread _ c.in_ok-fifth.fifth _ _ _ _ c.from_residual-in_err-sixth.ensures c.in_ok-fifth.ensures.reads c.in_err-sixth.ensures.reads

pub returns-in_err-low-clause-reads : goal.returns-in_err-low-clause-reads
returns-in_err-low-clause-reads c =
    low_unread _ c.in_ok-fifth.fifth c.in_ok-sixth.sixth _ _ _ _ _ c.from_residual-in_err-low.ensures c.in_ok-fifth.ensures.reads c.in_ok-sixth.ensures.reads c.in_err-low.ensures.reads

pub returns-clause-reads : goal.returns-clause-reads
returns-clause-reads c =
    six_read _ c.in_ok-fifth.fifth c.in_ok-sixth.sixth c.in_ok-low.low _ _ _ _ _ (omega arith) c.in_ok-fifth.ensures.reads c.in_ok-sixth.ensures.reads c.in_ok-low.ensures.reads
