use Rattle.std.proofs.Common.{sym}
use Rattle.dwg_cert.proofs.Checking.{entry_seen}
use Rattle.dwg_cert.proofs.checker.Checker.entry_there.Goals as goal

pub returns : goal.returns
returns c handle at = entry_seen _ _ _ handle _ _ (sym c.self.view_is) c.self.invariant.entries at c.entry_there.ensures
