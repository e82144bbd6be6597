use Rattle.std.proofs.Common.{drop}
use Rattle.dwg_common.proofs.AppWriting.{AreWrittenSoFar}
use Rattle.dwg_common.proofs.app_list.write_app.Given as goal

-- what is written so far and the items that are left give the whole
abbrev pub invariant-items : goal.invariant-items
invariant-items l = AreWrittenSoFar l.base l.app (drop l.item-index l.app) l.fn.sink l.sink
