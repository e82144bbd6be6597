use Rattle.std.proofs.Common.{drop}
use Rattle.dwg_common.proofs.AppWriting.{AreCounted}
use Rattle.dwg_common.proofs.app_list.app_length.Given as goal

-- what is counted so far and the items that are left give the whole
abbrev pub invariant-items : goal.invariant-items
invariant-items l = AreCounted l.base l.app (drop l.item-index l.app) l.bits
