use Rattle.std.proofs.Common.{drop}
use Rattle.dwg_common.proofs.AppWriting.{AreTried}
use Rattle.dwg_common.proofs.app_list.app_fits.Given as goal

-- the items so far have a spelling
abbrev pub invariant-items : goal.invariant-items
invariant-items l = AreTried l.base l.app (drop l.item-index l.app)
