use Rattle.std.proofs.Common.{drop}
use Rattle.dwg_dicts.proofs.ItemFitting.{AreTried}
use Rattle.dwg_dicts.proofs.dict_items.items_fit.Given as goal

-- the items so far have a spelling
abbrev pub invariant-items : goal.invariant-items
invariant-items l = AreTried l.base l.items (drop l.item-index l.items)
