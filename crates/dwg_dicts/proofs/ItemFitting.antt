-- Items of a dictionary tried one after the other.
use Rattle.std.proofs.Common.{ℕ, List}
use Rattle.dwg_dicts.specs.declared.dictionary.DictItem.{DictItem}
use Rattle.dwg_dicts.specs.Dictionaries.{AreItems}

-- all items have a spelling exactly where those that are left have one
pub record AreTried (base : ℕ) (listed left : List DictItem) : Type 0 where
  pub fit : AreItems base left → AreItems base listed
  pub fitted : AreItems base listed → AreItems base left
