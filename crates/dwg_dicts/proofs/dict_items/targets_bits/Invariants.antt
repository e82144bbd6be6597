use Rattle.std.proofs.Common.{drop}
use Rattle.dwg_grammar.specs.ReferenceCodes.{reference}
use Rattle.dwg_dicts.specs.declared.dictionary.DictItem.{DictItem}
use Rattle.dwg_common.proofs.MemberLoops.{AreCounted}
use Rattle.dwg_dicts.proofs.dict_items.targets_bits.Given as goal

-- what is counted so far and the items that are left give the whole
abbrev pub invariant-items : goal.invariant-items
invariant-items l = AreCounted (reference l.base) (λ (item : DictItem). item.target) l.items (drop l.item-index l.items) l.bits
