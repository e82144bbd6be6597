use Rattle.std.proofs.Common.{drop}
use Rattle.dwg_grammar.specs.Codes.{tv}
use Rattle.dwg_dicts.specs.declared.dictionary.DictItem.{DictItem}
use Rattle.dwg_common.proofs.MemberLoops.{AreWrittenSoFar}
use Rattle.dwg_dicts.proofs.dict_items.write_names.Given as goal

-- what is written so far and the items that are left give the whole
abbrev pub invariant-items : goal.invariant-items
invariant-items l = AreWrittenSoFar tv (λ (item : DictItem). item.name) l.items (drop l.item-index l.items) l.fn.sink l.sink
