use Rattle.dwg_grammar.specs.Grammar.{AnyLetters}
use Rattle.dwg_grammar.proofs.CodeLemmas.{lawful_of_code}
use Rattle.dwg_appitems.specs.Items.{item}
use Rattle.dwg_appitems.proofs.ItemLemmas.{item_is_code}
use Rattle.dwg_appitems.proofs.ItemPrefixes.{items_unique}
use Rattle.dwg_appitems.proofs.AllItems.{items_whole}
use Rattle.dwg_appitems.proofs.ComputedItems.{computed_are, are_computed}
use Rattle.dwg_appitems.proofs.ItemTable.{items_tabled}
use Rattle.dwg_appitems.proofs.laws.item_laws.Goals as goal

pub returns-clause-item : goal.returns-clause-item
returns-clause-item c = lawful_of_code AnyLetters item item_is_code

pub returns-clause-unique : goal.returns-clause-unique
returns-clause-unique c = items_unique

pub returns-clause-whole : goal.returns-clause-whole
returns-clause-whole c = items_whole

pub returns-clause-table : goal.returns-clause-table
returns-clause-table c = items_tabled

pub returns-clause-computed : goal.returns-clause-computed
returns-clause-computed c bytes all = (computed_are bytes all, are_computed bytes all)
