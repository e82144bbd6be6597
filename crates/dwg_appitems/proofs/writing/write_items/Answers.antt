use Rattle.dwg_appitems.proofs.AllItems.{bits_of_items, written_are}
use Rattle.dwg_appitems.proofs.ComputedItems.{are_computed}
use Rattle.dwg_appitems.specs.ItemLists.{items_bytes}
use Rattle.dwg_appitems.proofs.writing.write_items.Goals as goal

pub returns-clause-bits : goal.returns-clause-bits
returns-clause-bits c = bits_of_items c.args.all.now c.requires.items

pub returns-clause-are : goal.returns-clause-are
returns-clause-are c = written_are c.args.all.now c.items.one-index _ _ c.items-test.false c.items.invariant

pub returns-clause-computed : goal.returns-clause-computed
returns-clause-computed c =
    are_computed (items_bytes c.args.all.now) c.args.all.now (written_are c.args.all.now c.items.one-index _ _ c.items-test.false c.items.invariant)
