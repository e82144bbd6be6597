use Rattle.std.proofs.Common.{arith}
use Rattle.dwg_appitems.proofs.AllItems.{counted_within, all_counted, items_counted}
use Rattle.dwg_appitems.proofs.writing.items_length.Goals as goal

pub overflow_add-bytes : goal.overflow_add-bytes
overflow_add-bytes c =
    omega (
      arith,
      c.requires.few,
      counted_within c.args.all.now c.items.one-index c.one-item.result c.items.bytes c.item_length-bytes.result c.requires.items c.items-test.true c.one-item.is c.item_length-bytes.ensures.length
          c.items.invariant,
    )

pub returns-clause-bytes : goal.returns-clause-bytes
returns-clause-bytes c = all_counted c.args.all.now c.items.one-index c.items.bytes c.requires.items c.items-test.false c.items.invariant

pub returns-clause-bits : goal.returns-clause-bits
returns-clause-bits c =
    items_counted c.args.all.now c.items.bytes c.requires.items (all_counted c.args.all.now c.items.one-index c.items.bytes c.requires.items c.items-test.false c.items.invariant)
