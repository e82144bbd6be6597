use Rattle.std.proofs.Common.{◌-◌}
use Rattle.std.specs.Prelude.{◌==◌}
use Rattle.dwg_bits.specs.Cursor.{rest}
use Rattle.dwg_grammar.specs.Codes.{bs}
use Rattle.dwg_common.specs.AppList.{app_item}
use Rattle.dwg_common.specs.Parsing.{Keeps}
use Rattle.dwg_common.proofs.UntilReading.{AreBegun}
use Rattle.dwg_common.proofs.app_list.read_items.Given as goal

-- the items so far are read
abbrev pub invariant-items : goal.invariant-items
invariant-items l = record {
  so_far : AreBegun bs (λ size. size == 0) (app_item l.base) l.found (rest l.fn.cursor) (rest l.cursor);
  kept : Keeps l.fn.cursor l.cursor;
}

-- each turn takes bits
abbrev pub decreases-items : goal.decreases-items
decreases-items l = l.cursor.end - l.cursor.place
