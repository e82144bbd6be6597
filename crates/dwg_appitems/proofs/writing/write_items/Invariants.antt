use Rattle.std.proofs.Common.{drop}
use Rattle.dwg_appitems.proofs.AllItems.{AreWrittenSoFar}
use Rattle.dwg_appitems.proofs.writing.write_items.Given as goal

-- what is written so far and the items that are left give the whole
abbrev pub invariant-items : goal.invariant-items
invariant-items l = AreWrittenSoFar l.all (drop l.one-index l.all) l.fn.sink l.sink
