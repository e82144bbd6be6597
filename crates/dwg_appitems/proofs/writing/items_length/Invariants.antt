use Rattle.std.proofs.Common.{drop}
use Rattle.dwg_appitems.proofs.AllItems.{AreCountedSoFar}
use Rattle.dwg_appitems.proofs.writing.items_length.Given as goal

-- what is counted so far and the items that are left give the whole
abbrev pub invariant-items : goal.invariant-items
invariant-items l = AreCountedSoFar l.all (drop l.one-index l.all) l.bytes
