use Rattle.std.proofs.Common.{drop}
use Rattle.dwg_codes.proofs.ListWriting.{AreWrittenSoFar}
use Rattle.dwg_codes.proofs.list.write_list.Given as goal

-- what is written so far and the values that are left give the whole
abbrev pub invariant-values : goal.invariant-values
invariant-values g l = AreWrittenSoFar (g.C.BitCode.grammar l.context) l.values (drop l.value-index l.values) l.fn.sink l.sink
