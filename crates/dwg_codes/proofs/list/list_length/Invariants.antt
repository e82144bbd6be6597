use Rattle.std.proofs.Common.{drop}
use Rattle.dwg_codes.proofs.ListWriting.{AreCounted}
use Rattle.dwg_codes.proofs.list.list_length.Given as goal

-- what is counted so far and the values that are left give the whole
abbrev pub invariant-values : goal.invariant-values
invariant-values g l = AreCounted (g.C.BitCode.grammar l.context) l.values (drop l.item-index l.values) l.bits
