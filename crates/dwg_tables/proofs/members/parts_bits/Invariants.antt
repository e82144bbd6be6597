use Rattle.std.proofs.Common.{drop}
use Rattle.dwg_common.proofs.MemberLoops.{AreCounted}
use Rattle.dwg_tables.proofs.members.parts_bits.Given as goal

-- what is counted so far and the members that are left give the whole
abbrev pub invariant-members : goal.invariant-members
invariant-members g l = AreCounted (g.C.BitCode.grammar l.context) g.V.Part.part l.members (drop l.member-index l.members) l.bits
