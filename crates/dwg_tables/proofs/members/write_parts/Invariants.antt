use Rattle.std.proofs.Common.{drop}
use Rattle.dwg_common.proofs.MemberLoops.{AreWrittenSoFar}
use Rattle.dwg_tables.proofs.members.write_parts.Given as goal

-- what is written so far and the members that are left give the whole
abbrev pub invariant-members : goal.invariant-members
invariant-members g l = AreWrittenSoFar (g.C.BitCode.grammar l.context) g.V.Part.part l.members (drop l.member-index l.members) l.fn.sink l.sink
