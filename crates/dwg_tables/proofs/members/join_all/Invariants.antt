use Rattle.dwg_tables.proofs.MemberLoops.{AreJoinedSoFar}
use Rattle.dwg_tables.proofs.members.join_all.Given as goal

-- the members so far and what is left give all
abbrev pub invariant-parts : goal.invariant-parts
invariant-parts g l = AreJoinedSoFar g.V.Joined.join l.parsed l.names l.place l.members
