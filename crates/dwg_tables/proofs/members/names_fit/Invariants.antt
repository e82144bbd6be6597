use Rattle.std.proofs.Common.{drop}
use Rattle.dwg_grammar.specs.ReferenceCodes.{reference}
use Rattle.dwg_common.proofs.MemberLoops.{AreTried}
use Rattle.dwg_tables.proofs.members.names_fit.Given as goal

-- the members so far have a spelling
abbrev pub invariant-members : goal.invariant-members
invariant-members g l = AreTried (reference l.base) g.V.Part.part l.members (drop l.member-index l.members)
