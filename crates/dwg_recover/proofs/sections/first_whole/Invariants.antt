use Rattle.dwg_recover.proofs.SectionFinding.{IsAlong}
use Rattle.dwg_recover.proofs.sections.first_whole.Given as goal

-- the search of a first section is along
abbrev pub invariant-places : goal.invariant-places
invariant-places g l = IsAlong l.which l.bytes l.counter l.at l.initial.steps l.steps
