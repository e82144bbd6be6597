use Rattle.dwg_graph.proofs.Searching.{Spends}
use Rattle.dwg_graph.proofs.index.place_of.Given as goal

abbrev pub invariant-halves : goal.invariant-halves
invariant-halves g l = Spends l.handles l.handle l.from l.width l.initial.steps l.steps

abbrev pub decreases-halves : goal.decreases-halves
decreases-halves g l = l.width
