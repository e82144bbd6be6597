use Rattle.std.proofs.Common.{drop}
use Rattle.dwg_grammar.specs.Points.{IsPoint2}
use Rattle.dwg_shapes.proofs.Known.{IsKnownSoFar}
use Rattle.dwg_shapes.proofs.vertices.known_vertices.Given as goal

-- the points so far are known
abbrev pub invariant-points : goal.invariant-points
invariant-points l = IsKnownSoFar IsPoint2 l.points (drop l.point-index l.points)
