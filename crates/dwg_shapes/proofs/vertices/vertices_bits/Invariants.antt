use Rattle.std.proofs.Common.{drop}
use Rattle.dwg_shapes.proofs.VertexLoops.{AreCounted}
use Rattle.dwg_shapes.proofs.vertices.vertices_bits.Given as goal

-- what is counted so far and the points that are left give the whole
abbrev pub invariant-points : goal.invariant-points
invariant-points l = AreCounted l.version l.points l.before (drop l.point-index l.points) l.bits
