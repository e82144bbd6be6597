use Rattle.std.proofs.Common.{drop}
use Rattle.dwg_shapes.proofs.VertexLoops.{AreWrittenSoFar}
use Rattle.dwg_shapes.proofs.vertices.write_vertices.Given as goal

-- what is written so far and the points that are left give the whole
abbrev pub invariant-points : goal.invariant-points
invariant-points l = AreWrittenSoFar l.version l.points l.before (drop l.point-index l.points) l.fn.sink l.sink
