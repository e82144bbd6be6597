use Rattle.std.proofs.Common.{None}
use Rattle.dwg_bits.specs.Cursor.{rest}
use Rattle.dwg_common.specs.Parsing.{Keeps}
use Rattle.dwg_shapes.specs.LwPolylines.{vertex, before_next}
use Rattle.dwg_common.proofs.ChainReading.{IsBegun}
use Rattle.dwg_shapes.proofs.vertices.read_vertices.Given as goal

-- so many points as turns are read
abbrev pub invariant-points : goal.invariant-points
invariant-points l = record {
  so_far : IsBegun vertex (before_next l.version) None l.before l.count l.counter l.found (rest l.fn.cursor) (rest l.cursor);
  kept : Keeps l.fn.cursor l.cursor;
}
