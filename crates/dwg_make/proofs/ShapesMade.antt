-- Lines, points, circles, arcs and polylines fit and are written by few bits.
use Rattle.std.proofs.Common.{refl, ℕ, ◌^◌, ◌<◌, Bool, true, false, [], ◌∷◌, Option, Some, None, arith}
use Rattle.dwg_base.specs.declared.version.Version.TheVariants.{Ac1015}
use Rattle.dwg_grammar.specs.Codes.{IsPoint3}
use Rattle.dwg_grammar.specs.Combinators.{chain}
use Rattle.dwg_grammar.specs.declared.points.Point2.{Point2}
use Rattle.dwg_grammar.specs.declared.points.Point3.{Point3}
use Rattle.dwg_grammar.specs.Points.{IsPoint2}
use Rattle.dwg_shapes.specs.declared.arc.Arc.{Arc}
use Rattle.dwg_shapes.specs.declared.circle.Circle.{Circle}
use Rattle.dwg_shapes.specs.declared.line.Line.{Line}
use Rattle.dwg_shapes.specs.declared.point.Point.{Point}
use Rattle.dwg_shapes.specs.Arcs.{arc_main, arc_body}
use Rattle.dwg_shapes.specs.Circles.{circle_body, circle_main}
use Rattle.dwg_shapes.specs.Lines.{heights, is_flat, newer_ends, line_main, line_body}
use Rattle.dwg_shapes.specs.LwPolylines.{vertex, lwpolyline_main, lwpolyline_body}
use Rattle.dwg_shapes.specs.Points.{point_main, point_body}
use Rattle.dwg_make.proofs.CodeSizes.{Few, no_letters, both, loosely, bs_few, bl_few, b_few, rd_few, dd_few, bd_few, bt_few, bd3_few, be_few, chain_few}
use Rattle.dwg_make.proofs.PartsMade.{IsMade}

-- the z words of both ends
heights_few : (flat : Bool) (start end : ℕ) → Few 130 ((heights flat).short (start, end))
heights_few true start end = loosely 130 (omega arith) no_letters
heights_few false start end = both (rd_few start) (dd_few start end)

-- both ends
pub ends_few : (start end : Point3) → Few 391 (newer_ends.short (record { start = start; end = end }))
ends_few start end =
    both (b_few (is_flat (record { start = start; end = end })))
    (both (rd_few start.x) (both (dd_few start.x end.x) (both (rd_few start.y) (both (dd_few start.y end.y) (heights_few (is_flat (record { start = start; end = end })) start.z end.z)))))

-- a line whose words lie in their ranges
pub line_made : (base : ℕ) (line : Line) → IsPoint3 line.start → IsPoint3 line.end → line.thickness < 2 ^ 64 → IsPoint3 line.extrusion → IsMade (line_body Ac1015 base) line
unfolding line_main
line_made base line start end thickness extrusion = record {
  fits = ((record { start = start; end = end }, (thickness, extrusion)), refl);
  main = loosely 65536 (omega arith) (both (ends_few line.start line.end) (both (bt_few line.thickness) (be_few line.extrusion)));
  refs = loosely 65536 (omega arith) no_letters;
}

-- a point
pub point_made : (base : ℕ) (point : Point) → IsPoint3 point.place → point.thickness < 2 ^ 64 → IsPoint3 point.extrusion → point.angle < 2 ^ 64 → IsMade (point_body Ac1015 base) point
unfolding point_main
point_made base point place thickness extrusion angle = record {
  fits = ((place, (thickness, (extrusion, angle))), refl);
  main = loosely 65536 (omega arith) (both (bd3_few point.place) (both (bt_few point.thickness) (both (be_few point.extrusion) (bd_few point.angle))));
  refs = loosely 65536 (omega arith) no_letters;
}

-- a circle
pub circle_made : (base : ℕ) (circle : Circle) → IsPoint3 circle.centre → circle.radius < 2 ^ 64 → circle.thickness < 2 ^ 64 → IsPoint3 circle.extrusion → IsMade (circle_body Ac1015 base) circle
unfolding circle_main
circle_made base circle centre radius thickness extrusion = record {
  fits = ((centre, (radius, (thickness, extrusion))), refl);
  main = loosely 65536 (omega arith) (both (bd3_few circle.centre) (both (bd_few circle.radius) (both (bt_few circle.thickness) (be_few circle.extrusion))));
  refs = loosely 65536 (omega arith) no_letters;
}

-- an arc
pub arc_made : (base : ℕ) (arc : Arc) → IsPoint3 arc.centre → arc.radius < 2 ^ 64 → arc.thickness < 2 ^ 64 → IsPoint3 arc.extrusion → arc.start_angle < 2 ^ 64 → arc.end_angle < 2 ^ 64
    → IsMade (arc_body Ac1015 base) arc
unfolding arc_main
arc_made base arc centre radius thickness extrusion start end = record {
  fits = ((centre, (radius, (thickness, (extrusion, (start, end))))), refl);
  main = loosely 65536 (omega arith)
      (both (bd3_few arc.centre)
      (both (bd_few arc.radius)
      (both (bt_few arc.thickness)
      (both (be_few arc.extrusion) (both (bd_few arc.start_angle) (bd_few arc.end_angle))))));
  refs = loosely 65536 (omega arith) no_letters;
}

-- a vertex of a polyline
pub vertex_few : (before : Option Point2) (point : Point2) → Few 132 ((vertex before).short point)
vertex_few None point = loosely 132 (omega arith) (both (rd_few point.x) (rd_few point.y))
vertex_few (Some before) point = both (dd_few before.x point.x) (dd_few before.y point.y)

-- a polyline of four points and nothing else
pub lwpolyline_made : (base : ℕ) (a b c d : Point2) → IsPoint2 a → IsPoint2 b → IsPoint2 c → IsPoint2 d
    → IsMade (lwpolyline_body Ac1015 base) (record { flag = 0; width = None; elevation = None; thickness = None; normal = None; points = a ∷ b ∷ c ∷ d ∷ []; bulges = None; widths = None })
unfolding lwpolyline_main chain
lwpolyline_made base a b c d is_a is_b is_c is_d = record {
  fits = (
    (
      (omega arith, (refl, (refl, (refl, refl)))),
      (
        (omega arith, (refl, refl)),
        ((refl, ((is_a.x, is_a.y), ((is_b.x, is_b.y), ((is_c.x, is_c.y), ((is_d.x, is_d.y), tt))))), (refl, refl)),
      ),
    ),
    refl,
  );
  main = loosely 65536 (omega arith)
      (both (both (bs_few 0) (both no_letters (both no_letters (both no_letters no_letters))))
      (both (both (bl_few 4) (both no_letters no_letters))
      (both (chain_few vertex (λ point. Some point) None (a ∷ b ∷ c ∷ d ∷ []) 132 vertex_few) (both no_letters no_letters))));
  refs = loosely 65536 (omega arith) no_letters;
}
