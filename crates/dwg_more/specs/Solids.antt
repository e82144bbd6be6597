-- SOLID and TRACE (Open Design Specification, "SOLID" and "TRACE").
use Rattle.std.specs.Prelude.{ℕ, Bool}
use Rattle.dwg_grammar.specs.Codes.{bd, bt, be}
use Rattle.dwg_grammar.specs.Combinators.{◌⋄◌, shaped}
use Rattle.dwg_grammar.specs.Grammar.{Grammar}
use Rattle.dwg_grammar.specs.Points.{rd2}
use Rattle.dwg_grammar.specs.declared.points.Point2.{Point2}
use Rattle.dwg_grammar.specs.declared.points.Point3.{Point3}
use Rattle.dwg_grammar.specs.Bodies.{BodyGrammar}
use Rattle.dwg_grammar.specs.MakingBodies.{main_body}
use Rattle.dwg_more.specs.declared.solid.Solid.{Solid}
use Rattle.dwg_more.specs.declared.trace.Trace.{Trace}

-- BT thickness; BD elevation; 2RD for each of four corners; BE extrusion
abbrev pub solid_parts : Grammar Bool (ℕ × (ℕ × (Point2 × (Point2 × (Point2 × (Point2 × Point3))))))
solid_parts = bt ⋄ bd ⋄ rd2 ⋄ rd2 ⋄ rd2 ⋄ rd2 ⋄ be

-- the parts of a solid
unfoldable pub solid_main : Grammar Bool Solid
solid_main =
    shaped (λ (thickness, (elevation, (first, (second, (third, (fourth, extrusion)))))). record {
      thickness = thickness;
      elevation = elevation;
      first = first;
      second = second;
      third = third;
      fourth = fourth;
      extrusion = extrusion;
    })
    (λ solid. (solid.thickness, (solid.elevation, (solid.first, (solid.second, (solid.third, (solid.fourth, solid.extrusion))))))) solid_parts

-- the parts of a trace, which are the same
unfoldable pub trace_main : Grammar Bool Trace
trace_main =
    shaped (λ (thickness, (elevation, (first, (second, (third, (fourth, extrusion)))))). record {
      thickness = thickness;
      elevation = elevation;
      first = first;
      second = second;
      third = third;
      fourth = fourth;
      extrusion = extrusion;
    })
    (λ trace. (trace.thickness, (trace.elevation, (trace.first, (trace.second, (trace.third, (trace.fourth, trace.extrusion))))))) solid_parts

-- a solid: no references
abbrev pub solid_body : ℕ → BodyGrammar Solid
solid_body base = main_body solid_main

-- a trace: no references
abbrev pub trace_body : ℕ → BodyGrammar Trace
trace_body base = main_body trace_main
