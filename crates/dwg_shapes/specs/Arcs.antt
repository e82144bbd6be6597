-- ARC (Open Design Specification, "ARC").
use Rattle.std.specs.Prelude.{ℕ, Bool}
use Rattle.dwg_base.specs.declared.version.Version.{Version}
use Rattle.dwg_grammar.specs.Codes.{bd, bd3}
use Rattle.dwg_grammar.specs.Versions.{thickness, extrusion}
use Rattle.dwg_grammar.specs.Combinators.{◌⋄◌, shaped}
use Rattle.dwg_grammar.specs.Grammar.{Grammar}
use Rattle.dwg_grammar.specs.Bodies.{BodyGrammar}
use Rattle.dwg_grammar.specs.MakingBodies.{main_body}
use Rattle.dwg_shapes.specs.declared.arc.Arc.{Arc}

-- 3BD centre; BD radius; thickness; extrusion; BD start angle; BD end angle
unfoldable pub arc_main : Version → Grammar Bool Arc
arc_main version =
    shaped (λ (centre, (radius, (thickness, (extrusion, (start_angle, end_angle))))). record {
      centre = centre;
      radius = radius;
      thickness = thickness;
      extrusion = extrusion;
      start_angle = start_angle;
      end_angle = end_angle;
    })
    (λ arc. (arc.centre, (arc.radius, (arc.thickness, (arc.extrusion, (arc.start_angle, arc.end_angle))))))
    (bd3 ⋄ bd ⋄ thickness version ⋄ extrusion version ⋄ bd ⋄ bd)

-- an arc: no references
abbrev pub arc_body : Version → ℕ → BodyGrammar Arc
arc_body version base = main_body (arc_main version)
