-- POINT (Open Design Specification, "POINT").
use Rattle.std.specs.Prelude.{ℕ, Bool}
use Rattle.dwg_base.specs.declared.version.Version.{Version}
use Rattle.dwg_grammar.specs.Codes.{bd, bd3}
use Rattle.dwg_grammar.specs.Versions.{thickness, extrusion}
use Rattle.dwg_grammar.specs.Combinators.{◌⋄◌, shaped}
use Rattle.dwg_grammar.specs.Grammar.{Grammar}
use Rattle.dwg_grammar.specs.Bodies.{BodyGrammar}
use Rattle.dwg_grammar.specs.MakingBodies.{main_body}
use Rattle.dwg_shapes.specs.declared.point.Point.{Point}

-- 3BD place; thickness; extrusion; BD angle
unfoldable pub point_main : Version → Grammar Bool Point
point_main version =
    shaped (λ (place, (thickness, (extrusion, angle))). record { place = place; thickness = thickness; extrusion = extrusion; angle = angle })
    (λ point. (point.place, (point.thickness, (point.extrusion, point.angle))))
    (bd3 ⋄ thickness version ⋄ extrusion version ⋄ bd)

-- a point: no references
abbrev pub point_body : Version → ℕ → BodyGrammar Point
point_body version base = main_body (point_main version)
