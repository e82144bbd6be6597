-- CIRCLE (Open Design Specification, "CIRCLE").
use Rattle.std.specs.Prelude.{ℕ, Bool}
use Rattle.dwg_base.specs.declared.version.Version.{Version}
use Rattle.dwg_grammar.specs.Codes.{bd, bd3}
use Rattle.dwg_grammar.specs.Versions.{thickness, extrusion}
use Rattle.dwg_grammar.specs.Combinators.{◌⋄◌, shaped}
use Rattle.dwg_grammar.specs.Grammar.{Grammar}
use Rattle.dwg_grammar.specs.Bodies.{BodyGrammar}
use Rattle.dwg_grammar.specs.MakingBodies.{main_body}
use Rattle.dwg_shapes.specs.declared.circle.Circle.{Circle}

-- 3BD centre; BD radius; thickness; extrusion
unfoldable pub circle_main : Version → Grammar Bool Circle
circle_main version =
    shaped (λ (centre, (radius, (thickness, extrusion))). record { centre = centre; radius = radius; thickness = thickness; extrusion = extrusion })
    (λ circle. (circle.centre, (circle.radius, (circle.thickness, circle.extrusion))))
    (bd3 ⋄ bd ⋄ thickness version ⋄ extrusion version)

-- a circle: no references
abbrev pub circle_body : Version → ℕ → BodyGrammar Circle
circle_body version base = main_body (circle_main version)
