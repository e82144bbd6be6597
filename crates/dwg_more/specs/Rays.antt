-- RAY and XLINE (Open Design Specification, "RAY" and "XLINE").
use Rattle.std.specs.Prelude.{ℕ, Bool}
use Rattle.dwg_grammar.specs.Codes.{bd3}
use Rattle.dwg_grammar.specs.Combinators.{◌⋄◌, shaped}
use Rattle.dwg_grammar.specs.Grammar.{Grammar}
use Rattle.dwg_grammar.specs.Bodies.{BodyGrammar}
use Rattle.dwg_grammar.specs.MakingBodies.{main_body}
use Rattle.dwg_more.specs.declared.ray.Ray.{Ray}
use Rattle.dwg_more.specs.declared.xline.XLine.{XLine}

-- 3BD point; 3BD vector
unfoldable pub ray_main : Grammar Bool Ray
ray_main = shaped (λ (point, vector). record { point = point; vector = vector }) (λ ray. (ray.point, ray.vector)) (bd3 ⋄ bd3)

-- as a ray: 3BD point; 3BD vector
unfoldable pub xline_main : Grammar Bool XLine
xline_main = shaped (λ (point, vector). record { point = point; vector = vector }) (λ xline. (xline.point, xline.vector)) (bd3 ⋄ bd3)

-- a ray: no references
abbrev pub ray_body : ℕ → BodyGrammar Ray
ray_body base = main_body ray_main

-- a line without ends: no references
abbrev pub xline_body : ℕ → BodyGrammar XLine
xline_body base = main_body xline_main
