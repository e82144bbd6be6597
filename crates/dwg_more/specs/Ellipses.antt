-- ELLIPSE (Open Design Specification, "ELLIPSE").
use Rattle.std.specs.Prelude.{ℕ, Bool}
use Rattle.dwg_grammar.specs.Codes.{bd, bd3}
use Rattle.dwg_grammar.specs.Combinators.{◌⋄◌, shaped}
use Rattle.dwg_grammar.specs.Grammar.{Grammar}
use Rattle.dwg_grammar.specs.Bodies.{BodyGrammar}
use Rattle.dwg_grammar.specs.MakingBodies.{main_body}
use Rattle.dwg_more.specs.declared.ellipse.Ellipse.{Ellipse}

-- 3BD centre; 3BD axis; 3BD extrusion; BD ratio; BD start angle; BD end angle
unfoldable pub ellipse_main : Grammar Bool Ellipse
ellipse_main =
    shaped (λ (centre, (axis, (extrusion, (ratio, (start_angle, end_angle))))). record {
      centre = centre;
      axis = axis;
      extrusion = extrusion;
      ratio = ratio;
      start_angle = start_angle;
      end_angle = end_angle;
    })
    (λ ellipse. (ellipse.centre, (ellipse.axis, (ellipse.extrusion, (ellipse.ratio, (ellipse.start_angle, ellipse.end_angle))))))
    (bd3 ⋄ bd3 ⋄ bd3 ⋄ bd ⋄ bd ⋄ bd)

-- an ellipse: no references
abbrev pub ellipse_body : ℕ → BodyGrammar Ellipse
ellipse_body base = main_body ellipse_main
