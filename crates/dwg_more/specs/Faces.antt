-- 3DFACE (Open Design Specification, "3DFACE"). That z-zero is written where the z word of the first corner is 0, and only there, is a rule of this project.
use Rattle.std.specs.Prelude.{◌==◌, ℕ, Bool, true, false, not, Option, is_none}
use Rattle.dwg_grammar.specs.Codes.{b, bs, rd, dd, IsPoint3}
use Rattle.dwg_grammar.specs.Combinators.{◌⋄◌, always, seq, tagged, when, shaped}
use Rattle.dwg_grammar.specs.Grammar.{Grammar}
use Rattle.dwg_grammar.specs.declared.points.Point3.{Point3}
use Rattle.dwg_grammar.specs.Bodies.{BodyGrammar}
use Rattle.dwg_grammar.specs.MakingBodies.{main_body}
use Rattle.dwg_more.specs.declared.face.Face3d.{Face3d}

-- the z word of the first corner: 0 where z-zero is 1, else RD
abbrev pub height : Bool → Grammar Bool ℕ
height true = always 0
height false = rd

-- RD x; RD y; the z word
abbrev pub corner_by : Bool → Grammar Bool Point3
corner_by z_zero =
    shaped (λ (x, (y, z)). record { x = x; y = y; z = z }) (λ corner. (corner.x, (corner.y, corner.z))) (rd ⋄ rd ⋄ height z_zero)

-- B z-zero; the corner
abbrev pub first_corner : Grammar Bool Point3
first_corner = tagged b corner_by IsPoint3 (λ corner. corner.z == 0)

-- 3DD: x against the x of a default, y against its y, z against its z
abbrev pub dd3 : Point3 → Grammar Bool Point3
dd3 default =
    shaped (λ (x, (y, z)). record { x = x; y = y; z = z }) (λ point. (point.x, (point.y, point.z))) (dd default.x ⋄ dd default.y ⋄ dd default.z)

-- 3DD for each corner but the first, whose default is the corner before; BS where no-flags is 0
abbrev pub after_first : Bool → Point3 → Grammar Bool (Point3 × (Point3 × (Point3 × Option ℕ)))
after_first no_flags first =
    seq (dd3 first) (λ second. seq (dd3 second) (λ third. seq (dd3 third) (λ fourth. when (not no_flags) bs)))

-- what of a face they give
abbrev pub after_first_of : Face3d → Point3 × (Point3 × (Point3 × Option ℕ))
after_first_of face = (face.second, (face.third, (face.fourth, face.invisible)))

-- B no-flags; the first corner; 3DD for each other, whose default is the corner before; BS where no-flags is 0
abbrev pub face_parts : Grammar Bool (Bool × (Point3 × (Point3 × (Point3 × (Point3 × Option ℕ)))))
face_parts =
    seq b (λ no_flags. seq first_corner (λ first. after_first no_flags first))

-- the main bits of a face
unfoldable pub face_main : Grammar Bool Face3d
face_main =
    shaped (λ (no_flags, (first, (second, (third, (fourth, invisible))))). record { first = first; second = second; third = third; fourth = fourth; invisible = invisible })
    (λ face. (is_none face.invisible, (face.first, after_first_of face))) face_parts

-- a face: no references
abbrev pub face_body : ℕ → BodyGrammar Face3d
face_body base = main_body face_main
