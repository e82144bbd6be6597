-- Which corner may stand after each z-zero.
use Rattle.std.proofs.Common.{◌≡◌, true, false}
use Rattle.dwg_grammar.specs.Codes.{IsPoint3}
use Rattle.dwg_grammar.specs.declared.points.Point3.{Point3}
use Rattle.dwg_more.specs.Faces.{corner_by}

-- a corner whose z word is 0 may stand after the z-zero 1
pub flat_value : (corner : Point3) → IsPoint3 corner → corner.z ≡ 0 → (corner_by true).IsValue corner
flat_value corner is none = (is.x, (is.y, none))

-- and each may stand after the z-zero 0
pub steep_value : (corner : Point3) → IsPoint3 corner → (corner_by false).IsValue corner
steep_value corner is = (is.x, (is.y, is.z))
