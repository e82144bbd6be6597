-- The corners of a face are codes.
use Rattle.std.proofs.Common.{◌≡◌, refl, ℕ, ◌+◌, ◌^◌, ◌<◌, ◌≤◌, Bool, true, false, ◌++◌, length, arith}
use Rattle.std.specs.Prelude.{◌==◌, if◌then◌else◌}
use Rattle.std.proofs.lemmas.Bool.Decides.{nat_tests, Decides-eqb}
use Rattle.std.proofs.lemmas.List.{length-append}
use Rattle.dwg_bits.proofs.BitLaws.{length_of_low_bits}
use Rattle.dwg_common.specs.LawSets.{codes, default_codes}
use Rattle.dwg_grammar.specs.Codes.{b, rd, IsPoint3}
use Rattle.dwg_grammar.proofs.CombinatorLemmas.{any_letters_closed, always_is_code, tagged_is_code}
use Rattle.dwg_grammar.specs.Grammar.{IsCode, AnyLetters}
use Rattle.dwg_grammar.proofs.TruthCode.{b_is_code}
use Rattle.dwg_grammar.specs.declared.points.Point3.{Point3}
use Rattle.dwg_more.specs.Faces.{height, corner_by, first_corner, dd3}

-- the z word is a code by each z-zero
height_is_code : (z_zero : Bool) → IsCode AnyLetters (height z_zero)
height_is_code true = always_is_code AnyLetters 0
height_is_code false = search codes

-- so is the corner
corner_by_is_code : (z_zero : Bool) → IsCode AnyLetters (corner_by z_zero)
corner_by_is_code z_zero = search (codes, height_is_code) depth 12

-- the z word has 64 bits
height_value : (z_zero : Bool) (z : ℕ) → (height z_zero).IsValue z → z < 2 ^ 64
height_value true z fits = omega (arith, fits)
height_value false z fits = fits

-- and so have all words
corner_by_value : (z_zero : Bool) (corner : Point3) → (corner_by z_zero).IsValue corner → IsPoint3 corner
corner_by_value z_zero corner fits = record { x = fits.0; y = fits.1.0; z = height_value z_zero corner.z fits.1.1 }

-- the z word has the z-zero that is written of it
height_picked : (z : ℕ) (flat : Bool) → (z == 0) ≡ flat → z < 2 ^ 64 → (height flat).IsValue z
height_picked z true none fits = (Decides-eqb z 0).0 none
height_picked z false some fits = fits

-- and no fewer bits after another
height_least : (z : ℕ) (flat z_zero : Bool) → (z == 0) ≡ flat → (height z_zero).IsValue z → length ((height flat).short z) ≤ length ((height z_zero).short z)
height_least z true z_zero none fits = omega arith
height_least z false true some fits = absurd (grind (arith, nat_tests, fits))
height_least z false false some fits = omega arith

-- the bits of a corner: those of its words
pub length_of_corner : (z_zero : Bool) (corner : Point3)
    → length ((corner_by z_zero).short corner) ≡ length (rd.short corner.x) + length (rd.short corner.y) + length ((height z_zero).short corner.z)
length_of_corner z_zero corner =
    omega (
      arith,
      length-append (rd.short corner.x) (rd.short corner.y ++ (height z_zero).short corner.z),
      length-append (rd.short corner.y) ((height z_zero).short corner.z),
    )

-- the first corner of a face is a code
pub first_corner_is_code : IsCode AnyLetters first_corner
first_corner_is_code =
    tagged_is_code AnyLetters b corner_by IsPoint3 (λ corner. corner.z == 0) any_letters_closed b_is_code
    (λ z_zero any. corner_by_is_code z_zero) (λ z_zero corner any fits. corner_by_value z_zero corner fits)
    (λ corner is. (tt, (is.x, (is.y, height_picked corner.z (corner.z == 0) refl is.z))))
    (λ z_zero corner any fits. omega (
      arith,
      length_of_corner (corner.z == 0) corner,
      length_of_corner z_zero corner,
      height_least corner.z (corner.z == 0) z_zero refl fits.1.1,
      length_of_low_bits 1 (if corner.z == 0 then 1 else 0),
      length_of_low_bits 1 (if z_zero then 1 else 0),
    ))

-- a 3DD is a code for each default of three words
pub dd3_is_code : (default : Point3) → IsPoint3 default → IsCode AnyLetters (dd3 default)
dd3_is_code default is = search (codes, default_codes, is.x, is.y, is.z) depth 12

-- so for each that was read
pub dd3_of_read : (before default : Point3) → (dd3 before).IsValue default → IsCode AnyLetters (dd3 default)
dd3_of_read before default fits = dd3_is_code default (record { x = fits.0; y = fits.1.0; z = fits.1.1 })
