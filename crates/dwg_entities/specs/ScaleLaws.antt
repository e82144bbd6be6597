-- The scale of an insert is a code.
use Rattle.std.proofs.Common.{◌≡◌, refl, sym, ◌∙◌, ap, subst, ℕ, zero, suc, ◌^◌, ◌<◌, ◌≤◌, Bool, true, false, ◌++◌, length, arith}
use Rattle.std.specs.Prelude.{◌==◌}
use Rattle.std.proofs.lemmas.Bool.Decides.{Decides-eqb}
use Rattle.std.proofs.lemmas.List.{length-append}
use Rattle.dwg_base.specs.declared.version.Version.{Version}
use Rattle.dwg_base.specs.declared.version.Version.TheVariants.{Ac1014, Ac1015}
use Rattle.dwg_grammar.specs.Codes.{rd, dd, bd3, ONE, IsPoint3}
use Rattle.dwg_grammar.specs.Combinators.{seq}
use Rattle.dwg_grammar.proofs.CombinatorLemmas.{always_is_code, never_is_code, struct_is_code}
use Rattle.dwg_common.specs.LawSets.{codes, default_codes}
use Rattle.dwg_grammar.specs.Grammar.{IsCode, AnyLetters}
use Rattle.dwg_grammar.proofs.NumberLemmas.{rd_is_code}
use Rattle.dwg_grammar.proofs.TableLemmas.{bit_tagged_is_code, bd3_is_code}
use Rattle.dwg_grammar.proofs.VersionLemmas.{in_version_is_code}
use Rattle.dwg_grammar.specs.declared.points.Point3.{Point3}
use Rattle.dwg_entities.specs.Scale.{WHOLE, scale_free, scale_beside_one, scale_even, scale_by, tag_by, scale_tag, newer_scale, scale}

-- 1.0 is a word
one_is_word : ONE < 2 ^ 64
one_is_word = omega arith

-- what follows each tag is a code
scale_by_is_code : (tag : ℕ) → IsCode AnyLetters (scale_by tag)
scale_by_is_code zero =
    struct_is_code AnyLetters IsPoint3 (λ (words : ℕ × (ℕ × ℕ)). record { x = words.0; y = words.1.0; z = words.1.1 }) (λ (point : Point3). (point.x, (point.y, point.z)))
    (seq rd (λ x. seq (dd x) (λ y. dd x))) (search (codes, default_codes))
    (λ words fits. record { x = fits.0; y = fits.1.0; z = fits.1.1 })
    (λ point fits. ((fits.x, (fits.y, fits.z)), refl))
    (λ words fits. refl)
scale_by_is_code (suc zero) =
    struct_is_code AnyLetters (λ (point : Point3). IsPoint3 point × (point.x ≡ ONE)) (λ (words : ℕ × ℕ). record { x = ONE; y = words.0; z = words.1 })
    (λ (point : Point3). (point.y, point.z)) (seq (dd ONE) (λ y. dd ONE)) (search (codes, default_codes, one_is_word))
    (λ words fits. (record { x = one_is_word; y = fits.0; z = fits.1 }, refl))
    (λ point fits. ((fits.0.y, fits.0.z), ap (λ (x : ℕ). let p : Point3 = record { x = x; y = point.y; z = point.z } in p) (sym fits.1)))
    (λ words fits. refl)
scale_by_is_code (suc (suc zero)) =
    struct_is_code AnyLetters (λ (point : Point3). (point.x < 2 ^ 64) × (point.y ≡ point.x) × (point.z ≡ point.x)) (λ (x : ℕ). record { x = x; y = x; z = x })
    (λ (point : Point3). point.x) rd rd_is_code
    (λ x fits. (fits, refl, refl))
    (λ point fits. (
      fits.0,
      ap (λ (y : ℕ). let p : Point3 = record { x = point.x; y = y; z = point.x } in p) (sym fits.1)
          ∙ ap (λ (z : ℕ). let p : Point3 = record { x = point.x; y = point.y; z = z } in p) (sym fits.2),
    ))
    (λ x fits. refl)
scale_by_is_code (suc (suc (suc zero))) = always_is_code AnyLetters WHOLE
scale_by_is_code (suc (suc (suc (suc tag)))) = never_is_code AnyLetters

-- each word of it is 1.0
whole_is_point : IsPoint3 WHOLE
whole_is_point = record { x = one_is_word; y = one_is_word; z = one_is_word }

-- and its words have 64 bits
scale_by_value : (tag : ℕ) (point : Point3) → (scale_by tag).IsValue point → IsPoint3 point
scale_by_value zero point fits = fits
scale_by_value (suc zero) point fits = fits.0
scale_by_value (suc (suc zero)) point fits =
    record { x = fits.0; y = subst (λ (word : ℕ). word < 2 ^ 64) (sym fits.1) fits.0; z = subst (λ (word : ℕ). word < 2 ^ 64) (sym fits.2) fits.0 }
scale_by_value (suc (suc (suc zero))) point fits = subst IsPoint3 (sym fits) whole_is_point
scale_by_value (suc (suc (suc (suc tag)))) point fits = absurd fits

-- numbers that are distinguished differ
apart : {P : Type 0} (one other : ℕ) → (one == other) ≡ false → one ≡ other → P
apart one other differ same = absurd (cc (differ, (Decides-eqb one other).1 same))

-- a scale has the tag that is written of it
scale_picked : (point : Point3) (x_one y_one z_one y_same z_same : Bool) → (point.x == ONE) ≡ x_one → (point.y == ONE) ≡ y_one → (point.z == ONE) ≡ z_one
    → (point.y == point.x) ≡ y_same → (point.z == point.x) ≡ z_same → IsPoint3 point
    → (tag_by x_one y_one z_one y_same z_same < 2 ^ 2) × (scale_by (tag_by x_one y_one z_one y_same z_same)).IsValue point
scale_picked point true true true y_same z_same x y z same_y same_z fits = (
  omega arith,
  ap (λ (x : ℕ). let p : Point3 = record { x = x; y = point.y; z = point.z } in p) ((Decides-eqb point.x ONE).0 x)
      ∙ ap (λ (y : ℕ). let p : Point3 = record { x = ONE; y = y; z = point.z } in p) ((Decides-eqb point.y ONE).0 y)
      ∙ ap (λ (z : ℕ). let p : Point3 = record { x = ONE; y = ONE; z = z } in p) ((Decides-eqb point.z ONE).0 z),
)
scale_picked point true true false y_same z_same x y z same_y same_z fits = (omega arith, (fits, (Decides-eqb point.x ONE).0 x))
scale_picked point true false z_one y_same z_same x y z same_y same_z fits = (omega arith, (fits, (Decides-eqb point.x ONE).0 x))
scale_picked point false y_one z_one true true x y z same_y same_z fits =
    (omega arith, (fits.x, (Decides-eqb point.y point.x).0 same_y, (Decides-eqb point.z point.x).0 same_z))
scale_picked point false y_one z_one true false x y z same_y same_z fits = (omega arith, fits)
scale_picked point false y_one z_one false z_same x y z same_y same_z fits = (omega arith, fits)

-- beside 1.0 a scale has no more bits than after a word
beside_one_least : (point : Point3) → point.x ≡ ONE → length (scale_beside_one.short point) ≤ length (scale_free.short point)
beside_one_least point x_one =
    subst (λ (x : ℕ). length (scale_beside_one.short point) ≤ length (rd.short point.x ++ ((dd x).short point.y ++ (dd x).short point.z))) (sym x_one)
    (omega (arith, length-append (rd.short point.x) ((dd ONE).short point.y ++ (dd ONE).short point.z)))

-- nor has an even one
even_least : (point : Point3) → length (scale_even.short point) ≤ length (scale_free.short point)
even_least point = omega (arith, length-append (rd.short point.x) ((dd point.x).short point.y ++ (dd point.x).short point.z))

-- after the tag that is written there are no more bits than after another
scale_least : (point : Point3) (tag : ℕ) (x_one y_one z_one y_same z_same : Bool) → (point.x == ONE) ≡ x_one → (point.y == ONE) ≡ y_one → (point.z == ONE) ≡ z_one
    → (point.y == point.x) ≡ y_same → (point.z == point.x) ≡ z_same → (scale_by tag).IsValue point
    → length ((scale_by (tag_by x_one y_one z_one y_same z_same)).short point) ≤ length ((scale_by tag).short point)
scale_least point tag true true true y_same z_same x y z same_y same_z fits = omega arith
scale_least point zero true true false y_same z_same x y z same_y same_z fits = beside_one_least point ((Decides-eqb point.x ONE).0 x)
scale_least point (suc zero) true true false y_same z_same x y z same_y same_z fits = omega arith
scale_least point (suc (suc zero)) true true false y_same z_same x y z same_y same_z fits = apart point.z ONE z (fits.2 ∙ (Decides-eqb point.x ONE).0 x)
scale_least point (suc (suc (suc zero))) true true false y_same z_same x y z same_y same_z fits = apart point.z ONE z (ap (λ (p : Point3). p.z) fits)
scale_least point zero true false z_one y_same z_same x y z same_y same_z fits = beside_one_least point ((Decides-eqb point.x ONE).0 x)
scale_least point (suc zero) true false z_one y_same z_same x y z same_y same_z fits = omega arith
scale_least point (suc (suc zero)) true false z_one y_same z_same x y z same_y same_z fits = apart point.y ONE y (fits.1 ∙ (Decides-eqb point.x ONE).0 x)
scale_least point (suc (suc (suc zero))) true false z_one y_same z_same x y z same_y same_z fits = apart point.y ONE y (ap (λ (p : Point3). p.y) fits)
scale_least point zero false y_one z_one true true x y z same_y same_z fits = even_least point
scale_least point (suc zero) false y_one z_one y_same z_same x y z same_y same_z fits = apart point.x ONE x fits.1
scale_least point (suc (suc zero)) false y_one z_one true true x y z same_y same_z fits = omega arith
scale_least point (suc (suc (suc zero))) false y_one z_one y_same z_same x y z same_y same_z fits = apart point.x ONE x (ap (λ (p : Point3). p.x) fits)
scale_least point zero false y_one z_one true false x y z same_y same_z fits = omega arith
scale_least point (suc (suc zero)) false y_one z_one true false x y z same_y same_z fits = apart point.z point.x same_z fits.2
scale_least point zero false y_one z_one false z_same x y z same_y same_z fits = omega arith
scale_least point (suc (suc zero)) false y_one z_one false z_same x y z same_y same_z fits = apart point.y point.x same_y fits.1
scale_least point (suc (suc (suc (suc tag)))) x_one y_one z_one y_same z_same x y z same_y same_z fits = absurd fits

-- a scale of AC1015 is a code
pub newer_scale_is_code : IsCode AnyLetters newer_scale
unfolding newer_scale
newer_scale_is_code =
    bit_tagged_is_code 2 scale_by IsPoint3 scale_tag
    (λ tag in_range. scale_by_is_code tag) (λ tag point in_range fits. scale_by_value tag point fits)
    (λ point fits. scale_picked point (point.x == ONE) (point.y == ONE) (point.z == ONE) (point.y == point.x) (point.z == point.x) refl refl refl refl refl fits)
    (λ tag point in_range fits. scale_least point tag (point.x == ONE) (point.y == ONE) (point.z == ONE) (point.y == point.x) (point.z == point.x) refl refl refl refl refl fits)

-- and a scale is one in each version
pub scale_is_code : (version : Version) → IsCode AnyLetters (scale version)
scale_is_code version = in_version_is_code AnyLetters version bd3 newer_scale bd3_is_code newer_scale_is_code

-- a point is a scale, and only a point
pub scale_value : (version : Version) (point : Point3) → IsPoint3 point → (scale version).IsValue point
unfolding newer_scale
scale_value Ac1014 point is = is
scale_value Ac1015 point is = is

pub scale_point : (version : Version) (point : Point3) → (scale version).IsValue point → IsPoint3 point
unfolding newer_scale
scale_point Ac1014 point is = is
scale_point Ac1015 point is = is
