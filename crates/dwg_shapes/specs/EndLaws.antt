-- The ends of a line are a code.
use Rattle.std.proofs.Common.{◌≡◌, refl, ◌∙◌, ap, ℕ, ◌+◌, ◌^◌, ◌<◌, ◌≤◌, Bool, true, false, ◌++◌, length, arith}
use Rattle.std.specs.Prelude.{◌==◌, if◌then◌else◌}
use Rattle.std.proofs.lemmas.Bool.Decides.{nat_tests, Decides-eqb}
use Rattle.std.proofs.lemmas.List.{length-append}
use Rattle.dwg_bits.proofs.BitLaws.{length_of_low_bits}
use Rattle.dwg_grammar.specs.Codes.{rd, dd, b}
use Rattle.dwg_grammar.proofs.CombinatorLemmas.{any_letters_closed, always_is_code, tagged_is_code}
use Rattle.dwg_common.specs.LawSets.{codes, default_codes}
use Rattle.dwg_grammar.specs.Grammar.{IsCode, AnyLetters}
use Rattle.dwg_grammar.proofs.TruthCode.{b_is_code}
use Rattle.dwg_shapes.specs.Lines.{LineEnds, heights, ends_by, AreEnds, is_flat, newer_ends, older_ends, line_ends}
use Rattle.dwg_base.specs.declared.version.Version.{Version}
use Rattle.dwg_base.specs.declared.version.Version.TheVariants.{Ac1014, Ac1015}
use Rattle.dwg_grammar.specs.Codes.{IsPoint3}
use Rattle.dwg_grammar.proofs.VersionLemmas.{in_version_is_code}

-- the z words are a code by each z-zero
heights_is_code : (z_zero : Bool) → IsCode AnyLetters (heights z_zero)
heights_is_code true = always_is_code AnyLetters (0, 0)
heights_is_code false = search (codes, default_codes)

-- so are the ends
ends_by_is_code : (z_zero : Bool) → IsCode AnyLetters (ends_by z_zero)
ends_by_is_code z_zero = search (codes, default_codes, heights_is_code) depth 12

-- both z words have 64 bits
heights_value : (z_zero : Bool) (start_z end_z : ℕ) → (heights z_zero).IsValue (start_z, end_z) → (start_z < 2 ^ 64) × (end_z < 2 ^ 64)
heights_value true start_z end_z fits =
    (omega (arith, ap (λ (both : ℕ × ℕ). both.0) fits), omega (arith, ap (λ (both : ℕ × ℕ). both.1) fits))
heights_value false start_z end_z fits = (fits.0, fits.1)

-- and so have all words
ends_by_value : (z_zero : Bool) (ends : LineEnds) → (ends_by z_zero).IsValue ends → AreEnds ends
ends_by_value z_zero ends fits =
    let z = heights_value z_zero ends.start.z ends.end.z fits.1.1.1.1 in
    record {
      start = record { x = fits.0; y = fits.1.1.0; z = z.0 };
      end = record { x = fits.1.0; y = fits.1.1.1.0; z = z.1 };
    }

-- the z-zero that is written, by what the tests say
abbrev flat_by : Bool → Bool → Bool
flat_by start end = if start then end else false

-- the z words have the z-zero that is written of them
heights_picked : (start_z end_z : ℕ) (start end : Bool) → (start_z == 0) ≡ start → (end_z == 0) ≡ end → start_z < 2 ^ 64 → end_z < 2 ^ 64
    → (heights (flat_by start end)).IsValue (start_z, end_z)
heights_picked start_z end_z true true no_start no_end start_fits end_fits =
    ap (λ (z : ℕ). (z, end_z)) ((Decides-eqb start_z 0).0 no_start) ∙ ap (λ (z : ℕ). let both : ℕ × ℕ = (0, z) in both) ((Decides-eqb end_z 0).0 no_end)
heights_picked start_z end_z true false no_start no_end start_fits end_fits = (start_fits, end_fits)
heights_picked start_z end_z false end no_start no_end start_fits end_fits = (start_fits, end_fits)

-- and no fewer bits after another
heights_least : (start_z end_z : ℕ) (start end z_zero : Bool) → (start_z == 0) ≡ start → (end_z == 0) ≡ end → (heights z_zero).IsValue (start_z, end_z)
    → length ((heights (flat_by start end)).short (start_z, end_z)) ≤ length ((heights z_zero).short (start_z, end_z))
heights_least start_z end_z true true z_zero no_start no_end fits = omega arith
heights_least start_z end_z true false true no_start no_end fits = absurd (grind (arith, nat_tests, ap (λ (both : ℕ × ℕ). both.1) fits))
heights_least start_z end_z true false false no_start no_end fits = omega arith
heights_least start_z end_z false end true no_start no_end fits = absurd (grind (arith, nat_tests, ap (λ (both : ℕ × ℕ). both.0) fits))
heights_least start_z end_z false end false no_start no_end fits = omega arith

-- the bits of ends: those of the x and y words, and those of the z words
length_of_ends : (z_zero : Bool) (ends : LineEnds)
    → length ((ends_by z_zero).short ends) ≡ length (rd.short ends.start.x) + length ((dd ends.start.x).short ends.end.x) + length (rd.short ends.start.y)
    + length ((dd ends.start.y).short ends.end.y) + length ((heights z_zero).short (ends.start.z, ends.end.z))
length_of_ends z_zero ends =
    let end_y = (dd ends.start.y).short ends.end.y in
    let start_y = rd.short ends.start.y in
    let end_x = (dd ends.start.x).short ends.end.x in
    let z = (heights z_zero).short (ends.start.z, ends.end.z) in
    omega (
      arith,
      length-append (rd.short ends.start.x) (end_x ++ (start_y ++ (end_y ++ z))),
      length-append end_x (start_y ++ (end_y ++ z)),
      length-append start_y (end_y ++ z),
      length-append end_y z,
    )

-- after z-zero they are a code
newer_ends_is_code : IsCode AnyLetters newer_ends
newer_ends_is_code =
    tagged_is_code AnyLetters b ends_by AreEnds is_flat any_letters_closed b_is_code (λ z_zero any. ends_by_is_code z_zero) (λ z_zero ends any fits. ends_by_value z_zero ends fits)
    (λ ends are. (
      tt,
      (are.start.x, (are.end.x, (are.start.y, (are.end.y, heights_picked ends.start.z ends.end.z (ends.start.z == 0) (ends.end.z == 0) refl refl are.start.z are.end.z)))),
    ))
    (λ z_zero ends any fits. omega (
      arith,
      length_of_ends (is_flat ends) ends,
      length_of_ends z_zero ends,
      heights_least ends.start.z ends.end.z (ends.start.z == 0) (ends.end.z == 0) z_zero refl refl fits.1.1.1.1,
      length_of_low_bits 1 (if is_flat ends then 1 else 0),
      length_of_low_bits 1 (if z_zero then 1 else 0),
    ))

-- and so they are in each version
pub line_ends_is_code : (version : Version) → IsCode AnyLetters (line_ends version)
line_ends_is_code version = in_version_is_code AnyLetters version older_ends newer_ends (search codes) newer_ends_is_code

-- any points are ends
pub ends_value : (version : Version) (ends : LineEnds) → IsPoint3 ends.start → IsPoint3 ends.end → (line_ends version).IsValue ends
ends_value Ac1014 ends start end = (start, end)
ends_value Ac1015 ends start end = record { start = start; end = end }
