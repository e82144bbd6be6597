-- Own handles are a code, and are spelled as the plain relation says.
use Rattle.std.proofs.Common.{◌≡◌, refl, sym, ◌∙◌, ap, ap₂, subst, ℕ, ◌*◌, ◌^◌, ◌<◌, List, Bool, ◌++◌, true, arith}
use Rattle.std.specs.Prelude.{◌↔◌, ◌==◌, ◌&&◌, nat_lt}
use Rattle.std.proofs.lemmas.Bool.Decides.{nat_tests}
use Rattle.dwg_bits.specs.Bits.{low_bits}
use Rattle.dwg_grammar.specs.Grammar.{Grammar, IsCode, AnyLetters}
use Rattle.dwg_grammar.specs.Combinators.{fixed, seq, restrict}
use Rattle.dwg_grammar.proofs.CombinatorLemmas.{any_letters_closed, fixed_is_code, restrict_is_code, seq_is_code, struct_is_code}
use Rattle.dwg_grammar.specs.Reference.{OwnSpells}
use Rattle.dwg_grammar.specs.ReferenceCodes.{counted_number, own_handle}
use Rattle.dwg_grammar.proofs.CountedLemmas.{fixed_spelled, fixed_spells, counted_spelled, counted_spells, counted_is_code}

-- code 0
abbrev code_none : Grammar Bool ℕ
code_none = restrict (λ code. code == 0) (fixed 4)

-- and a positive number after it
abbrev positive : Grammar Bool ℕ
positive = restrict (λ number. nat_lt 0 number && nat_lt number (2 ^ 63)) counted_number

-- own handles are a code
pub own_is_code : IsCode AnyLetters own_handle
unfolding own_handle
own_is_code =
    struct_is_code AnyLetters (λ own. (0 < own) × (own < 2 ^ 63)) (λ (parts : ℕ × ℕ). parts.1) (λ own. (0, own)) (seq code_none (λ code. positive))
    (seq_is_code AnyLetters code_none (λ code. positive) any_letters_closed (restrict_is_code AnyLetters (λ code. code == 0) (fixed 4) (fixed_is_code 4))
    (λ code fits. restrict_is_code AnyLetters (λ number. nat_lt 0 number && nat_lt number (2 ^ 63)) counted_number counted_is_code))
    (λ parts fits. (grind (arith, nat_tests), grind (arith, nat_tests)))
    (λ own fits. (((refl, omega arith), (grind (arith, nat_tests), omega arith)), refl))
    (λ parts fits. same_parts parts.0 parts.1 fits.0.0)
  where
    same_parts : (code number : ℕ) → (code == 0) ≡ true → ◌≡◌ {A = ℕ × ℕ} (0, number) (code, number)
    same_parts code number none = let same : 0 ≡ code = grind (arith, nat_tests) in ap (λ (one : ℕ). (one, number)) same

-- the code spells own handles as the plain relation does
pub own_spelled : (own : ℕ) (letters : List Bool) → own_handle.Spells own letters ↔ OwnSpells own letters
unfolding own_handle
own_spelled own letters = (spelled, spells)
  where
    spelled : own_handle.Spells own letters → OwnSpells own letters
    spelled ((code, number), same, (prefix, after, (none, first), (passed, second), whole)) =
        let is = counted_spelled number after second in
        let tag : code ≡ 0 = grind (arith, nat_tests) in
        record {
          count = is.count;
          few = is.few;
          fits = subst (λ (one : ℕ). one < 2 ^ (8 * is.count)) (sym same) is.fits;
          spelled = whole ∙ ap₂ (λ some more. some ++ more) ((fixed_spelled 4 code prefix first).1 ∙ ap (low_bits 4) tag)
              (is.spelled ∙ ap (λ (one : ℕ). low_bits 4 is.count ++ low_bits (8 * is.count) one) (sym same));
          positive = grind (arith, nat_tests);
          within = grind (arith, nat_tests);
        }

    spells : OwnSpells own letters → own_handle.Spells own letters
    spells is = (
      (0, own),
      refl,
      (
        low_bits 4 0,
        low_bits 4 is.count ++ low_bits (8 * is.count) own,
        (refl, fixed_spells 4 0 (omega arith)),
        (grind (arith, nat_tests), counted_spells own (low_bits 4 is.count ++ low_bits (8 * is.count) own) (record { count = is.count; few = is.few; fits = is.fits; spelled = refl })),
        is.spelled,
      ),
    )

-- what is written of an own handle
pub own_short : (own : ℕ) → own_handle.short own ≡ low_bits 4 0 ++ counted_number.short own
unfolding own_handle
own_short own = refl
