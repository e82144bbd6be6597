-- References are a code, and spell what the plain relation says.
use Rattle.std.proofs.Common.{◌≡◌, refl, sym, ◌∙◌, ap, ap₂, subst, inl, inr, ℕ, ◌+◌, ◌-◌, ◌*◌, ◌^◌, ◌<◌, ◌≤◌, Bool, true, false, List, ◌++◌, length, arith}
use Rattle.std.specs.Prelude.{◌↔◌, ◌==◌, ◌&&◌, nat_lt, nat_le}
use Rattle.std.proofs.lemmas.List.{length-append, append-nil}
use Rattle.std.proofs.lemmas.Bool.Decides.{nat_tests}
use Rattle.dwg_bits.specs.Bits.{low_bits}
use Rattle.dwg_bits.proofs.BitLaws.{length_of_low_bits}
use Rattle.dwg_grammar.specs.Grammar.{Grammar, IsCode, AnyLetters}
use Rattle.dwg_grammar.specs.Combinators.{fixed, never, choose, restrict}
use Rattle.dwg_grammar.proofs.CombinatorLemmas.{fixed_is_code, never_is_code, restrict_is_code, struct_is_code}
use Rattle.dwg_grammar.specs.ToEnd.{HaveLeast}
use Rattle.dwg_grammar.proofs.TableLemmas.{bit_tagged_is_code}
use Rattle.dwg_grammar.specs.Reference.{Reference, GivesTarget, RefSpells, is_reference_code, reaches}
use Rattle.dwg_grammar.specs.ReferenceCodes.{byte_count, counted_number, reference_of, parsed, no_bytes, absolute, next_handle, handle_before, ahead, back, by_reference_code, reference, number_after}
use Rattle.dwg_grammar.proofs.CountedLemmas.{fixed_spelled, fixed_spells, IsCounted, counted_spelled, counted_spells, none_spelled, none_spells, none_counted, counted_is_code}

-- what holds of the line of each code holds of what stands after any code
by_line : (base code : ℕ) (P : Grammar Bool Reference → Type 0) → (code < 6 → P (absolute base code)) → (code ≡ 6 → P (next_handle base)) → (code ≡ 8 → P (handle_before base))
    → (code ≡ 10 → P (ahead base)) → (code ≡ 12 → P (back base)) → (is_reference_code code ≡ false → P never) → P (by_reference_code base code)
by_line base code P low six eight ten twelve none = of_tests (nat_lt code 6) (code == 6) (code == 8) (code == 10) (code == 12) refl refl refl refl refl
  where
    of_tests : (is_low is_six is_eight is_ten is_twelve : Bool) → nat_lt code 6 ≡ is_low → (code == 6) ≡ is_six → (code == 8) ≡ is_eight → (code == 10) ≡ is_ten → (code == 12) ≡ is_twelve
        → P (choose is_low (absolute base code) (choose is_six (next_handle base) (choose is_eight (handle_before base) (choose is_ten (ahead base) (choose is_twelve (back base) never)))))
    of_tests true b c d e p q r s t = low (grind (arith, nat_tests))
    of_tests false true c d e p q r s t = six (grind (arith, nat_tests))
    of_tests false false true d e p q r s t = eight (grind (arith, nat_tests))
    of_tests false false false true e p q r s t = ten (grind (arith, nat_tests))
    of_tests false false false false true p q r s t = twelve (grind (arith, nat_tests))
    of_tests false false false false false p q r s t = none (grind (arith, nat_tests))

-- a target that is given by a number is a code, where number and target follow from each other
parsed_is_code : (base code : ℕ) (test : ℕ → Bool) (target_of number_of : ℕ → ℕ) (numbers : Grammar Bool ℕ) → IsCode AnyLetters numbers
    → ((number : ℕ) → numbers.IsValue number → test number ≡ true → target_of number < 2 ^ 63
    → (reaches base (reference_of code (target_of number)) ≡ true) × (number_of (target_of number) ≡ number))
    → ((target : ℕ) → reaches base (reference_of code target) ≡ true → numbers.IsValue (number_of target) × (test (number_of target) ≡ true) × (target_of (number_of target) ≡ target))
    → IsCode AnyLetters (parsed base code test target_of number_of numbers)
parsed_is_code base code test target_of number_of numbers is parsed_by written_by =
    struct_is_code AnyLetters (λ (value : Reference). (value.code ≡ code) × (reaches base value ≡ true))
    (λ number. reference_of code (target_of number)) (λ (value : Reference). number_of value.target)
    (restrict (λ number. test number && nat_lt (target_of number) (2 ^ 63)) numbers)
    (restrict_is_code AnyLetters (λ number. test number && nat_lt (target_of number) (2 ^ 63)) numbers is)
    (λ number fits. (refl, (parsed_by number fits.1 (grind (arith, nat_tests)) (grind (arith, nat_tests))).0))
    (λ value seen. of_value value seen.0 (written_by value.target (subst (λ (one : ℕ). reaches base (reference_of one value.target) ≡ true) seen.0 seen.1)) (grind (arith, nat_tests)))
    (λ number fits. (parsed_by number fits.1 (grind (arith, nat_tests)) (grind (arith, nat_tests))).1)
  where
    of_value : (value : Reference) → value.code ≡ code
        → numbers.IsValue (number_of value.target) × (test (number_of value.target) ≡ true) × (target_of (number_of value.target) ≡ value.target) → value.target < 2 ^ 63
        → (((test (number_of value.target) && nat_lt (target_of (number_of value.target)) (2 ^ 63)) ≡ true) × numbers.IsValue (number_of value.target))
        × (reference_of code (target_of (number_of value.target)) ≡ value)
    of_value value same parts small = ((grind (arith, nat_tests), parts.0), ap₂ reference_of (sym same) parts.2)

-- no bytes are a code
no_bytes_is_code : IsCode AnyLetters no_bytes
no_bytes_is_code = restrict_is_code AnyLetters (λ count. count == 0) (fixed 4) (fixed_is_code 4)

-- a target that is given by itself is a code
absolute_is_code : (base code : ℕ) → code < 6 → IsCode AnyLetters (absolute base code)
absolute_is_code base code low =
    parsed_is_code base code (λ number. true) (λ number. number) (λ target. target) counted_number counted_is_code
    (λ number fits passed small. (grind (arith, nat_tests), refl))
    (λ target reached. (grind (arith, nat_tests), refl, refl))

-- so is the next handle
next_is_code : (base : ℕ) → IsCode AnyLetters (next_handle base)
next_is_code base =
    parsed_is_code base 6 (λ number. true) (λ number. base + 1) (λ target. 0) no_bytes no_bytes_is_code
    (λ number fits passed small. (grind (arith, nat_tests), grind (arith, nat_tests)))
    (λ target reached. ((refl, omega arith), refl, grind (arith, nat_tests)))

-- so is the one before
before_is_code : (base : ℕ) → IsCode AnyLetters (handle_before base)
before_is_code base =
    parsed_is_code base 8 (λ number. nat_le 1 base) (λ number. base - 1) (λ target. 0) no_bytes no_bytes_is_code
    (λ number fits passed small. (grind (arith, nat_tests), grind (arith, nat_tests)))
    (λ target reached. ((refl, omega arith), grind (arith, nat_tests), grind (arith, nat_tests)))

-- so is a target ahead
ahead_is_code : (base : ℕ) → IsCode AnyLetters (ahead base)
ahead_is_code base =
    parsed_is_code base 10 (λ number. true) (λ number. base + number) (λ target. target - base) counted_number counted_is_code
    (λ number fits passed small. (grind (arith, nat_tests), omega arith))
    (λ target reached. (grind (arith, nat_tests), refl, grind (arith, nat_tests)))

-- and a target further back: of a handle, eight bytes give any
back_is_code : (base : ℕ) → base < 2 ^ 63 → IsCode AnyLetters (back base)
back_is_code base small_base =
    parsed_is_code base 12 (λ number. nat_le number base) (λ number. base - number) (λ target. base - target) counted_number counted_is_code
    (λ number fits passed small. (grind (arith, nat_tests), grind (arith, nat_tests)))
    (λ target reached. (omega arith, grind (arith, nat_tests), grind (arith, nat_tests)))

-- what stands after any code is a code
by_is_code : (base code : ℕ) → base < 2 ^ 63 → IsCode AnyLetters (by_reference_code base code)
by_is_code base code small =
    by_line base code (λ line. IsCode AnyLetters line) (absolute_is_code base code) (λ same. next_is_code base) (λ same. before_is_code base)
    (λ same. ahead_is_code base) (λ same. back_is_code base small) (λ none. never_is_code AnyLetters)

-- its values have the code, and it reaches them
by_value : (base code : ℕ) (value : Reference) → (by_reference_code base code).IsValue value → (value.code ≡ code) × (reaches base value ≡ true)
by_value base code value =
    by_line base code (λ line. line.IsValue value → (value.code ≡ code) × (reaches base value ≡ true)) (λ low fits. fits)
    (λ same fits. (fits.0 ∙ sym same, fits.1)) (λ same fits. (fits.0 ∙ sym same, fits.1)) (λ same fits. (fits.0 ∙ sym same, fits.1)) (λ same fits. (fits.0 ∙ sym same, fits.1))
    (λ none fits. absurd fits)

-- what a code reaches stands after it
by_has : (base : ℕ) (value : Reference) → reaches base value ≡ true → (value.code < 2 ^ 4) × (by_reference_code base value.code).IsValue value
by_has base value reached = (
  grind (arith, nat_tests),
  by_line base value.code (λ line. line.IsValue value) (λ low. (refl, reached)) (λ same. (same, reached)) (λ same. (same, reached)) (λ same. (same, reached)) (λ same. (same, reached))
      (λ none. grind (arith, nat_tests)),
)

-- a reference is a code: seen from any handle
pub reference_is_code : (base : ℕ) → base < 2 ^ 63 → IsCode AnyLetters (reference base)
unfolding reference
reference_is_code base small =
    bit_tagged_is_code 4 (by_reference_code base) (λ value. reaches base value ≡ true) (λ (value : Reference). value.code)
    (λ code in_range. by_is_code base code small)
    (λ code value in_range fits. (by_value base code value fits).1)
    (by_has base)
    (λ code value in_range fits.
    subst (λ (one : ℕ). length ((by_reference_code base one).short value) ≤ length ((by_reference_code base code).short value)) (sym (by_value base code value fits).0) (omega arith))

-- what stands after a code: a count of bytes and so many bytes, which with the code give the target
record IsAfter (base code : ℕ) (value : Reference) (letters : List Bool) : Type 0 where
  code_is : value.code ≡ code
  count : ℕ
  number : ℕ
  few : count ≤ 8
  fits : number < 2 ^ (8 * count)
  spelled : letters ≡ low_bits 4 count ++ low_bits (8 * count) number
  gives : GivesTarget base code count number value.target

-- a target given by bytes
parsed_after : (base code : ℕ) (value : Reference) (letters : List Bool) (number target : ℕ) → value ≡ reference_of code target → IsCounted number letters
    → ((count : ℕ) → GivesTarget base code count number target) → IsAfter base code value letters
parsed_after base code value letters number target same is parsed = record {
  code_is = ap (λ (one : Reference). one.code) same;
  count = is.count;
  number = number;
  few = is.few;
  fits = is.fits;
  spelled = is.spelled;
  gives = subst (λ (one : ℕ). GivesTarget base code is.count number one) (sym (ap (λ (one : Reference). one.target) same)) (parsed is.count);
}

-- a target given by no bytes
none_after : (base code : ℕ) (value : Reference) (letters : List Bool) (number target : ℕ) → value ≡ reference_of code target → no_bytes.Spells number letters
    → GivesTarget base code 0 0 target → IsAfter base code value letters
none_after base code value letters number target same spelled parsed = record {
  code_is = ap (λ (one : Reference). one.code) same;
  count = 0;
  number = 0;
  few = omega arith;
  fits = omega arith;
  spelled = none_spelled number letters spelled;
  gives = subst (λ (one : ℕ). GivesTarget base code 0 0 one) (sym (ap (λ (one : Reference). one.target) same)) parsed;
}

-- what stands after a code spells it so
line_spelled : (base code : ℕ) (value : Reference) (letters : List Bool) → (by_reference_code base code).Spells value letters → IsAfter base code value letters
line_spelled base code value letters =
    by_line base code (λ line. line.Spells value letters → IsAfter base code value letters)
    (λ low (number, same, (passed, spelled)). parsed_after base code value letters number number same (counted_spelled number letters spelled)
    (λ count. (grind (arith, nat_tests), inl (low, refl))))
    (λ six (number, same, (passed, spelled)). none_after base code value letters number (base + 1) (same ∙ ap (λ (one : ℕ). reference_of one (base + 1)) (sym six)) spelled
    (grind (arith, nat_tests), inr (inl (six, refl, refl))))
    (λ eight (number, same, (passed, spelled)). none_after base code value letters number (base - 1) (same ∙ ap (λ (one : ℕ). reference_of one (base - 1)) (sym eight)) spelled
    (grind (arith, nat_tests), inr (inr (inl (eight, refl, grind (arith, nat_tests))))))
    (λ ten (number, same, (passed, spelled)). parsed_after base code value letters number (base + number) (same ∙ ap (λ (one : ℕ). reference_of one (base + number)) (sym ten))
    (counted_spelled number letters spelled) (λ count. (grind (arith, nat_tests), inr (inr (inr (inl (ten, refl)))))))
    (λ twelve (number, same, (passed, spelled)). parsed_after base code value letters number (base - number) (same ∙ ap (λ (one : ℕ). reference_of one (base - number)) (sym twelve))
    (counted_spelled number letters spelled) (λ count. (grind (arith, nat_tests), inr (inr (inr (inr (twelve, grind (arith, nat_tests))))))))
    (λ none spelled. absurd spelled)

-- what stands after a code so spells it
line_spells : (base code : ℕ) (value : Reference) (letters : List Bool) → IsAfter base code value letters → (by_reference_code base code).Spells value letters
line_spells base code value letters is =
    by_line base code (λ line. line.Spells value letters)
    (λ low. (is.number, ap₂ reference_of is.code_is (grind arith), (grind (arith, nat_tests), counted_spells is.number letters counted)))
    (λ six. (0, ap₂ reference_of (is.code_is ∙ six) (grind arith), (grind (arith, nat_tests), none_spells letters (none_counted is.count is.number letters (grind arith) is.spelled))))
    (λ eight. (0, ap₂ reference_of (is.code_is ∙ eight) (grind arith), (grind (arith, nat_tests), none_spells letters (none_counted is.count is.number letters (grind arith) is.spelled))))
    (λ ten. (is.number, ap₂ reference_of (is.code_is ∙ ten) (grind arith), (grind (arith, nat_tests), counted_spells is.number letters counted)))
    (λ twelve. (is.number, ap₂ reference_of (is.code_is ∙ twelve) (grind arith), (grind (arith, nat_tests), counted_spells is.number letters counted)))
    (λ none. grind (arith, nat_tests))
  where
    counted : IsCounted is.number letters
    counted = record { count = is.count; few = is.few; fits = is.fits; spelled = is.spelled }

-- the code spells references as the plain relation does
pub reference_spelled : (base : ℕ) (value : Reference) (letters : List Bool) → (reference base).Spells value letters ↔ RefSpells base value letters
unfolding reference
reference_spelled base value letters = (spelled, spells)
  where
    spelled : (reference base).Spells value letters → RefSpells base value letters
    spelled (code, prefix, after, first, second, same) =
        let line = line_spelled base code value after second in
        record {
          count = line.count;
          number = line.number;
          few = line.few;
          fits = line.fits;
          spelled = same ∙ ap₂ (λ some more. some ++ more) ((fixed_spelled 4 code prefix first).1 ∙ ap (low_bits 4) (sym line.code_is)) line.spelled;
          gives = subst (λ (one : ℕ). GivesTarget base one line.count line.number value.target) (sym line.code_is) line.gives;
        }

    spells : RefSpells base value letters → (reference base).Spells value letters
    spells is = (
      value.code,
      low_bits 4 value.code,
      low_bits 4 is.count ++ low_bits (8 * is.count) is.number,
      fixed_spells 4 value.code (grind arith),
      line_spells base value.code value (low_bits 4 is.count ++ low_bits (8 * is.count) is.number)
          (record { code_is = refl; count = is.count; number = is.number; few = is.few; fits = is.fits; spelled = refl; gives = is.gives }),
      is.spelled,
    )

-- a code reaches a target exactly where some bits spell the reference
pub reached_where_spelled : (base : ℕ) (value : Reference) → base < 2 ^ 63 → (reaches base value ≡ true) ↔ ((letters : List Bool) × RefSpells base value letters)
unfolding reference
reached_where_spelled base value small =
    let is = reference_is_code base small in
    let letters : List Bool = (reference base).short value in
    ((λ reached. (letters, (reference_spelled base value letters).0 (is.canonical value reached))), (λ (letters, spelled). is.value letters value ((reference_spelled base value letters).1 spelled)))

-- a code, a count and so many bytes have so many bits
pub spelling_length : (code count number : ℕ) (letters : List Bool) → letters ≡ low_bits 4 code ++ (low_bits 4 count ++ low_bits (8 * count) number) → length letters ≡ 8 + 8 * count
spelling_length code count number letters same =
    omega (
      arith,
      ap length same,
      length-append (low_bits 4 code) (low_bits 4 count ++ low_bits (8 * count) number),
      length-append (low_bits 4 count) (low_bits (8 * count) number),
      length_of_low_bits 4 code,
      length_of_low_bits 4 count,
      length_of_low_bits (8 * count) number,
    )

-- a spelling of a reference has eight bits at the least: its code and its count
pub reference_least : (base : ℕ) → HaveLeast 8 (reference base)
reference_least base value letters spelled =
    let is = (reference_spelled base value letters).0 spelled in
    omega (arith, spelling_length value.code is.count is.number letters is.spelled)

-- and what is written of it 72 at the most
pub reference_most : (base : ℕ) (value : Reference) → base < 2 ^ 63 → reaches base value ≡ true → length ((reference base).short value) ≤ 72
unfolding reference
reference_most base value small reached =
    let letters : List Bool = (reference base).short value in
    let is = (reference_spelled base value letters).0 ((reference_is_code base small).canonical value reached) in
    omega (arith, spelling_length value.code is.count is.number letters is.spelled, is.few)

-- no bytes are written as the number 0 is
none_short : low_bits 4 0 ≡ counted_number.short 0
unfolding low_bits byte_count
none_short = sym (append-nil (low_bits 4 0))

-- equal numbers are written alike
same_short : (number other : ℕ) → number ≡ other → counted_number.short number ≡ counted_number.short other
same_short number other same = ap counted_number.short same

-- what is written after each code
line_short : (base : ℕ) (value : Reference) → reaches base value ≡ true → (by_reference_code base value.code).short value ≡ counted_number.short (number_after base value)
line_short base value reached =
    by_line base value.code (λ line. line.short value ≡ counted_number.short (number_after base value))
    (λ low. same_short value.target (number_after base value) (grind (arith, nat_tests)))
    (λ six. none_short ∙ same_short 0 (number_after base value) (grind (arith, nat_tests)))
    (λ eight. none_short ∙ same_short 0 (number_after base value) (grind (arith, nat_tests)))
    (λ ten. same_short (value.target - base) (number_after base value) (grind (arith, nat_tests)))
    (λ twelve. same_short (base - value.target) (number_after base value) (grind (arith, nat_tests)))
    (λ none. absurd (grind (arith, nat_tests)))

-- what is written after the code of a reference
pub reference_short : (base : ℕ) (value : Reference) → reaches base value ≡ true → (reference base).short value ≡ low_bits 4 value.code ++ counted_number.short (number_after base value)
unfolding reference
reference_short base value reached = ap (λ more. low_bits 4 value.code ++ more) (line_short base value reached)
