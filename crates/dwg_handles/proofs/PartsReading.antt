-- Reading a code, a count of bytes and so many bytes.
use Rattle.std.proofs.Common.{◌≡◌, refl, sym, ◌∙◌, ap, ap₂, subst, ℕ, ◌-◌, ◌*◌, ◌^◌, ◌<◌, ◌≤◌, true, false, List, Bool, ◌++◌, length, Option, Some, None, arith}
use Rattle.std.proofs.lemmas.List.{append_assoc, append_cancel_left, length-append}
use Rattle.std.proofs.lemmas.Bool.Decides.{nat_tests}
use Rattle.dwg_bits.specs.Bits.{low_bits}
use Rattle.dwg_bits.proofs.BitLaws.{length_of_low_bits, length_of_bits_between}
use Rattle.dwg_bits.specs.Cursor.{bits_between}
use Rattle.dwg_grammar.specs.Grammar.{Grammar, IsCode, AnyLetters, BeginsWith, Reads}
use Rattle.dwg_grammar.specs.Combinators.{fixed, seq}
use Rattle.dwg_grammar.proofs.CodeLemmas.{unique_of_code}
use Rattle.dwg_grammar.proofs.CombinatorLemmas.{any_letters_closed, fixed_is_code, seq_is_code, struct_is_code}
use Rattle.dwg_grammar.proofs.CountedLemmas.{fixed_spelled, fixed_spells, byte_counts_is_code}
use Rattle.dwg_grammar.specs.ReferenceCodes.{byte_counts}
use Rattle.dwg_handles.specs.declared.reference_parts.ReferenceParts.{ReferenceParts}
use Rattle.dwg_handles.specs.PartsCode.{AreParts, parts}

-- the bits of parts
abbrev pub parts_bits : ReferenceParts → List Bool
parts_bits found = low_bits 4 found.code ++ (low_bits 4 found.count ++ low_bits (8 * found.count) found.number)

-- parts are spelled by their bits
pub parts_spelled : (found : ReferenceParts) (letters : List Bool) → parts.Spells found letters → AreParts found × (letters ≡ parts_bits found)
unfolding parts
parts_spelled found letters ((code, (count, number)), same, (prefix, after, first, (middle, last, (few, second), third, rest), whole)) =
    let one = fixed_spelled 4 code prefix first in
    let two = fixed_spelled 4 count middle second in
    let three = fixed_spelled (8 * count) number last third in
    let read : ReferenceParts = record { code = code; count = count; number = number } in
    let are : AreParts read = record { code = one.0; few = grind (arith, nat_tests); fits = three.0 } in
    let spelled : letters ≡ parts_bits read = whole ∙ ap₂ (λ some more. some ++ more) one.1 (rest ∙ ap₂ (λ some more. some ++ more) two.1 three.1) in
    subst (λ (one : ReferenceParts). AreParts one × (letters ≡ parts_bits one)) (sym same) (are, spelled)

-- and their bits spell them
pub parts_spells : (found : ReferenceParts) → AreParts found → parts.Spells found (parts_bits found)
unfolding parts
parts_spells found are = (
  (found.code, (found.count, found.number)),
  refl,
  (
    low_bits 4 found.code,
    low_bits 4 found.count ++ low_bits (8 * found.count) found.number,
    fixed_spells 4 found.code are.code,
    (
      low_bits 4 found.count,
      low_bits (8 * found.count) found.number,
      (grind (arith, nat_tests), fixed_spells 4 found.count (omega (arith, are.few))),
      fixed_spells (8 * found.count) found.number are.fits,
      refl,
    ),
    refl,
  ),
)

-- bits before give their number and the bits after
pub prefix_resolved : (count one other : ℕ) (rest other_rest : List Bool) → one < 2 ^ count → other < 2 ^ count → low_bits count one ++ rest ≡ low_bits count other ++ other_rest
    → (one ≡ other) × (rest ≡ other_rest)
prefix_resolved count one other rest other_rest fits other_fits same =
    let resolved : (one ≡ other) × (low_bits count one ≡ low_bits count other) =
    unique_of_code AnyLetters (fixed count) (fixed_is_code count) one other (low_bits count one) (low_bits count other) rest other_rest
    (fixed_spells count one fits) (fixed_spells count other other_fits) same in
    (resolved.0, append_cancel_left (low_bits count one) rest other_rest (same ∙ ap (λ (prefix : List Bool). prefix ++ other_rest) (sym resolved.1)))

-- parts before bits
record Begun (letters : List Bool) : Type 0 where
  found : ReferenceParts
  after : List Bool
  are : AreParts found
  whole : letters ≡ low_bits 4 found.code ++ (low_bits 4 found.count ++ (low_bits (8 * found.count) found.number ++ after))

-- what begins with parts does so by their bits
begun : (letters : List Bool) → BeginsWith parts letters → Begun letters
begun letters (found, prefix, after, spelled, whole) =
    let is = parts_spelled found prefix spelled in
    record {
      found = found;
      after = after;
      are = is.0;
      whole = whole ∙ ap (λ (one : List Bool). one ++ after) is.1 ∙ append_assoc (low_bits 4 found.code) (low_bits 4 found.count ++ low_bits (8 * found.count) found.number) after
          ∙ ap (λ (one : List Bool). low_bits 4 found.code ++ one) (append_assoc (low_bits 4 found.count) (low_bits (8 * found.count) found.number) after);
    }

-- where no parts are, none are read
none_read : (result : Option ReferenceParts) (old : List Bool) → result ≡ None → (BeginsWith parts old → ⊥) → Reads parts result old old
none_read result old none begins = subst (λ (one : Option ReferenceParts). Reads parts one old old) (sym none) (begins, refl)

-- fewer bits than a code and a count have begin with none
pub parts_short : (result : Option ReferenceParts) (old : List Bool) → result ≡ None → length old < 8 → Reads parts result old old
parts_short result old none short = none_read result old none (λ begins. too_short (begun old begins))
  where
    too_short : Begun old → ⊥
    too_short is =
        let count : List Bool = low_bits (8 * is.found.count) is.found.number ++ is.after in
        omega (
          arith,
          ap length is.whole,
          length-append (low_bits 4 is.found.code) (low_bits 4 is.found.count ++ count),
          length-append (low_bits 4 is.found.count) count,
          length_of_low_bits 4 is.found.code,
          length_of_low_bits 4 is.found.count,
        )

-- fewer bits than a count has after a code begin with none
pub count_short : (result : Option ReferenceParts) (old mid : List Bool) (code : ℕ) → result ≡ None → old ≡ low_bits 4 code ++ mid → length mid < 4 → Reads parts result old old
count_short result old mid code none first short =
    parts_short result old none (omega (arith, ap length first, length-append (low_bits 4 code) mid, length_of_low_bits 4 code))

-- a count after a code is that of the parts before, and their bytes follow
count_resolved : (old mid new : List Bool) (code count : ℕ) → old ≡ low_bits 4 code ++ mid → mid ≡ low_bits 4 count ++ new → code < 2 ^ 4 → count < 2 ^ 4 → (is : Begun old)
    → (count ≡ is.found.count) × (new ≡ low_bits (8 * is.found.count) is.found.number ++ is.after)
count_resolved old mid new code count first second code_fits count_fits is =
    let bytes : List Bool = low_bits (8 * is.found.count) is.found.number ++ is.after in
    let one = prefix_resolved 4 code is.found.code mid (low_bits 4 is.found.count ++ bytes) code_fits is.are.code (sym first ∙ is.whole) in
    prefix_resolved 4 count is.found.count new bytes count_fits (omega (arith, is.are.few)) (sym second ∙ one.1)

-- a count above eight is none of parts
pub parts_long : (result : Option ReferenceParts) (old mid new : List Bool) (code count : ℕ) → result ≡ None → old ≡ low_bits 4 code ++ mid → mid ≡ low_bits 4 count ++ new
    → code < 2 ^ 4 → count < 2 ^ 4 → 8 < count → Reads parts result old old
parts_long result old mid new code count none first second code_fits count_fits long =
    none_read result old none
    (λ begins. let is = begun old begins in omega (arith, (count_resolved old mid new code count first second code_fits count_fits is).0, is.are.few))

-- where the bytes aren't there, no parts are
pub parts_cut : (result : Option ReferenceParts) (old mid new : List Bool) (code count : ℕ) → result ≡ None → old ≡ low_bits 4 code ++ mid → mid ≡ low_bits 4 count ++ new
    → code < 2 ^ 4 → count < 2 ^ 4 → length new < 8 * count → Reads parts result old old
parts_cut result old mid new code count none first second code_fits count_fits short =
    none_read result old none (λ begins. let is = begun old begins in cut is (count_resolved old mid new code count first second code_fits count_fits is))
  where
    cut : (is : Begun old) → (count ≡ is.found.count) × (new ≡ low_bits (8 * is.found.count) is.found.number ++ is.after) → ⊥
    cut is resolved =
        omega (arith, resolved.0, ap length resolved.1, length-append (low_bits (8 * is.found.count) is.found.number) is.after, length_of_low_bits (8 * is.found.count) is.found.number)

-- a code, a count and so many bytes are parts
pub parts_read : (old mid more new : List Bool) (code count number : ℕ) → old ≡ low_bits 4 code ++ mid → mid ≡ low_bits 4 count ++ more → more ≡ low_bits (8 * count) number ++ new
    → code < 2 ^ 4 → count ≤ 8 → number < 2 ^ (8 * count) → Reads parts (Some (record { code = code; count = count; number = number })) old new
parts_read old mid more new code count number first second third code_fits few fits = (
  parts_bits (record { code = code; count = count; number = number }),
  parts_spells (record { code = code; count = count; number = number }) (record { code = code_fits; few = few; fits = fits }),
  first ∙ ap (λ (one : List Bool). low_bits 4 code ++ one) (second ∙ ap (λ (one : List Bool). low_bits 4 count ++ one) third
      ∙ sym (append_assoc (low_bits 4 count) (low_bits (8 * count) number) new))
      ∙ sym (append_assoc (low_bits 4 code) (low_bits 4 count ++ low_bits (8 * count) number) new),
)

-- bits that aren't there are more than are left
pub not_there : (bytes : List ℕ) (place count end : ℕ) → end ≤ 8 * length bytes → (count ≤ end - place → false ≡ true) → length (bits_between bytes place end) < count
not_there bytes place count end within absent =
    let few : end - place < count = grind arith in
    omega (arith, length_of_bits_between bytes place end within)

-- a count and so many bytes
abbrev counted_parts : Grammar Bool (ℕ × ℕ)
counted_parts = seq byte_counts (λ count. fixed (8 * count))

-- parts are a code
parts_is_code : IsCode AnyLetters parts
unfolding parts
parts_is_code =
    struct_is_code AnyLetters AreParts (λ (found : ℕ × (ℕ × ℕ)). record { code = found.0; count = found.1.0; number = found.1.1 }) (λ (found : ReferenceParts). (found.code, (found.count, found.number)))
    (seq (fixed 4) (λ code. counted_parts))
    (seq_is_code AnyLetters (fixed 4) (λ code. counted_parts) any_letters_closed (fixed_is_code 4)
    (λ code fits. seq_is_code AnyLetters byte_counts (λ count. fixed (8 * count)) any_letters_closed byte_counts_is_code (λ count few. fixed_is_code (8 * count))))
    (λ found fits. record { code = fits.0; few = grind (arith, nat_tests); fits = fits.1.1 })
    (λ found are. ((are.code, ((grind (arith, nat_tests), omega (arith, are.few)), are.fits)), refl))
    (λ found fits. refl)

-- bits begin with one parts at the most
pub parts_resolved : (found other : ReferenceParts) (old mid rest : List Bool) → Reads parts (Some found) old mid → AreParts other → old ≡ parts_bits other ++ rest → found ≡ other
parts_resolved found other old mid rest read are whole =
    (unique_of_code AnyLetters parts parts_is_code found other read.0 (parts_bits other) mid rest read.1 (parts_spells other are) (sym read.2 ∙ whole)).0
