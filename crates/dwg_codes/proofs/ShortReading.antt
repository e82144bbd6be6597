-- Units of two bytes, read and written, and the groups of a modular short.
use Rattle.std.proofs.Common.{◌≡◌, refl, sym, ◌∙◌, ap, subst, ℕ, zero, suc, ◌+◌, ◌-◌, ◌*◌, ◌/◌, ◌%◌, ◌^◌, ◌<◌, ◌≤◌, true, false, List, [], ◌∷◌, ◌++◌, length, drop, get_or, Option, Some, None, arith}
use Rattle.std.specs.Prelude.{nat_lt, if◌then◌else◌}
use Rattle.std.specs.Int.{w16, from_le_bytes}
use Rattle.std.specs.Option.{option_map, option_and_then}
use Rattle.std.proofs.Math.Nat.{pow-le-pow_right}
use Rattle.std.proofs.lemmas.List.{append-nil, length-append, drop-drop}
use Rattle.std.proofs.lemmas.Bool.Decides.{nat_tests}
use Rattle.dwg_bits.specs.Bits.{low_bits, bits}
use Rattle.dwg_bits.proofs.BitLaws.{bits_joined, length_of_bits}
use Rattle.dwg_bits.specs.Sink.{Written, Extends}
use Rattle.dwg_bits.proofs.SinkLemmas.{extends_by_both}
use Rattle.dwg_grammar.specs.Grammar.{ReadsPrefix}
use Rattle.dwg_grammar.specs.Combinators.{always, choose, chain}
use Rattle.dwg_grammar.specs.ModularCodes.{after_group, unit, ms_within, ms}
use Rattle.dwg_grammar.proofs.ModularLemmas.{ms_is_code, length_of_unit}
use Rattle.dwg_codes.proofs.GroupReading.{after_parse}
use Rattle.dwg_codes.proofs.GroupWriting.{byte_written, one_byte_written}
use Rattle.dwg_codes.proofs.PrefixReading.{prefix_read, prefix_unread}

-- two bytes are a unit
pub unit_found : (low high : ℕ) (rest : List ℕ) → unit.parse (low ∷ high ∷ rest) ≡ Some (low + 256 * high, rest)
unfolding chain
unit_found low high rest = ap (λ n. Some (n, rest)) number
  where
    number : from_le_bytes w16 (low ∷ high ∷ []) ≡ low + 256 * high
    number = omega arith

-- one is none
pub unit_of_one : (low : ℕ) (rest : List ℕ) → length rest ≡ 0 → unit.parse (low ∷ rest) ≡ None
unfolding chain
unit_of_one low [] none = refl
unit_of_one low (high ∷ rest) none = absurd (omega (arith, none))

-- nor are no bytes
pub unit_of_none : (bytes : List ℕ) → length bytes ≡ 0 → unit.parse bytes ≡ None
unfolding chain
unit_of_none [] none = refl
unit_of_none (low ∷ rest) none = absurd (omega (arith, none))

-- nothing is parsed in no groups
pub ms_in_none : (more : ℕ) (bytes : List ℕ) → more ≡ 0 → (ms_within more).parse bytes ≡ None
unfolding ms_within
ms_in_none zero bytes none = refl
ms_in_none (suc more) bytes none = absurd (omega (arith, none))

-- nothing is parsed where there is no unit
pub ms_of_none : (more : ℕ) (bytes : List ℕ) → unit.parse bytes ≡ None → (ms_within more).parse bytes ≡ None
unfolding ms_within
ms_of_none zero bytes none = refl
ms_of_none (suc more) bytes none =
    ap (option_and_then (λ (one : ℕ × List ℕ). (choose (nat_lt one.0 32768) (always {A = ℕ} one.0) (after_group 32768 (one.0 - 32768) (ms_within more))).parse one.1)) none

-- a unit with its flag down is the last
pub ms_last : (more group : ℕ) (bytes rest : List ℕ) → 0 < more → unit.parse bytes ≡ Some (group, rest) → group < 32768 → (ms_within more).parse bytes ≡ Some (group, rest)
unfolding ms_within
ms_last zero group bytes rest some first small = absurd (omega arith)
ms_last (suc more) group bytes rest some first small =
    let down : nat_lt group 32768 ≡ true = grind (arith, nat_tests) in
    ap (option_and_then (λ (one : ℕ × List ℕ). (choose (nat_lt one.0 32768) (always {A = ℕ} one.0) (after_group 32768 (one.0 - 32768) (ms_within more))).parse one.1)) first
    ∙ ap (λ test. (choose test (always {A = ℕ} group) (after_group 32768 (group - 32768) (ms_within more))).parse rest) down

-- after a unit with its flag up stands the number above it
ms_after : (more group : ℕ) (bytes rest : List ℕ) (found : Option (ℕ × List ℕ)) → 0 < more → unit.parse bytes ≡ Some (group, rest) → 32768 ≤ group
    → (ms_within (more - 1)).parse rest ≡ found → (ms_within more).parse bytes ≡ option_map (λ (one : ℕ × List ℕ). (group - 32768 + 32768 * one.0, one.1)) found
unfolding ms_within
ms_after zero group bytes rest found some first big same = absurd (omega arith)
ms_after (suc more) group bytes rest found some first big same =
    let up : nat_lt group 32768 ≡ false = grind (arith, nat_tests) in
    let less : suc more - 1 ≡ more = omega arith in
    ap (option_and_then (λ (one : ℕ × List ℕ). (choose (nat_lt one.0 32768) (always {A = ℕ} one.0) (after_group 32768 (one.0 - 32768) (ms_within more))).parse one.1)) first
    ∙ ap (λ test. (choose test (always {A = ℕ} group) (after_group 32768 (group - 32768) (ms_within more))).parse rest) up
    ∙ after_parse 32768 (group - 32768) (ms_within more) rest found (subst (λ n. (ms_within n).parse rest ≡ found) less same)

-- nothing where no number stands there
pub ms_cut : (more group : ℕ) (bytes rest : List ℕ) → 0 < more → unit.parse bytes ≡ Some (group, rest) → 32768 ≤ group
    → (ms_within (more - 1)).parse rest ≡ None → (ms_within more).parse bytes ≡ None
ms_cut more group bytes rest some first big same = ms_after more group bytes rest None some first big same

-- and the group and that number where one does
pub ms_more : (more group high : ℕ) (bytes rest left : List ℕ) → 0 < more → unit.parse bytes ≡ Some (group, rest) → 32768 ≤ group
    → (ms_within (more - 1)).parse rest ≡ Some (high, left) → (ms_within more).parse bytes ≡ Some (group - 32768 + 32768 * high, left)
ms_more more group high bytes rest left some first big same = ms_after more group bytes rest (Some (high, left)) some first big same

-- after a unit stands what is after its two bytes
pub ms_found : (more group high used : ℕ) (bytes rest : List ℕ) → 0 < more → unit.parse bytes ≡ Some (group, rest) → rest ≡ drop 2 bytes → 32768 ≤ group
    → (ms_within (more - 1)).parse rest ≡ Some (high, drop used rest) → (ms_within more).parse bytes ≡ Some (group - 32768 + 32768 * high, drop (used + 2) bytes)
ms_found more group high used bytes rest some first after big same =
    let turned : 2 + used ≡ used + 2 = omega arith in
    ms_more more group high bytes rest (drop used rest) some first big same
    ∙ ap (λ left. Some (group - 32768 + 32768 * high, left)) (ap (drop used) after ∙ drop-drop used 2 bytes ∙ ap (λ n. drop n bytes) turned)

-- numbers of at most three groups of fifteen bits are small
pub three_groups : (more high : ℕ) → more ≤ 3 → high < 32768 ^ more → high < 2 ^ 45
three_groups more high few below = omega (arith, pow-le-pow_right {n = 32768} (omega arith) {i = more} {j = 3} few)

-- at most four groups are an MS
pub ms_read : (bytes : List ℕ) (value used : ℕ) → ((i : ℕ) → get_or bytes i 0 < 256) → used ≤ length bytes
    → (ms_within 4).parse bytes ≡ Some (value, drop used bytes) → ReadsPrefix ms (Some (value, used)) bytes
ms_read bytes value used small within found = prefix_read ms bytes value used ms_is_code small within found

-- and where there are none there is none
pub ms_missing : (bytes : List ℕ) → (ms_within 4).parse bytes ≡ None → ReadsPrefix ms None bytes
ms_missing bytes none = prefix_unread ms bytes ms_is_code none

-- a unit is written by its low byte and its high byte
pub unit_short : (group : ℕ) → group < 65536 → unit.short group ≡ group % 256 ∷ group / 256 ∷ []
unfolding chain
unit_short group small = ap (λ n. group % 256 ∷ n ∷ []) (omega arith)

-- so it is written by their bits
pub unit_written : (old mid new : Written) (group : ℕ) → group < 65536 → Extends old mid (low_bits 8 (group % 256)) → Extends mid new (low_bits 8 (group / 256))
    → Extends old new (bits (unit.short group))
unit_written old mid new group small first second =
    subst (λ bytes. Extends old new (bits bytes)) (sym (unit_short group small))
    (byte_written old mid new (group % 256) (group / 256 ∷ []) first (one_byte_written mid new (group / 256) second))

-- a number of one group is written by itself
pub ms_short_last : (more value : ℕ) → 0 < more → value < 32768 → (ms_within more).short value ≡ unit.short value
unfolding ms_within
ms_short_last zero value some small = absurd (omega arith)
ms_short_last (suc more) value some small =
    let one : nat_lt value 32768 ≡ true = grind (arith, nat_tests) in
    ap
    (λ test. unit.short (if test then value else 32768 + value % 32768)
    ++ (choose (nat_lt (if test then value else 32768 + value % 32768) 32768) (always {A = ℕ} (if test then value else 32768 + value % 32768))
    (after_group 32768 ((if test then value else 32768 + value % 32768) - 32768) (ms_within more))).short value) one
    ∙ ap (λ test. unit.short value ++ (choose test (always {A = ℕ} value) (after_group 32768 (value - 32768) (ms_within more))).short value) one
    ∙ append-nil (unit.short value)

-- a greater one by its low group and the number above it
pub ms_short_more : (more value : ℕ) → 0 < more → 32768 ≤ value
    → (ms_within more).short value ≡ unit.short (32768 + value % 32768) ++ (ms_within (more - 1)).short (value / 32768)
unfolding ms_within
ms_short_more zero value some big = absurd (omega arith)
ms_short_more (suc more) value some big =
    let less : suc more - 1 ≡ more = omega arith in
    let many : nat_lt value 32768 ≡ false = grind (arith, nat_tests) in
    let tag : ℕ = 32768 + value % 32768 in
    let up : nat_lt tag 32768 ≡ false = grind (arith, nat_tests) in
    ap
    (λ test. unit.short (if test then value else 32768 + value % 32768)
    ++ (choose (nat_lt (if test then value else 32768 + value % 32768) 32768) (always {A = ℕ} (if test then value else 32768 + value % 32768))
    (after_group 32768 ((if test then value else 32768 + value % 32768) - 32768) (ms_within more))).short value) many
    ∙ ap (λ test. unit.short tag ++ (choose test (always {A = ℕ} tag) (after_group 32768 (tag - 32768) (ms_within more))).short value) up
    ∙ ap (λ n. unit.short tag ++ (ms_within n).short (value / 32768)) (sym less)

-- a number of one group is written by two bytes
pub ms_length_last : (more value : ℕ) → 0 < more → value < 32768 → length ((ms_within more).short value) ≡ 2
ms_length_last more value some small = ap length (ms_short_last more value some small) ∙ length_of_unit value

-- a greater one by two more than the number above the group
pub ms_length_more : (more value : ℕ) → 0 < more → 32768 ≤ value → length ((ms_within more).short value) ≡ 2 + length ((ms_within (more - 1)).short (value / 32768))
ms_length_more more value some big =
    let tag : ℕ = 32768 + value % 32768 in
    omega (arith, ap length (ms_short_more more value some big), length_of_unit tag, length-append (unit.short tag) ((ms_within (more - 1)).short (value / 32768)))

-- the last group of a number is written
pub ms_last_written : (old new : Written) (more value : ℕ) → 0 < more → value < 32768 → Extends old new (bits (unit.short value)) → Extends old new (bits ((ms_within more).short value))
ms_last_written old new more value some small pushed = subst (λ bytes. Extends old new (bits bytes)) (sym (ms_short_last more value some small)) pushed

-- a group and the number above it are written
pub ms_more_written : (old mid new : Written) (more value : ℕ) → 0 < more → 32768 ≤ value → Extends old mid (bits (unit.short (32768 + value % 32768)))
    → Extends mid new (bits ((ms_within (more - 1)).short (value / 32768))) → Extends old new (bits ((ms_within more).short value))
ms_more_written old mid new more value some big first rest =
    let unit_bytes : List ℕ = unit.short (32768 + value % 32768) in
    let others : List ℕ = (ms_within (more - 1)).short (value / 32768) in
    subst (λ bytes. Extends old new (bits bytes)) (sym (ms_short_more more value some big))
    (subst (Extends old new) (sym (bits_joined unit_bytes others)) (extends_by_both old mid new (bits unit_bytes) (bits others) first rest))

-- a unit's bits
pub unit_bits : (group : ℕ) → length (bits (unit.short group)) ≡ 16
unit_bits group = omega (arith, length_of_bits (unit.short group), length_of_unit group)
