-- Codes over bytes spell what is said of all groups at once, and numbers of whole bytes and texts over bits what is said of all bytes at once.
use Rattle.std.proofs.Common.{◌≡◌, refl, sym, ◌∙◌, ap, ap₂, subst, ℕ, zero, suc, ◌+◌, ◌-◌, ◌*◌, ◌%◌, ◌^◌, ◌<◌, ◌≤◌, Bool, true, false, List, [], ◌∷◌, ◌++◌, length, take, drop, map, arith}
use Rattle.std.specs.Prelude.{nat_lt, flat_map, if◌then◌else◌, ◌↔◌}
use Rattle.std.specs.List.{slice_index, range_with_len, sum}
use Rattle.std.specs.Int.{w16, w32, w64, from_le_bytes, to_le_bytes}
use Rattle.std.proofs.Math.Nat.{pow-suc, pow-zero}
use Rattle.std.proofs.lemmas.List.Sums.{sum_by-cons}
use Rattle.std.proofs.lemmas.Bool.Decides.{nat_tests}
use Rattle.dwg_base.specs.Bytes.{AreBytes}
use Rattle.dwg_bits.specs.Bits.{low_bits, bits, num}
use Rattle.dwg_bits.proofs.BitLaws.{length_of_low_bits, num_of_low_bits, low_bits_of_num, num_fits}
use Rattle.dwg_grammar.specs.Grammar.{Grammar}
use Rattle.dwg_grammar.specs.Codes.{rc, bs, tv, word_bytes}
use Rattle.dwg_grammar.specs.Combinators.{one_byte, always, tagged, choose, image, items, SpellsChain, chain}
use Rattle.dwg_grammar.specs.ModularCodes.{after_group, mc_within, mc, unit, ms_within, Signed, last_of, signed_mc_within, signed_mc, signed_number}
use Rattle.dwg_grammar.proofs.ModularLemmas.{group_by}
use Rattle.dwg_grammar.proofs.NumberLemmas.{bytes_of_16, number_of_16, bytes_of_32, number_of_32, bytes_of_64, number_of_64}
use Rattle.dwg_grammar.proofs.SignedLemmas.{after_signed}
use Rattle.dwg_grammar.specs.PlainSpellings.{number_of, flagged, IsGroups, McSpells, MsSpells, IsSignedGroups, signed_flagged, SignedMcSpells, RsSpells, RlSpells, RdSpells, TvSpells}

-- a sum of which each summand is so many times that of another, one place on
sum_shifted : (f g : ℕ → ℕ) (weight : ℕ) → ((i : ℕ) → f (i + 1) ≡ weight * g i) → (from count : ℕ)
    → sum (map f (range_with_len (from + 1) count)) ≡ weight * sum (map g (range_with_len from count))
sum_shifted f g weight each from zero = omega arith
sum_shifted f g weight each from (suc count) =
    let rest : sum (map f (range_with_len (from + 1 + 1) count)) ≡ weight * sum (map g (range_with_len (from + 1) count)) = sum_shifted f g weight each (from + 1) count in
    sum_by-cons (λ n. n) (f (from + 1)) (map f (range_with_len (from + 1 + 1) count))
    ∙ ap₂ (λ a b. a + b) (each from) rest
    ∙ joined (g from) (sum (map g (range_with_len (from + 1) count)))
    ∙ ap (λ n. weight * n) (sym (sum_by-cons (λ n. n) (g from) (map g (range_with_len (from + 1) count))))
  where
    joined : (a b : ℕ) → weight * a + weight * b ≡ weight * (a + b)
    joined a b = grind arith

-- the number of a group and groups above it
number_more : (weight group : ℕ) (groups : List ℕ) → number_of weight (group ∷ groups) ≡ group + weight * number_of weight groups
unfolding number_of
number_more weight group groups =
    sum_by-cons (λ n. n) (group * weight ^ 0) (map f (range_with_len (0 + 1) (length groups)))
    ∙ ap₂ (λ a b. a + b) (ap (λ n. group * n) (pow-zero weight) ∙ omega arith)
    (sum_shifted f g weight each 0 (length groups))
  where
    f : ℕ → ℕ
    f i = slice_index (group ∷ groups) i * weight ^ i

    g : ℕ → ℕ
    g i = slice_index groups i * weight ^ i

    turned : (a b : ℕ) → a * (b * weight) ≡ weight * (a * b)
    turned a b = grind arith

    each : (i : ℕ) → f (i + 1) ≡ weight * g i
    each i = let next : i + 1 ≡ suc i = omega arith in
        ap f next ∙ ap (λ n. slice_index groups i * n) (pow-suc weight i) ∙ turned (slice_index groups i) (weight ^ i)

-- no groups are the number 0
number_none : (weight : ℕ) → number_of weight [] ≡ 0
unfolding number_of
number_none weight = refl

-- the number of a single group
number_one : (weight group : ℕ) → number_of weight (group ∷ []) ≡ group
number_one weight group = number_more weight group [] ∙ ap (λ n. group + weight * n) (number_none weight) ∙ omega arith

-- a single group says that none follows
flagged_one : (weight group : ℕ) → flagged weight (group ∷ []) ≡ group ∷ []
unfolding flagged
flagged_one weight group = refl

-- a group before others says that another follows
flagged_more : (weight group : ℕ) (groups : List ℕ) → 0 < length groups → flagged weight (group ∷ groups) ≡ (weight + group) ∷ flagged weight groups
unfolding flagged
flagged_more weight group [] some = absurd (omega arith)
flagged_more weight group (next ∷ groups) some =
    let less : length (group ∷ next ∷ groups) - 1 ≡ suc (length (next ∷ groups) - 1) = omega arith in
    ap (λ n. map (λ g. weight + g) (take n (group ∷ next ∷ groups)) ++ drop n (group ∷ next ∷ groups)) less

-- tags that are groups or groups with their flag up, each spelled by a list of letters
record AreTags (tags : Grammar ℕ ℕ) (weight : ℕ) (spell : ℕ → List ℕ) : Type 0 where
  spelled : (tag : ℕ) (prefix : List ℕ) → tags.Spells tag prefix → (tag < weight + weight) × (prefix ≡ spell tag)
  spells : (tag : ℕ) → tag < weight + weight → tags.Spells tag (spell tag)

-- a number and its spelling by groups, each spelled by a list of letters
abbrev IsSpelledBy : ℕ → ℕ → (ℕ → List ℕ) → ℕ → List ℕ → Type 0
IsSpelledBy weight most spell value letters =
    (groups : List ℕ) × IsGroups weight most groups × (letters ≡ flat_map spell (flagged weight groups)) × (value ≡ number_of weight groups)

-- a group before a list of groups
before : (weight most : ℕ) (spell : ℕ → List ℕ) (group value : ℕ) (letters : List ℕ) → group < weight → IsSpelledBy weight most spell value letters
    → IsSpelledBy weight (suc most) spell (group + weight * value) (spell (weight + group) ++ letters)
before weight most spell group value letters small (groups, are, same, is) = (
  group ∷ groups,
  record { some = omega arith; within = omega (arith, are.within); below = (small, are.below) },
  ap (λ back. spell (weight + group) ++ back) same ∙ ap (flat_map spell) (sym (flagged_more weight group groups are.some)),
  ap (λ n. group + weight * n) is ∙ sym (number_more weight group groups),
)

-- what a tag spells, and what follows it
tag_spelled : (tags more : Grammar ℕ ℕ) (weight most : ℕ) (spell : ℕ → List ℕ)
    → ((value : ℕ) (letters : List ℕ) → more.Spells value letters → IsSpelledBy weight most spell value letters)
    → (value tag : ℕ) (back : List ℕ) (low : Bool) → nat_lt tag weight ≡ low → tag < weight + weight
    → (choose low (always tag) (after_group weight (tag - weight) more)).Spells value back → IsSpelledBy weight (suc most) spell value (spell tag ++ back)
tag_spelled tags more weight most spell rest value tag back true is_low small spelled =
    let below : tag < weight = grind (arith, nat_tests) in (
      tag ∷ [],
      record { some = omega arith; within = omega arith; below = (below, tt) },
      ap (λ after. spell tag ++ after) spelled.1 ∙ ap (flat_map spell) (sym (flagged_one weight tag)),
      spelled.0 ∙ sym (number_one weight tag),
    )
tag_spelled tags more weight most spell rest value tag back false is_high small (inner, is, spelled) =
    let above : weight ≤ tag = grind (arith, nat_tests) in
    let same : weight + (tag - weight) ≡ tag = omega arith in
    let joined : IsSpelledBy weight (suc most) spell (tag - weight + weight * inner) (spell (weight + (tag - weight)) ++ back) =
    before weight most spell (tag - weight) inner back (omega arith) (rest inner back spelled) in
    subst (λ n. IsSpelledBy weight (suc most) spell n (spell tag ++ back)) (sym is)
    (subst (λ t. IsSpelledBy weight (suc most) spell (tag - weight + weight * inner) (spell t ++ back)) same joined)

-- what groups spell
groups_spelled : (tags more : Grammar ℕ ℕ) (weight most above : ℕ) (pick : ℕ → ℕ) (spell : ℕ → List ℕ) → AreTags tags weight spell
    → ((value : ℕ) (letters : List ℕ) → more.Spells value letters → IsSpelledBy weight most spell value letters)
    → (value : ℕ) (letters : List ℕ) → (tagged tags (group_by weight more) (λ n. n < above) pick).Spells value letters
    → IsSpelledBy weight (suc most) spell value letters
groups_spelled tags more weight most above pick spell are rest value letters (tag, prefix, back, first, after, whole) =
    let parts : (tag < weight + weight) × (prefix ≡ spell tag) = are.spelled tag prefix first in
    subst (λ all. IsSpelledBy weight (suc most) spell value all) (ap (λ first. first ++ back) (sym parts.1) ∙ sym whole)
    (tag_spelled tags more weight most spell rest value tag back (nat_lt tag weight) refl parts.0 after)

-- groups spell what they say
groups_spell : (tags more : Grammar ℕ ℕ) (weight most above : ℕ) (pick : ℕ → ℕ) (spell : ℕ → List ℕ) → AreTags tags weight spell
    → ((value : ℕ) (letters : List ℕ) → IsSpelledBy weight most spell value letters → more.Spells value letters)
    → (value : ℕ) (letters : List ℕ) → IsSpelledBy weight (suc most) spell value letters
    → (tagged tags (group_by weight more) (λ n. n < above) pick).Spells value letters
groups_spell tags more weight most above pick spell tag rest value letters ([], are, same, is) = absurd (omega (arith, are.some))
groups_spell tags more weight most above pick spell tag rest value letters (group ∷ [], are, same, is) =
    let small : group < weight = are.below.0 in
    let is_low : nat_lt group weight ≡ true = grind (arith, nat_tests) in (
      group,
      spell group,
      [],
      tag.spells group (omega arith),
      subst (λ test. (choose test (always {A = ℕ} group) (after_group weight (group - weight) more)).Spells value []) (sym is_low) (is ∙ number_one weight group, refl),
      same ∙ ap (flat_map spell) (flagged_one weight group),
    )
groups_spell tags more weight most above pick spell tag rest value letters (group ∷ next ∷ groups, are, same, is) =
    let small : group < weight = are.below.0 in
    let up : nat_lt (weight + group) weight ≡ false = grind (arith, nat_tests) in
    let low : weight + group - weight ≡ group = omega arith in
    let others : List ℕ = next ∷ groups in
    let back : List ℕ = flat_map spell (flagged weight others) in
    let after : more.Spells (number_of weight others) back =
    rest (number_of weight others) back (others, record { some = omega arith; within = omega (arith, are.within); below = are.below.1 }, refl, refl) in (
      weight + group,
      spell (weight + group),
      back,
      tag.spells (weight + group) (omega arith),
      subst (λ test. (choose test (always {A = ℕ} (weight + group)) (after_group weight (weight + group - weight) more)).Spells value back) (sym up)
          (number_of weight others, is ∙ number_more weight group others ∙ ap (λ n. n + weight * number_of weight others) (sym low), after),
      same ∙ ap (flat_map spell) (flagged_more weight group others (omega arith)),
    )

-- a byte is spelled by itself
bytes_are_tags : AreTags one_byte 128 (λ byte. byte ∷ [])
bytes_are_tags = record { spelled = λ tag prefix spelled. spelled; spells = λ tag small. (small, refl) }

-- what an MC of at most so many bytes spells
mc_within_spelled : (count value : ℕ) (letters : List ℕ) → (mc_within count).Spells value letters → IsSpelledBy 128 count (λ byte. byte ∷ []) value letters
unfolding mc_within
mc_within_spelled zero value letters spelled = absurd spelled
mc_within_spelled (suc more) value letters spelled =
    groups_spelled one_byte (mc_within more) 128 more (128 ^ suc more) (λ n. if nat_lt n 128 then n else 128 + n % 128) (λ byte. byte ∷ []) bytes_are_tags
    (mc_within_spelled more) value letters spelled

-- and by which bytes
mc_within_spells : (count value : ℕ) (letters : List ℕ) → IsSpelledBy 128 count (λ byte. byte ∷ []) value letters → (mc_within count).Spells value letters
unfolding mc_within
mc_within_spells zero value letters (groups, are, same, is) = absurd (omega (arith, are.some, are.within))
mc_within_spells (suc more) value letters spelled =
    groups_spell one_byte (mc_within more) 128 more (128 ^ suc more) (λ n. if nat_lt n 128 then n else 128 + n % 128) (λ byte. byte ∷ []) bytes_are_tags
    (mc_within_spells more) value letters spelled

-- a list of bytes is spelled byte by byte
byte_by_byte : (letters : List ℕ) → flat_map (λ byte. byte ∷ []) letters ≡ letters
byte_by_byte [] = refl
byte_by_byte (byte ∷ letters) = ap (λ rest. byte ∷ rest) (byte_by_byte letters)

-- what an MC spells
pub mc_spells : McSpells
mc_spells value letters = (into, from)
  where
    into : mc.Spells value letters
        → (groups : List ℕ) × IsGroups 128 10 groups × (letters ≡ flagged 128 groups) × (value ≡ number_of 128 groups) × (value < 2 ^ 63)
    into (passed, spelled) =
        let by : IsSpelledBy 128 10 (λ byte. byte ∷ []) value letters = mc_within_spelled 10 value letters spelled in
        (by.0, by.1, by.2 ∙ byte_by_byte (flagged 128 by.0), by.3, grind (arith, nat_tests))

    from : (groups : List ℕ) × IsGroups 128 10 groups × (letters ≡ flagged 128 groups) × (value ≡ number_of 128 groups) × (value < 2 ^ 63)
        → mc.Spells value letters
    from (groups, are, same, is, small) =
        (grind (arith, nat_tests), mc_within_spells 10 value letters (groups, are, same ∙ sym (byte_by_byte (flagged 128 groups)), is))

-- a list of bytes is spelled by itself
bytes_spell : (state : ℕ) (bytes : List ℕ) → AreBytes bytes → SpellsChain (λ (state : ℕ). one_byte) (λ value. 0) state bytes bytes
bytes_spell state [] are = refl
bytes_spell state (byte ∷ bytes) are = (byte ∷ [], bytes, (are.0, refl), bytes_spell 0 bytes are.1, refl)

-- and by nothing else
bytes_spelled : (state : ℕ) (bytes letters : List ℕ) → SpellsChain (λ (state : ℕ). one_byte) (λ value. 0) state bytes letters → AreBytes bytes × (letters ≡ bytes)
bytes_spelled state [] letters spelled = (tt, spelled)
bytes_spelled state (byte ∷ bytes) letters (prefix, back, first, others, same) =
    let after : AreBytes bytes × (back ≡ bytes) = bytes_spelled 0 bytes back others in
    ((first.0, after.0), same ∙ ap₂ (λ a b. a ++ b) first.1 after.1)

-- a unit is spelled by its two bytes, the low one first
units_are_tags : AreTags unit 32768 (to_le_bytes w16)
unfolding chain
units_are_tags = record {
  spelled = λ tag prefix spelled. of_bytes tag prefix spelled.0 spelled.1 spelled.2.0 spelled.2.1;
  spells = λ tag small. to_bytes tag (number_of_16 tag small);
}
  where
    of_bytes : (tag : ℕ) (prefix bytes : List ℕ) → tag ≡ from_le_bytes w16 bytes → length bytes ≡ 2 → SpellsChain (λ (state : ℕ). one_byte) (λ value. 0) 0 bytes prefix
        → (tag < 32768 + 32768) × (prefix ≡ to_le_bytes w16 tag)
    of_bytes tag prefix bytes seen long spelled =
        let parts : AreBytes bytes × (prefix ≡ bytes) = bytes_spelled 0 bytes prefix spelled in
        let both : (from_le_bytes w16 bytes < 2 ^ 16) × (to_le_bytes w16 (from_le_bytes w16 bytes) ≡ bytes) = bytes_of_16 bytes long parts.0 in
        (subst (λ n. n < 2 ^ 16) (sym seen) both.0, parts.1 ∙ sym both.1 ∙ ap (to_le_bytes w16) (sym seen))

    to_bytes : (tag : ℕ) → (from_le_bytes w16 (to_le_bytes w16 tag) ≡ tag) × (length (to_le_bytes w16 tag) ≡ 2) × AreBytes (to_le_bytes w16 tag)
        → (bytes : List ℕ) × (tag ≡ from_le_bytes w16 bytes) × ((length bytes ≡ 2) × SpellsChain (λ (state : ℕ). one_byte) (λ value. 0) 0 bytes (to_le_bytes w16 tag))
    to_bytes tag parts = (to_le_bytes w16 tag, sym parts.0, (parts.1, bytes_spell 0 (to_le_bytes w16 tag) parts.2))

-- what an MS of at most so many units spells
ms_within_spelled : (count value : ℕ) (letters : List ℕ) → (ms_within count).Spells value letters → IsSpelledBy 32768 count (to_le_bytes w16) value letters
unfolding ms_within
ms_within_spelled zero value letters spelled = absurd spelled
ms_within_spelled (suc more) value letters spelled =
    groups_spelled unit (ms_within more) 32768 more (32768 ^ suc more) (λ n. if nat_lt n 32768 then n else 32768 + n % 32768) (to_le_bytes w16) units_are_tags
    (ms_within_spelled more) value letters spelled

-- and by which units
ms_within_spells : (count value : ℕ) (letters : List ℕ) → IsSpelledBy 32768 count (to_le_bytes w16) value letters → (ms_within count).Spells value letters
unfolding ms_within
ms_within_spells zero value letters (groups, are, same, is) = absurd (omega (arith, are.some, are.within))
ms_within_spells (suc more) value letters spelled =
    groups_spell unit (ms_within more) 32768 more (32768 ^ suc more) (λ n. if nat_lt n 32768 then n else 32768 + n % 32768) (to_le_bytes w16) units_are_tags
    (ms_within_spells more) value letters spelled

-- what an MS spells
pub ms_spells : MsSpells
ms_spells value letters = (ms_within_spelled 4 value letters, ms_within_spells 4 value letters)

-- a sign and a magnitude, and their spelling by groups
abbrev IsSignedSpelledBy : ℕ → Signed → List ℕ → Type 0
IsSignedSpelledBy most value letters =
    (prefix : List ℕ) × (last : ℕ) × IsSignedGroups most prefix last × (letters ≡ signed_flagged prefix last value.0) × (value.1 ≡ number_of 128 (prefix ++ last ∷ []))

-- a last byte is its sign and its six value bits
last_byte : (byte : ℕ) (negative : Bool) → nat_lt 63 byte ≡ negative → byte < 128 → byte ≡ (if negative then 64 + byte % 64 else byte % 64)
last_byte byte true is small = let above : 63 < byte = grind (arith, nat_tests) in omega arith
last_byte byte false is small = let below : byte ≤ 63 = grind (arith, nat_tests) in omega arith

-- what a first byte spells, and what follows it
byte_spelled : (more : Grammar ℕ Signed) (most : ℕ)
    → ((value : Signed) (letters : List ℕ) → more.Spells value letters → IsSignedSpelledBy most value letters)
    → (value : Signed) (byte : ℕ) (back : List ℕ) (low : Bool) → nat_lt byte 128 ≡ low → byte < 256
    → (choose low (always (last_of byte)) (after_signed (byte - 128) more)).Spells value back → IsSignedSpelledBy (suc most) value (byte ∷ back)
unfolding signed_flagged
byte_spelled more most rest value byte back true is_low small spelled =
    let below : byte < 128 = grind (arith, nat_tests) in
    let last : IsSignedSpelledBy (suc most) (last_of byte) (byte ∷ back) = (
      [],
      byte % 64,
      record { within = omega arith; below = tt; last_below = omega arith },
      ap₂ (λ first after. first ∷ after) (last_byte byte (nat_lt 63 byte) refl below) spelled.1,
      sym (number_one 128 (byte % 64)),
    ) in
    subst (λ (v : Signed). IsSignedSpelledBy (suc most) v (byte ∷ back)) (sym spelled.0) last
byte_spelled more most rest value byte back false is_high small (inner, is, spelled) =
    let above : 128 ≤ byte = grind (arith, nat_tests) in
    let group : ℕ = byte - 128 in
    let same : byte ≡ 128 + group = omega arith in
    let after : IsSignedSpelledBy most inner back = rest inner back spelled in
    let joined : IsSignedSpelledBy (suc most) (inner.0, group + 128 * inner.1) (byte ∷ back) = (
      group ∷ after.0,
      after.1,
      record { within = omega (arith, after.2.within); below = (omega arith, after.2.below); last_below = after.2.last_below },
      ap₂ (λ first others. first ∷ others) same after.3,
      ap (λ n. group + 128 * n) after.4 ∙ sym (number_more 128 group (after.0 ++ after.1 ∷ [])),
    ) in
    subst (λ (v : Signed). IsSignedSpelledBy (suc most) v (byte ∷ back)) (sym is) joined

-- what an MC with a sign of at most so many bytes spells
signed_within_spelled : (count : ℕ) (value : Signed) (letters : List ℕ) → (signed_mc_within count).Spells value letters → IsSignedSpelledBy count value letters
unfolding signed_mc_within
signed_within_spelled zero value letters spelled = absurd spelled
signed_within_spelled (suc more) value letters (byte, prefix, back, first, after, whole) =
    subst (λ all. IsSignedSpelledBy (suc more) value all) (ap (λ one. one ++ back) (sym first.1) ∙ sym whole)
    (byte_spelled (signed_mc_within more) more (signed_within_spelled more) value byte back (nat_lt byte 128) refl first.0 after)

-- a last group with its sign
last_again : (last : ℕ) (negative : Bool) → last < 64 → let byte : ℕ = if negative then 64 + last else last in
    (nat_lt byte 128 ≡ true) × (nat_lt 63 byte ≡ negative) × (byte % 64 ≡ last) × (byte < 256)
last_again last true small = (grind (arith, nat_tests), grind (arith, nat_tests), omega arith, omega arith)
last_again last false small = (grind (arith, nat_tests), grind (arith, nat_tests), omega arith, omega arith)

-- and by which bytes
signed_within_spells : (count : ℕ) (value : Signed) (letters prefix : List ℕ) (last : ℕ) → IsSignedGroups count prefix last → letters ≡ signed_flagged prefix last value.0
    → value.1 ≡ number_of 128 (prefix ++ last ∷ []) → (signed_mc_within count).Spells value letters
unfolding signed_mc_within signed_flagged
signed_within_spells zero value letters prefix last are same is = absurd (omega (arith, are.within))
signed_within_spells (suc more) value letters [] last are same is =
    let byte : ℕ = if value.0 then 64 + last else last in
    let again : (nat_lt byte 128 ≡ true) × (nat_lt 63 byte ≡ value.0) × (byte % 64 ≡ last) × (byte < 256) = last_again last value.0 are.last_below in (
      byte,
      byte ∷ [],
      [],
      (again.3, refl),
      subst (λ test. (choose test (always (last_of byte)) (after_signed (byte - 128) (signed_mc_within more))).Spells value []) (sym again.0)
          (ap₂ (λ (s : Bool) (m : ℕ). let v : Signed = (s, m) in v) (sym again.1) (is ∙ number_one 128 last ∙ sym again.2), refl),
      same,
    )
signed_within_spells (suc more) value letters (group ∷ prefix) last are same is =
    let small : group < 128 = are.below.0 in
    let up : nat_lt (128 + group) 128 ≡ false = grind (arith, nat_tests) in
    let low : 128 + group - 128 ≡ group = omega arith in
    let back : List ℕ = signed_flagged prefix last value.0 in
    let high : ℕ = number_of 128 (prefix ++ last ∷ []) in
    let inner : Signed = (value.0, high) in
    let after : (signed_mc_within more).Spells inner back =
    signed_within_spells more inner back prefix last (record { within = omega (arith, are.within); below = are.below.1; last_below = are.last_below }) refl refl in (
      128 + group,
      (128 + group) ∷ [],
      back,
      (omega arith, refl),
      subst (λ test. (choose test (always (last_of (128 + group))) (after_signed (128 + group - 128) (signed_mc_within more))).Spells value back) (sym up)
          (inner, ap (λ (m : ℕ). let v : Signed = (value.0, m) in v) (is ∙ number_more 128 group (prefix ++ last ∷ []) ∙ ap (λ n. n + 128 * high) (sym low)), after),
      same,
    )

-- what a signed MC spells
pub signed_mc_spells : SignedMcSpells
signed_mc_spells value letters = (into, from)
  where
    into : signed_mc.Spells value letters
        → (prefix : List ℕ) × (last : ℕ) × (negative : Bool) × IsSignedGroups 10 prefix last × (letters ≡ signed_flagged prefix last negative)
        × (number_of 128 (prefix ++ last ∷ []) < 2 ^ 63) × (value ≡ signed_number (negative, number_of 128 (prefix ++ last ∷ [])))
    into (inner, is, spelled) =
        let by : IsSignedSpelledBy 10 inner letters = signed_within_spelled 10 inner letters spelled.1 in
        let passed : nat_lt inner.1 (2 ^ 63) ≡ true = spelled.0 in
        let small : inner.1 < 2 ^ 63 = grind (arith, nat_tests) in
        (by.0, by.1, inner.0, by.2, by.3, omega (arith, by.4), is ∙ ap (λ (m : ℕ). signed_number (inner.0, m)) by.4)

    from : (prefix : List ℕ) × (last : ℕ) × (negative : Bool) × IsSignedGroups 10 prefix last × (letters ≡ signed_flagged prefix last negative)
        × (number_of 128 (prefix ++ last ∷ []) < 2 ^ 63) × (value ≡ signed_number (negative, number_of 128 (prefix ++ last ∷ [])))
        → signed_mc.Spells value letters
    from (prefix, last, negative, are, same, small, is) =
        let inner : Signed = (negative, number_of 128 (prefix ++ last ∷ [])) in
        (inner, is, (grind (arith, nat_tests), signed_within_spells 10 inner letters prefix last are same refl))

-- bytes are spelled by their bits
bits_spell : (state : ℕ) (bytes : List ℕ) → AreBytes bytes → SpellsChain (λ (state : ℕ). rc) (λ value. 0) state bytes (bits bytes)
unfolding bits
bits_spell state [] are = refl
bits_spell state (byte ∷ bytes) are =
    (low_bits 8 byte, bits bytes, (length_of_low_bits 8 byte, sym (num_of_low_bits 8 byte are.0)), bits_spell 0 bytes are.1, refl)

-- and by nothing else
bits_spelled : (state : ℕ) (bytes : List ℕ) (letters : List Bool) → SpellsChain (λ (state : ℕ). rc) (λ value. 0) state bytes letters
    → AreBytes bytes × (letters ≡ bits bytes)
unfolding bits
bits_spelled state [] letters spelled = (tt, spelled)
bits_spelled state (byte ∷ bytes) letters (prefix, back, first, others, same) =
    let after : AreBytes bytes × (back ≡ bits bytes) = bits_spelled 0 bytes back others in
    let here : prefix ≡ low_bits 8 byte = sym (low_bits_of_num prefix) ∙ ap₂ low_bits first.0 (sym first.1) in
    let fits : byte < 2 ^ 8 = subst (λ n. n < 2 ^ 8) (sym first.1) (subst (λ n. num prefix < 2 ^ n) first.0 (num_fits prefix)) in
    ((fits, after.0), same ∙ ap₂ (λ a b. a ++ b) here after.1)

-- what a number of so many bytes spells
word_spells : (count limit : ℕ) (from : List ℕ → ℕ) (to : ℕ → List ℕ)
    → ((bytes : List ℕ) → length bytes ≡ count → AreBytes bytes → (from bytes < limit) × (to (from bytes) ≡ bytes))
    → ((value : ℕ) → value < limit → (from (to value) ≡ value) × (length (to value) ≡ count) × AreBytes (to value))
    → (value : ℕ) (letters : List Bool) → (image (λ value. value < limit) from to (items rc count)).Spells value letters ↔ ((value < limit) × (letters ≡ bits (to value)))
unfolding chain
word_spells count limit from to of_bytes of_number value letters = (out, back)
  where
    out : (bytes : List ℕ) × (value ≡ from bytes) × ((length bytes ≡ count) × SpellsChain (λ (state : ℕ). rc) (λ value. 0) 0 bytes letters)
        → (value < limit) × (letters ≡ bits (to value))
    out (bytes, seen, spelled) =
        let parts : AreBytes bytes × (letters ≡ bits bytes) = bits_spelled 0 bytes letters spelled.1 in
        let both : (from bytes < limit) × (to (from bytes) ≡ bytes) = of_bytes bytes spelled.0 parts.0 in
        (subst (λ n. n < limit) (sym seen) both.0, parts.1 ∙ ap bits (sym both.1 ∙ ap to (sym seen)))

    back : (value < limit) × (letters ≡ bits (to value))
        → (bytes : List ℕ) × (value ≡ from bytes) × ((length bytes ≡ count) × SpellsChain (λ (state : ℕ). rc) (λ value. 0) 0 bytes letters)
    back (small, same) =
        let parts : (from (to value) ≡ value) × (length (to value) ≡ count) × AreBytes (to value) = of_number value small in
        let chained : SpellsChain (λ (state : ℕ). rc) (λ value. 0) 0 (to value) letters =
        subst (λ all. SpellsChain (λ (state : ℕ). rc) (λ value. 0) 0 (to value) all) (sym same) (bits_spell 0 (to value) parts.2) in
        (to value, sym parts.0, (parts.1, chained))

-- what an RS spells
pub rs_spells : RsSpells
rs_spells value letters = word_spells 2 (2 ^ 16) (from_le_bytes w16) (to_le_bytes w16) bytes_of_16 number_of_16 value letters

-- what an RL spells
pub rl_spells : RlSpells
rl_spells value letters = word_spells 4 (2 ^ 32) (from_le_bytes w32) (to_le_bytes w32) bytes_of_32 number_of_32 value letters

-- what an RD spells
pub rd_spells : RdSpells
unfolding word_bytes
rd_spells value letters = word_spells 8 (2 ^ 64) (from_le_bytes w64) (to_le_bytes w64) bytes_of_64 number_of_64 value letters

-- what a TV spells
pub tv_spells : TvSpells
unfolding tv chain
tv_spells text letters = (out, back)
  where
    plain : (text : List ℕ) (prefix last : List Bool) (count : ℕ) (bytes : List ℕ) → text ≡ bytes → bs.Spells count prefix → length bytes ≡ count
        → SpellsChain (λ (state : ℕ). rc) (λ value. 0) 0 bytes last → letters ≡ prefix ++ last
        → AreBytes text × ((prefix : List Bool) × bs.Spells (length text) prefix × (letters ≡ prefix ++ bits text))
    plain text prefix last count bytes seen first long spelled same =
        let parts : AreBytes bytes × (last ≡ bits bytes) = bits_spelled 0 bytes last spelled in (
          subst AreBytes (sym seen) parts.0,
          (prefix, subst (λ n. bs.Spells n prefix) (sym long ∙ ap length (sym seen)) first, same ∙ ap (λ after. prefix ++ after) (parts.1 ∙ ap bits (sym seen))),
        )

    out : tv.Spells text letters → AreBytes text × ((prefix : List Bool) × bs.Spells (length text) prefix × (letters ≡ prefix ++ bits text))
    out (both, seen, spelled) = plain text spelled.0 spelled.1 both.0 both.1 seen spelled.2 spelled.3.0 spelled.3.1 spelled.4

    back : AreBytes text × ((prefix : List Bool) × bs.Spells (length text) prefix × (letters ≡ prefix ++ bits text)) → tv.Spells text letters
    back (are, first) = ((length text, text), refl, (first.0, bits text, first.1, (refl, bits_spell 0 text are), first.2))
