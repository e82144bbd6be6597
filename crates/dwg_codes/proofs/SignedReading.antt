-- Signed modular chars, read and written byte by byte.
use Rattle.std.proofs.Common.{◌≡◌, refl, sym, ◌∙◌, ap, subst, ℕ, zero, suc, ◌+◌, ◌-◌, ◌*◌, ◌/◌, ◌%◌, ◌^◌, ◌<◌, ◌≤◌, Bool, true, false, List, [], ◌∷◌, length, drop, get_or, Option, Some, None, arith}
use Rattle.std.specs.Prelude.{ℤ, pos, neg_ℤ, nat_lt, if◌then◌else◌}
use Rattle.std.specs.Option.{option_map}
use Rattle.std.proofs.Math.Nat.{pow-suc}
use Rattle.std.proofs.lemmas.Bool.Decides.{nat_tests}
use Rattle.dwg_bits.specs.Bits.{low_bits, bits}
use Rattle.dwg_bits.specs.Sink.{Written, Extends}
use Rattle.dwg_grammar.specs.Grammar.{Grammar, ReadsPrefix}
use Rattle.dwg_grammar.specs.Combinators.{always, choose, restrict}
use Rattle.dwg_grammar.specs.ModularCodes.{Signed, last_of, signed_mc_within, signed_number, signed_mc}
use Rattle.dwg_grammar.proofs.SignedLemmas.{after_signed, signed_by, signed_byte, signed_mc_is_code}
use Rattle.dwg_codes.proofs.GroupWriting.{byte_written, one_byte_written}
use Rattle.dwg_codes.proofs.PrefixReading.{prefix_read, prefix_unread, passed, refused, missing}

-- nothing is parsed of no bytes
pub signed_of_none : (more : ℕ) (bytes : List ℕ) → length bytes ≡ 0 → (signed_mc_within more).parse bytes ≡ None
unfolding signed_mc_within
signed_of_none zero bytes none = refl
signed_of_none (suc more) [] none = refl
signed_of_none (suc more) (byte ∷ bytes) none = absurd (omega (arith, none))

-- nor in no groups
pub signed_in_none : (more : ℕ) (bytes : List ℕ) → more ≡ 0 → (signed_mc_within more).parse bytes ≡ None
unfolding signed_mc_within
signed_in_none zero bytes none = refl
signed_in_none (suc more) bytes none = absurd (omega (arith, none))

-- a byte with its flag down is the last, with six bits and the sign
pub signed_last : (more byte : ℕ) (rest : List ℕ) → 0 < more → byte < 128 → (signed_mc_within more).parse (byte ∷ rest) ≡ Some ((nat_lt 63 byte, byte % 64), rest)
unfolding signed_mc_within
signed_last zero byte rest some small = absurd (omega arith)
signed_last (suc more) byte rest some small =
    let down : nat_lt byte 128 ≡ true = grind (arith, nat_tests) in
    ap (λ test. (choose test (always (last_of byte)) (after_signed (byte - 128) (signed_mc_within more))).parse rest) down

-- what is parsed after a group
signed_parse : (low : ℕ) (code : Grammar ℕ Signed) (rest : List ℕ) (found : Option (Signed × List ℕ)) → code.parse rest ≡ found
    → (after_signed low code).parse rest ≡ option_map (λ (one : Signed × List ℕ). ((one.0.0, low + 128 * one.0.1), one.1)) found
signed_parse low code rest found same = ap (option_map (λ (one : Signed × List ℕ). ((one.0.0, low + 128 * one.0.1), one.1))) same

-- after a byte with its flag up stands the number above it
signed_after : (more byte : ℕ) (rest : List ℕ) (found : Option (Signed × List ℕ)) → 0 < more → 128 ≤ byte → (signed_mc_within (more - 1)).parse rest ≡ found
    → (signed_mc_within more).parse (byte ∷ rest) ≡ option_map (λ (one : Signed × List ℕ). ((one.0.0, byte - 128 + 128 * one.0.1), one.1)) found
unfolding signed_mc_within
signed_after zero byte rest found some big same = absurd (omega arith)
signed_after (suc more) byte rest found some big same =
    let up : nat_lt byte 128 ≡ false = grind (arith, nat_tests) in
    let less : suc more - 1 ≡ more = omega arith in
    ap (λ test. (choose test (always (last_of byte)) (after_signed (byte - 128) (signed_mc_within more))).parse rest) up
    ∙ signed_parse (byte - 128) (signed_mc_within more) rest found (subst (λ n. (signed_mc_within n).parse rest ≡ found) less same)

-- nothing where no number stands there
pub signed_cut : (more byte : ℕ) (rest : List ℕ) → 0 < more → 128 ≤ byte → (signed_mc_within (more - 1)).parse rest ≡ None
    → (signed_mc_within more).parse (byte ∷ rest) ≡ None
signed_cut more byte rest some big same = signed_after more byte rest None some big same

-- and the group and that number where one does
pub signed_more : (more byte high : ℕ) (negative : Bool) (rest left : List ℕ) → 0 < more → 128 ≤ byte → (signed_mc_within (more - 1)).parse rest ≡ Some ((negative, high), left)
    → (signed_mc_within more).parse (byte ∷ rest) ≡ Some ((negative, byte - 128 + 128 * high), left)
signed_more more byte high negative rest left some big same = signed_after more byte rest (Some ((negative, high), left)) some big same

-- a number below zero is that of its magnitude
pub number_below : (magnitude : ℕ) → neg_ℤ (pos magnitude) ≡ signed_number (true, magnitude)
number_below zero = refl
number_below (suc less) = refl

-- and so is one that isn't
pub number_above : (magnitude : ℕ) → pos magnitude ≡ signed_number (false, magnitude)
number_above magnitude = refl

-- the number that is seen of a sign and a magnitude that were parsed
seen : (bytes rest : List ℕ) (value : Signed) (number : ℤ) → number ≡ signed_number value
    → (restrict (λ (value : Signed). nat_lt value.1 (2 ^ 63)) (signed_mc_within 10)).parse bytes ≡ Some (value, rest) → signed_mc.parse bytes ≡ Some (number, rest)
seen bytes rest value number same found =
    ap (option_map (λ (one : Signed × List ℕ). (signed_number one.0, one.1))) found ∙ ap (λ n. Some (n, rest)) (sym same)

-- where nothing was parsed nothing is seen
unseen : (bytes : List ℕ) → (restrict (λ (value : Signed). nat_lt value.1 (2 ^ 63)) (signed_mc_within 10)).parse bytes ≡ None → signed_mc.parse bytes ≡ None
unseen bytes none = ap (option_map (λ (one : Signed × List ℕ). (signed_number one.0, one.1))) none

-- a magnitude below 2^63 is a signed MC
pub signed_read : (bytes : List ℕ) (negative : Bool) (magnitude used : ℕ) (number : ℤ) → ((i : ℕ) → get_or bytes i 0 < 256) → magnitude < 2 ^ 63 → used ≤ length bytes
    → (signed_mc_within 10).parse bytes ≡ Some ((negative, magnitude), drop used bytes) → number ≡ signed_number (negative, magnitude) → ReadsPrefix signed_mc (Some (number, used)) bytes
signed_read bytes negative magnitude used number small below within found same =
    prefix_read signed_mc bytes number used signed_mc_is_code small within
    (seen bytes (drop used bytes) (negative, magnitude) number same
    (passed (λ (value : Signed). nat_lt value.1 (2 ^ 63)) (signed_mc_within 10) bytes (drop used bytes) (negative, magnitude) (grind (arith, nat_tests)) found))

-- a greater one is none
pub signed_large : (bytes rest : List ℕ) (negative : Bool) (magnitude : ℕ) → 2 ^ 63 ≤ magnitude → (signed_mc_within 10).parse bytes ≡ Some ((negative, magnitude), rest)
    → ReadsPrefix signed_mc None bytes
signed_large bytes rest negative magnitude large found =
    prefix_unread signed_mc bytes signed_mc_is_code
    (unseen bytes (refused (λ (value : Signed). nat_lt value.1 (2 ^ 63)) (signed_mc_within 10) bytes rest (negative, magnitude) (grind (arith, nat_tests)) found))

-- and where there are no groups there is none
pub signed_missing : (bytes : List ℕ) → (signed_mc_within 10).parse bytes ≡ None → ReadsPrefix signed_mc None bytes
signed_missing bytes none =
    prefix_unread signed_mc bytes signed_mc_is_code (unseen bytes (missing (λ (value : Signed). nat_lt value.1 (2 ^ 63)) (signed_mc_within 10) bytes none))

-- a last group is written with its sign
pub signed_short_last : (more : ℕ) (negative : Bool) (magnitude : ℕ) → 0 < more → magnitude < 64
    → (signed_mc_within more).short (negative, magnitude) ≡ (if negative then 64 + magnitude else magnitude) ∷ []
unfolding signed_mc_within
signed_short_last zero negative magnitude some small = absurd (omega arith)
signed_short_last (suc more) true magnitude some small =
    let one : nat_lt magnitude 64 ≡ true = grind (arith, nat_tests) in
    let low : nat_lt (64 + magnitude) 128 ≡ true = grind (arith, nat_tests) in
    ap (λ test. signed_byte test true magnitude ∷ (signed_by (signed_mc_within more) (signed_byte test true magnitude)).short (true, magnitude)) one
    ∙ ap (λ test. (64 + magnitude) ∷ (choose test (always (last_of (64 + magnitude))) (after_signed (64 + magnitude - 128) (signed_mc_within more))).short (true, magnitude)) low
signed_short_last (suc more) false magnitude some small =
    let one : nat_lt magnitude 64 ≡ true = grind (arith, nat_tests) in
    let low : nat_lt magnitude 128 ≡ true = grind (arith, nat_tests) in
    ap (λ test. signed_byte test false magnitude ∷ (signed_by (signed_mc_within more) (signed_byte test false magnitude)).short (false, magnitude)) one
    ∙ ap (λ test. magnitude ∷ (choose test (always (last_of magnitude)) (after_signed (magnitude - 128) (signed_mc_within more))).short (false, magnitude)) low

-- a greater magnitude by its low group and the number above it
pub signed_short_more : (more : ℕ) (negative : Bool) (magnitude : ℕ) → 0 < more → 64 ≤ magnitude
    → (signed_mc_within more).short (negative, magnitude) ≡ (128 + magnitude % 128) ∷ (signed_mc_within (more - 1)).short (negative, magnitude / 128)
unfolding signed_mc_within
signed_short_more zero negative magnitude some big = absurd (omega arith)
signed_short_more (suc more) negative magnitude some big =
    let less : suc more - 1 ≡ more = omega arith in
    let many : nat_lt magnitude 64 ≡ false = grind (arith, nat_tests) in
    let tag : ℕ = 128 + magnitude % 128 in
    let up : nat_lt tag 128 ≡ false = grind (arith, nat_tests) in
    ap (λ test. signed_byte test negative magnitude ∷ (signed_by (signed_mc_within more) (signed_byte test negative magnitude)).short (negative, magnitude)) many
    ∙ ap (λ test. tag ∷ (choose test (always (last_of tag)) (after_signed (tag - 128) (signed_mc_within more))).short (negative, magnitude)) up
    ∙ ap (λ n. tag ∷ (signed_mc_within n).short (negative, magnitude / 128)) (sym less)

-- what is above a group has one group less, and there is one
pub signed_above : (more magnitude : ℕ) → 0 < more → 64 ≤ magnitude → magnitude < 64 * 128 ^ (more - 1) → (0 < more - 1) × (magnitude / 128 < 64 * 128 ^ (more - 1 - 1))
signed_above zero magnitude some big below = absurd (omega arith)
signed_above (suc zero) magnitude some big below = absurd (omega arith)
signed_above (suc (suc more)) magnitude some big below =
    let one : suc (suc more) - 1 ≡ suc more = omega arith in
    let two : suc (suc more) - 1 - 1 ≡ more = omega arith in
    let limit : magnitude < 64 * 128 ^ suc more = subst (λ n. magnitude < 64 * 128 ^ n) one below in
    (omega arith, subst (λ n. magnitude / 128 < 64 * 128 ^ n) (sym two) (omega (arith, limit, pow-suc 128 more)))

-- the last byte is one
pub signed_length_last : (more : ℕ) (negative : Bool) (magnitude : ℕ) → 0 < more → magnitude < 64 → length ((signed_mc_within more).short (negative, magnitude)) ≡ 1
signed_length_last more negative magnitude some small = ap length (signed_short_last more negative magnitude some small)

-- a greater magnitude has one more than the number above the group
pub signed_length_more : (more : ℕ) (negative : Bool) (magnitude : ℕ) → 0 < more → 64 ≤ magnitude
    → length ((signed_mc_within more).short (negative, magnitude)) ≡ 1 + length ((signed_mc_within (more - 1)).short (negative, magnitude / 128))
signed_length_more more negative magnitude some big = omega (arith, ap length (signed_short_more more negative magnitude some big))

-- the last group is written with its sign
pub signed_last_written : (old new : Written) (more : ℕ) (negative : Bool) (magnitude byte : ℕ) → 0 < more → magnitude < 64 → byte ≡ (if negative then 64 + magnitude else magnitude)
    → Extends old new (low_bits 8 byte) → Extends old new (bits ((signed_mc_within more).short (negative, magnitude)))
signed_last_written old new more negative magnitude byte some small same pushed =
    subst (λ bytes. Extends old new (bits bytes)) (ap (λ n. n ∷ []) same ∙ sym (signed_short_last more negative magnitude some small)) (one_byte_written old new byte pushed)

-- a group and the number above it are written
pub signed_more_written : (old mid new : Written) (more : ℕ) (negative : Bool) (magnitude : ℕ) → 0 < more → 64 ≤ magnitude → Extends old mid (low_bits 8 (128 + magnitude % 128))
    → Extends mid new (bits ((signed_mc_within (more - 1)).short (negative, magnitude / 128))) → Extends old new (bits ((signed_mc_within more).short (negative, magnitude)))
signed_more_written old mid new more negative magnitude some big first rest =
    subst (λ bytes. Extends old new (bits bytes)) (sym (signed_short_more more negative magnitude some big))
    (byte_written old mid new (128 + magnitude % 128) ((signed_mc_within (more - 1)).short (negative, magnitude / 128)) first rest)
