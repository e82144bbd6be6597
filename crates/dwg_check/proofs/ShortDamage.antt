-- A step of a check word loses nothing: words that differ stay apart, and so do words that one or two other bytes turn.
use Rattle.std.proofs.Common.{◌≡◌, refl, sym, ◌∙◌, ap, ap₂, subst, ℕ, zero, suc, ◌+◌, ◌*◌, ◌/◌, ◌%◌, ◌^◌, ◌<◌, ◌≤◌, List, [], ◌∷◌, ◌++◌, length, arith, append_assoc, eqb-true}
use Rattle.std.specs.Prelude.{◌↔◌, bit_xor, replicate, ◌==◌}
use Rattle.std.specs.Int.{w16, to_le_bytes, from_le_bytes}
use Rattle.std.proofs.lemmas.Nat.{xor_comm, xor_lt, le_bytes_2, from_le_bytes-to_le_bytes_2}
use Rattle.std.proofs.lemmas.Bool.{cond_both}
use lib.Bits.{xor_assoc, xor_self, xor_zero_r, xor_shifted}
use Rattle.dwg_base.specs.Bytes.{AreBytes}
use Rattle.dwg_base.proofs.ByteLists.{byte_below}
use Rattle.dwg_check.specs.CheckWord.{POLYNOMIAL, turn, check_word}
use Rattle.dwg_check.specs.ShortDamage.{ShortDamageShows, SealedIsZero, DamageUnderSealShows}
use Rattle.dwg_check.proofs.CheckWordLaws.{half, halves, halves_xor, turn_fits, check_word_fits, check_word_append, check_word_cons, check_word_zeros, check_word_xor}
use Rattle.dwg_check.proofs.ByteStep.{byte_halves, halves_up}
use Rattle.dwg_check.proofs.PrefixWords.{xor_back}

-- two words whose xor is 0 are one
xor_apart : (a b : ℕ) → bit_xor a b ≡ 0 → a ≡ b
xor_apart a b none = sym (xor_back a b) ∙ ap (bit_xor b) none ∙ xor_zero_r b

-- a word that is xored into another and leaves it is 0
xor_kept : (a b : ℕ) → a ≡ bit_xor a b → b ≡ 0
xor_kept a b same = sym (xor_back b a) ∙ ap (bit_xor a) (xor_comm b a ∙ sym same) ∙ xor_self a

-- the polynomial has the highest bit, which no word divided by two has
half_none : (word : ℕ) → word < 2 ^ 16 → half word ≡ 0 → word ≡ 0
unfolding half turn
half_none word h =
    cond_both (word % 2 == 0) (word / 2) (bit_xor (word / 2) POLYNOMIAL) (λ shifted. shifted ≡ 0 → word ≡ 0)
    (λ even none. let low : word % 2 ≡ 0 = eqb-true (word % 2) 0 even in omega arith)
    (λ odd none. let lower : word / 2 ≡ POLYNOMIAL = xor_apart (word / 2) POLYNOMIAL none in absurd (omega arith))

-- a word that halving brings to 0 is 0
pub halves_none : (n word : ℕ) → word < 2 ^ 16 → halves n word ≡ 0 → word ≡ 0
unfolding halves half
halves_none zero word h none = none
halves_none (suc n) word h none = half_none word h (halves_none n (half word) (turn_fits word 0 h) none)

-- 0 stays 0
pub halves_of_none : (n : ℕ) → halves n 0 ≡ 0
halves_of_none n = ap (halves n) (sym (xor_self 0)) ∙ halves_xor n 0 0 ∙ xor_self (halves n 0)

-- words that halving makes one are one
pub halves_apart : (n a b : ℕ) → a < 2 ^ 16 → b < 2 ^ 16 → halves n a ≡ halves n b → a ≡ b
halves_apart n a b small small_too same =
    xor_apart a b (halves_none n (bit_xor a b) (xor_lt 16 a b small small_too)
    (halves_xor n a b ∙ ap (λ word. bit_xor word (halves n b)) same ∙ xor_self (halves n b)))

-- the check word of bytes reports its start
pub start_apart : (a b : ℕ) (bytes : List ℕ) → a < 2 ^ 16 → b < 2 ^ 16 → check_word a bytes ≡ check_word b bytes → a ≡ b
start_apart a b bytes small small_too same =
    let change : ℕ = bit_xor b a in
    let moved : check_word b bytes ≡ bit_xor (check_word a bytes) (check_word change (replicate (length bytes) 0)) =
    ap (λ word. check_word word bytes) (sym (xor_back b a)) ∙ check_word_xor a change bytes in
    let none : halves (8 * length bytes) change ≡ 0 =
    sym (check_word_zeros (length bytes) change) ∙ xor_kept (check_word a bytes) (check_word change (replicate (length bytes) 0)) (same ∙ moved) in
    sym (xor_apart b a (halves_none (8 * length bytes) change (xor_lt 16 b a small_too small) none))

-- the check word of one byte is the word halved eight times
one_byte : (word byte : ℕ) → byte < 2 ^ 8 → check_word word (byte ∷ []) ≡ halves 8 (bit_xor word byte)
unfolding check_word
one_byte word byte h = byte_halves word byte h

-- that of two is sixteen, of the word with both xored into it
two_bytes : (word low high : ℕ) → low < 2 ^ 8 → high < 2 ^ 8
    → check_word word (low ∷ high ∷ []) ≡ halves 8 (halves 8 (bit_xor word (high * 2 ^ 8 + low)))
two_bytes word low high h g =
    check_word_cons word low (high ∷ [])
    ∙ ap (λ w. check_word w (high ∷ [])) (one_byte word low h)
    ∙ one_byte (halves 8 (bit_xor word low)) high g
    ∙ ap (λ b. halves 8 (bit_xor (halves 8 (bit_xor word low)) b)) (sym (halves_up 8 high))
    ∙ ap (halves 8) (sym (halves_xor 8 (bit_xor word low) (high * 2 ^ 8)))
    ∙ ap (λ w. halves 8 (halves 8 w)) (xor_assoc word low (high * 2 ^ 8) ∙ ap (bit_xor word) (xor_comm low (high * 2 ^ 8) ∙ xor_shifted high 8 low h))

-- a word that is xored into two words that differ leaves them apart
xored_apart : (word a b : ℕ) → bit_xor word a ≡ bit_xor word b → a ≡ b
xored_apart word a b same = sym (xor_back a word) ∙ ap (bit_xor word) (xor_comm a word ∙ same ∙ xor_comm word b) ∙ xor_back b word

-- one byte is reported by its check word
one_byte_apart : (word a b : ℕ) → word < 2 ^ 16 → a < 2 ^ 8 → b < 2 ^ 8 → check_word word (a ∷ []) ≡ check_word word (b ∷ []) → a ≡ b
one_byte_apart word a b small h g same =
    let wide : a < 2 ^ 16 = omega arith in
    let wide_too : b < 2 ^ 16 = omega arith in
    xored_apart word a b (halves_apart 8 (bit_xor word a) (bit_xor word b) (xor_lt 16 word a small wide) (xor_lt 16 word b small wide_too)
    (sym (one_byte word a h) ∙ same ∙ one_byte word b g))

-- halving keeps a word in 16 bits
halves_fit : (n word : ℕ) → word < 2 ^ 16 → halves n word < 2 ^ 16
unfolding halves half
halves_fit zero word h = h
halves_fit (suc n) word h = halves_fit n (half word) (turn_fits word 0 h)

-- two bytes are reported by their check word, as one number
two_bytes_apart : (word low high other_low other_high : ℕ) → word < 2 ^ 16 → low < 2 ^ 8 → high < 2 ^ 8 → other_low < 2 ^ 8 → other_high < 2 ^ 8
    → check_word word (low ∷ high ∷ []) ≡ check_word word (other_low ∷ other_high ∷ []) → high * 2 ^ 8 + low ≡ other_high * 2 ^ 8 + other_low
two_bytes_apart word low high other_low other_high small h g k l same =
    let a : ℕ = bit_xor word (high * 2 ^ 8 + low) in
    let b : ℕ = bit_xor word (other_high * 2 ^ 8 + other_low) in
    let fits : a < 2 ^ 16 = xor_lt 16 word (high * 2 ^ 8 + low) small (omega arith) in
    let fits_too : b < 2 ^ 16 = xor_lt 16 word (other_high * 2 ^ 8 + other_low) small (omega arith) in
    xored_apart word (high * 2 ^ 8 + low) (other_high * 2 ^ 8 + other_low) (halves_apart 8 a b fits fits_too
    (halves_apart 8 (halves 8 a) (halves 8 b) (halves_fit 8 a fits) (halves_fit 8 b fits_too)
    (sym (two_bytes word low high h g) ∙ same ∙ two_bytes word other_low other_high k l)))

-- no more than two bytes are reported by their check word
few_apart : (word : ℕ) (here there : List ℕ) → word < 2 ^ 16 → AreBytes here → AreBytes there → length here ≡ length there → length here ≤ 2
    → check_word word here ≡ check_word word there → here ≡ there
few_apart word [] [] small _ _ _ _ same = refl
few_apart word (a ∷ []) (b ∷ []) small first second _ _ same = ap (λ byte. byte ∷ []) (one_byte_apart word a b small first.0 second.0 same)
few_apart word (a ∷ b ∷ []) (c ∷ d ∷ []) small first second _ _ same =
    let number : b * 2 ^ 8 + a ≡ d * 2 ^ 8 + c = two_bytes_apart word a b c d small first.0 first.1.0 second.0 second.1.0 same in
    ap₂ (λ low high. low ∷ high ∷ []) (lows a b c d first.0 second.0 number) (highs a b c d first.0 second.0 number)
  where
    lows : (a b c d : ℕ) → a < 2 ^ 8 → c < 2 ^ 8 → b * 2 ^ 8 + a ≡ d * 2 ^ 8 + c → a ≡ c
    lows a b c d h g number = omega arith

    highs : (a b c d : ℕ) → a < 2 ^ 8 → c < 2 ^ 8 → b * 2 ^ 8 + a ≡ d * 2 ^ 8 + c → b ≡ d
    highs a b c d h g number = omega arith
few_apart word [] (b ∷ there) small _ _ long _ same = absurd (omega arith)
few_apart word (a ∷ here) [] small _ _ long _ same = absurd (omega arith)
few_apart word (a ∷ []) (b ∷ c ∷ there) small _ _ long _ same = absurd (omega arith)
few_apart word (a ∷ b ∷ here) (c ∷ []) small _ _ long _ same = absurd (omega arith)
few_apart word (a ∷ b ∷ c ∷ here) (d ∷ e ∷ there) small _ _ long few same = absurd (omega arith)
few_apart word (a ∷ b ∷ []) (c ∷ d ∷ e ∷ there) small _ _ long few same = absurd (omega arith)

-- bytes are bytes in each of their parts
prefix_bytes : (a b : List ℕ) → AreBytes (a ++ b) → AreBytes a
prefix_bytes [] b all = tt
prefix_bytes (byte ∷ a) b all = (all.0, prefix_bytes a b all.1)

back_bytes : (a b : List ℕ) → AreBytes (a ++ b) → AreBytes b
back_bytes [] b all = all
back_bytes (byte ∷ a) b all = back_bytes a b all.1

both_bytes : (a b : List ℕ) → AreBytes a → AreBytes b → AreBytes (a ++ b)
both_bytes [] b first second = second
both_bytes (byte ∷ a) b first second = (first.0, both_bytes a b first.1 second)

pub short_damage_shows : ShortDamageShows
short_damage_shows start one other small first second apart same =
    let word : ℕ = check_word start apart.before in
    let fits : word < 2 ^ 16 = check_word_fits start apart.before small in
    let split : (part : List ℕ) → check_word start (apart.before ++ part ++ apart.after) ≡ check_word (check_word word part) apart.after =
    λ part. check_word_append start (apart.before ++ part) apart.after ∙ ap (λ w. check_word w apart.after) (check_word_append start apart.before part) in
    let middle : check_word word apart.here ≡ check_word word apart.there =
    start_apart (check_word word apart.here) (check_word word apart.there) apart.after (check_word_fits word apart.here fits) (check_word_fits word apart.there fits)
    (sym (split apart.here) ∙ ap (check_word start) (sym apart.first) ∙ same ∙ ap (check_word start) apart.second ∙ split apart.there) in
    let all_here : AreBytes apart.here = back_bytes apart.before apart.here (prefix_bytes (apart.before ++ apart.here) apart.after (subst AreBytes apart.first first)) in
    let all_there : AreBytes apart.there = back_bytes apart.before apart.there (prefix_bytes (apart.before ++ apart.there) apart.after (subst AreBytes apart.second second)) in
    apart.differ (few_apart word apart.here apart.there fits all_here all_there apart.long apart.few middle)

-- two bytes follow a word and come to 0 exactly where they are that word
pub sealed_word : (word : ℕ) (seal : List ℕ) → word < 2 ^ 16 → AreBytes seal → length seal ≡ 2 → (seal ≡ to_le_bytes w16 word) ↔ (check_word word seal ≡ 0)
sealed_word word [] small all long = absurd (omega arith)
sealed_word word (a ∷ []) small all long = absurd (omega arith)
sealed_word word (a ∷ b ∷ c ∷ seal) small all long = absurd (omega arith)
sealed_word word (a ∷ b ∷ []) small all long =
    let seal : List ℕ = a ∷ b ∷ [] in
    let turned : check_word word seal ≡ halves 8 (halves 8 (bit_xor word (b * 2 ^ 8 + a))) = two_bytes word a b all.0 all.1.0 in
    let number : b * 2 ^ 8 + a < 2 ^ 16 = low_high a b all.0 all.1.0 in
    let small_xor : bit_xor word (b * 2 ^ 8 + a) < 2 ^ 16 = xor_lt 16 word (b * 2 ^ 8 + a) small number in (
      λ is. turned ∙ ap (λ n. halves 8 (halves 8 (bit_xor word n))) (as_number a b ∙ ap (from_le_bytes w16) is ∙ from_le_bytes-to_le_bytes_2 word small)
          ∙ ap (λ n. halves 8 (halves 8 n)) (xor_self word) ∙ ap (halves 8) (halves_of_none 8) ∙ halves_of_none 8,
      λ none.
          let same : word ≡ b * 2 ^ 8 + a =
          xor_apart word (b * 2 ^ 8 + a) (halves_none 8 (bit_xor word (b * 2 ^ 8 + a)) small_xor
          (halves_none 8 (halves 8 (bit_xor word (b * 2 ^ 8 + a))) (halves_fit 8 (bit_xor word (b * 2 ^ 8 + a)) small_xor) (sym turned ∙ none))) in
          sym (le_bytes_2 seal word refl (byte_below seal all) (same ∙ as_number a b)),
    )
  where
    low_high : (a b : ℕ) → a < 2 ^ 8 → b < 2 ^ 8 → b * 2 ^ 8 + a < 2 ^ 16
    low_high a b h g = omega arith

    as_number : (a b : ℕ) → b * 2 ^ 8 + a ≡ from_le_bytes w16 (a ∷ b ∷ [])
    as_number a b = omega arith

pub sealed_is_zero : SealedIsZero
sealed_is_zero start bytes seal small _ all long =
    let of_word : (seal ≡ to_le_bytes w16 (check_word start bytes)) ↔ (check_word (check_word start bytes) seal ≡ 0) =
    sealed_word (check_word start bytes) seal (check_word_fits start bytes small) all long in
    (λ is. check_word_append start bytes seal ∙ of_word.0 is, λ none. of_word.1 (sym (check_word_append start bytes seal) ∙ none))

pub damage_under_seal_shows : DamageUnderSealShows
damage_under_seal_shows start prefix body seal other word small all_prefix all_body all_seal all_other all_word long long_too apart is is_too =
    let begun : ℕ = check_word start prefix in
    let split : (a b : List ℕ) → check_word begun (a ++ b) ≡ check_word start ((prefix ++ a) ++ b) =
    λ a b. sym (check_word_append start prefix (a ++ b)) ∙ ap (check_word start) (sym (append_assoc prefix a b)) in
    let none : check_word begun (body ++ seal) ≡ 0 =
    split body seal ∙ (sealed_is_zero start (prefix ++ body) seal small (both_bytes prefix body all_prefix all_body) all_seal long).0 is in
    let none_too : check_word begun (other ++ word) ≡ 0 =
    split other word ∙ (sealed_is_zero start (prefix ++ other) word small (both_bytes prefix other all_prefix all_other) all_word long_too).0 is_too in
    short_damage_shows begun (body ++ seal) (other ++ word) (check_word_fits start prefix small) (both_bytes body seal all_body all_seal) (both_bytes other word all_other all_word)
    apart (none ∙ sym none_too)
