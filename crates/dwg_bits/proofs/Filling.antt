-- Bytes that are filled up by zero bits, and more bits after those they hold.
use Rattle.std.proofs.Common.{◌≡◌, refl, sym, ◌∙◌, ap, ap₂, subst, ℕ, zero, suc, ◌+◌, ◌-◌, ◌*◌, ◌/◌, ◌%◌, ◌^◌, ◌<◌, ◌≤◌, ◌≢◌, Bool, false, List, [], ◌∷◌, ◌++◌, length, take, drop, set, get_or, replicate, arith, pow-suc, mod-eq_of_lt}
use Rattle.std.specs.Prelude.{bit_or, ◌==◌}
use Rattle.std.proofs.lemmas.Nat.Bits.{bit_at-zero}
use Rattle.std.specs.Int.{byte_at, bytes_high_first}
use Rattle.std.proofs.Math.Seq.{take-append-add}
use Rattle.std.proofs.Math.Nat.{pow-le-pow_right, div-lt_iff_lt-mul}
use Rattle.std.proofs.lemmas.Nat.{or_shifted, pow-add, pow_pos, mod-mul-add, div-mul-add, div-add-mod', mod_below, shl-shr}
use Rattle.std.proofs.lemmas.List.{length-append, length-replicate, append_assoc, take_at, drop_at, set_at, append-nil, take-append-drop, length-take-le, take_all, take_more, take-replicate}
use Rattle.dwg_bits.specs.Bits.{low_bits, bits, num}
use Rattle.dwg_bits.proofs.BitLaws.{length_of_low_bits, num_of_low_bits, low_bits_joined, low_bits_split, low_bits_of_sum, low_bits_of_remainder, length_of_bits, bits_joined, bits_more, length_of_bits_between, bits_between_all}
use Rattle.dwg_bits.specs.Cursor.{bits_between}
use Rattle.dwg_bits.specs.Sink.{missing_bits, padding}
use Rattle.dwg_bits.specs.Filled.{AreFilled, HoldsMore}
use Rattle.dwg_bits.proofs.WordParts.{shifted_fits}

-- the first bits of bytes, where their bits begin with a list of that length
pub begins : (bytes : List ℕ) (prefix rest : List Bool) (count : ℕ) → length prefix ≡ count → bits bytes ≡ prefix ++ rest → bits_between bytes 0 count ≡ prefix
unfolding bits_between
begins bytes prefix rest count long whole =
    let all : count - 0 ≡ count = omega arith in
    ap (λ n. take n (bits bytes)) all ∙ ap (take count) whole ∙ take_at prefix rest count long

-- the bits that are held are as many as they are counted
pub length_held : (bytes : List ℕ) (count : ℕ) → AreFilled bytes count → length (bits_between bytes 0 count) ≡ count
length_held bytes count filled = length_of_bits_between bytes 0 count (omega (arith, filled.whole)) ∙ omega arith

-- bytes whose bits are those held, more, and zero bits up to a whole byte
pub holds_more : (old new : List ℕ) (count rest : ℕ) (more : List Bool) → AreFilled old count → missing_bits (count + length more) ≡ rest
    → bits new ≡ bits_between old 0 count ++ (more ++ replicate rest false) → HoldsMore old new count more
holds_more old new count rest more filled left whole =
    let held : List Bool = bits_between old 0 count in
    let split : bits new ≡ (held ++ more) ++ replicate rest false = whole ∙ sym (append_assoc held more (replicate rest false)) in
    let long : length (held ++ more) ≡ count + length more = length-append held more ∙ ap (λ n. n + length more) (length_held old count filled) in
    let prefix : bits_between new 0 (count + length more) ≡ held ++ more = begins new _ _ (count + length more) long split in
    record {
      bits = prefix;
      filled =
          record {
            whole = omega (arith, left, long, sym (length_of_bits new) ∙ ap length split, length-append (held ++ more) (replicate rest false), length-replicate rest false);
            zeros = split ∙ ap₂ (λ a n. a ++ replicate n false) (sym prefix) (sym left);
          };
    }

-- bytes that are all bits held are filled
pub all_filled : (bytes : List ℕ) (count : ℕ) → count ≡ 8 * length bytes → AreFilled bytes count
all_filled bytes count all =
    let none : 0 ≡ missing_bits count = omega arith in
    record {
      whole = omega arith;
      zeros = sym (append-nil (bits bytes)) ∙ ap₂ (λ held n. held ++ replicate n false) (sym (bits_between_all bytes count all)) none;
    }

-- no bits are held in no bytes
pub none_filled : (bytes : List ℕ) → bytes ≡ [] → AreFilled bytes 0
none_filled bytes empty = all_filled bytes 0 (omega (arith, ap length empty))

-- a whole count of bytes is all bits
pub all_held : (bytes : List ℕ) (count : ℕ) → AreFilled bytes count → length (bits_between bytes 0 count) % 8 ≡ 0 → bits bytes ≡ bits_between bytes 0 count
all_held bytes count filled even =
    sym (bits_between_all bytes count (omega (arith, filled.whole, length_held bytes count filled)))

-- the zero bits after the bits held are their padding
pub pad_held : (bytes : List ℕ) (count : ℕ) → AreFilled bytes count → bits_between bytes 0 (count + missing_bits count) ≡ bits_between bytes 0 count ++ padding (bits_between bytes 0 count)
pad_held bytes count filled =
    bits_between_all bytes (count + missing_bits count) filled.whole
    ∙ filled.zeros
    ∙ ap (λ n. bits_between bytes 0 count ++ replicate (missing_bits n) false) (sym (length_held bytes count filled))

-- with their padding the bits fill the bytes
pub pad_filled : (bytes : List ℕ) (count : ℕ) → AreFilled bytes count → AreFilled bytes (count + missing_bits count)
pad_filled bytes count filled = all_filled bytes (count + missing_bits count) filled.whole

-- the padding is as long as what is missing
pub length_padding : (held : List Bool) → length (padding held) ≡ missing_bits (length held)
length_padding held = length-replicate (missing_bits (length held)) false

-- the low bits of 0 are zero bits
zero_bits : (count : ℕ) → low_bits count 0 ≡ replicate count false
unfolding low_bits
zero_bits zero = refl
zero_bits (suc count) = ap₂ (λ bit rest. (bit == 1) ∷ rest) (bit_at-zero count) (zero_bits count)

-- zero bits spell 0
zeros_spell : (count : ℕ) → num (replicate count false) ≡ 0
unfolding num
zeros_spell zero = refl
zeros_spell (suc count) = ap (λ n. 0 + n) (zeros_spell count)

-- a number shifted up has its bits, and zero bits after them
shifted_bits : (count up value : ℕ) → low_bits (count + up) (value * 2 ^ up) ≡ low_bits count value ++ replicate up false
shifted_bits count up value =
    let none : value * 2 ^ up ≡ value * 2 ^ up + 0 = omega arith in
    low_bits_joined count up (value * 2 ^ up)
    ∙ ap₂ (λ high low. low_bits count high ++ low) (shl-shr value up) (ap (low_bits up) none ∙ low_bits_of_sum up value up 0 (omega arith) ∙ zero_bits up)

-- the bits of the bytes of a number are its low bits
bits_of_high_first : (count number : ℕ) → bits (bytes_high_first count number) ≡ low_bits (8 * count) number
unfolding bits low_bits
bits_of_high_first zero number = refl
bits_of_high_first (suc count) number =
    let wide : 8 * suc count ≡ 8 + 8 * count = omega arith in
    ap₂ ◌++◌ (low_bits_of_byte count number) (bits_of_high_first count number) ∙ sym (low_bits_joined 8 (8 * count) number) ∙ ap (λ n. low_bits n number) (sym wide)
  where
    powers : (n : ℕ) → 256 ^ n ≡ 2 ^ (8 * n)
    powers zero = refl
    powers (suc n) =
        let more : 8 * suc n ≡ 8 * n + 8 = omega arith in
        pow-suc 256 n ∙ ap (λ p. p * 256) (powers n) ∙ sym (ap (λ k. 2 ^ k) more ∙ pow-add 2 (8 * n) 8)

    low_bits_of_byte : (n x : ℕ) → low_bits 8 (byte_at n x) ≡ low_bits 8 (x / 2 ^ (8 * n))
    low_bits_of_byte zero x = low_bits_of_remainder 8 x ∙ ap (low_bits 8) (omega arith)
    low_bits_of_byte (suc n) x = low_bits_of_remainder 8 (x / 256 ^ suc n) ∙ ap (λ p. low_bits 8 (x / p)) (powers (suc n))

-- the bits of the first of bytes are the first of their bits
bits_of_first : (bytes : List ℕ) (count : ℕ) → count ≤ length bytes → bits (take count bytes) ≡ take (8 * count) (bits bytes)
bits_of_first bytes count within =
    let long : length (bits (take count bytes)) ≡ 8 * count = length_of_bits (take count bytes) ∙ ap (λ n. 8 * n) (length-take-le count bytes within) in
    sym (ap (take (8 * count)) (ap bits (sym (take-append-drop count bytes)) ∙ bits_joined (take count bytes) (drop count bytes)) ∙ take_at (bits (take count bytes)) (bits (drop count bytes)) (8 * count) long)

-- the first bytes of a number that is shifted up to a word's end
pub word_bits : (value width count : ℕ) → width ≤ 64 → 8 * count ≡ width + missing_bits width
    → bits (take count (bytes_high_first 8 (value * 2 ^ (64 - width) % 2 ^ 64))) ≡ low_bits width value ++ replicate (missing_bits width) false
word_bits value width count most whole =
    let up : ℕ = 64 - width in
    let missing : ℕ = missing_bits width in
    let all : width + up ≡ 64 = omega arith in
    let shifted : low_bits 64 (value * 2 ^ up % 2 ^ 64) ≡ low_bits width value ++ replicate up false =
    low_bits_of_remainder 64 (value * 2 ^ up) ∙ ap (λ n. low_bits n (value * 2 ^ up)) (sym all) ∙ shifted_bits width up value in
    let long : 8 * count ≡ length (low_bits width value) + missing = whole ∙ ap (λ n. n + missing) (sym (length_of_low_bits width value)) in
    bits_of_first (bytes_high_first 8 (value * 2 ^ up % 2 ^ 64)) count (omega arith)
    ∙ ap (take (8 * count)) (bits_of_high_first 8 (value * 2 ^ up % 2 ^ 64) ∙ shifted)
    ∙ ap (λ n. take n (low_bits width value ++ replicate up false)) long
    ∙ take-append-add (low_bits width value) (replicate up false) missing
    ∙ ap (λ rest. low_bits width value ++ rest) (take-replicate missing up false (omega arith))

-- appended to whole bytes
pub bits_appended : (old new more : List ℕ) (value width count : ℕ) → width ≤ 64 → count ≡ (width + 7) / 8 → more ≡ take count (bytes_high_first 8 (value * 2 ^ (64 - width) % 2 ^ 64)) → new ≡ old ++ more
    → bits new ≡ bits old ++ (low_bits width value ++ replicate (missing_bits width) false)
bits_appended old new more value width count most whole is grown =
    ap bits grown ∙ bits_joined old more ∙ ap (λ rest. bits old ++ rest) (ap bits is ∙ word_bits value width count most (omega arith))

-- in the byte that is begun, zero bits stand after those held: a number that fits there takes their place
pub byte_completed : (bytes : List ℕ) (count low last byte : ℕ) → AreFilled bytes count → count % 8 ≢ 0 → low < 2 ^ missing_bits count → last + 1 ≡ length bytes → byte ≡ get_or bytes last 0
    → bits (set bytes last (bit_or byte low)) ≡ bits_between bytes 0 count ++ low_bits (missing_bits count) low
byte_completed bytes count low last byte filled begun fits ends here =
    let free : ℕ = missing_bits count in
    let used : ℕ = 8 - free in
    let prefix : List ℕ = take last bytes in
    let high : ℕ = byte / 2 ^ free in
    let held : List Bool = bits prefix ++ low_bits used high in
    let eight : used + free ≡ 8 = omega arith in
    let long : length held ≡ count =
    length-append (bits prefix) (low_bits used high) ∙ ap₂ ◌+◌ (length_of_bits prefix ∙ ap (λ n. 8 * n) (length-take-le last bytes (omega arith))) (length_of_low_bits used high) ∙ omega (arith, filled.whole) in
    let split : bytes ≡ prefix ++ byte ∷ [] =
    sym (take_all (last + 1) bytes (omega arith)) ∙ take_more bytes last 0 (omega arith) ∙ ap (λ b. prefix ++ b ∷ []) (sym here) in
    let cut : bits bytes ≡ held ++ low_bits free (byte % 2 ^ free) = ap bits split ∙ with_last prefix byte used free eight in
    let same : bits_between bytes 0 count ≡ held = begins bytes held _ count long cut in
    let zeros : low_bits free (byte % 2 ^ free) ≡ replicate free false =
    sym (drop_at held (low_bits free (byte % 2 ^ free)) count long) ∙ ap (drop count) (sym cut ∙ filled.zeros)
    ∙ drop_at (bits_between bytes 0 count) (replicate free false) count (length_held bytes count filled) in
    let empty : byte % 2 ^ free ≡ 0 = sym (num_of_low_bits free (byte % 2 ^ free) (mod_below byte (2 ^ free) (pow_pos free))) ∙ ap num zeros ∙ zeros_spell free in
    let joined : bit_or byte low ≡ high * 2 ^ free + low =
    ap (λ b. bit_or b low) (sym (div-add-mod' byte (2 ^ free)) ∙ ap (λ r. high * 2 ^ free + r) empty ∙ omega arith) ∙ or_shifted high free low fits in
    ap (λ xs. bits (set xs last (bit_or byte low))) split
    ∙ ap bits (set_at prefix byte [] (bit_or byte low) last (length-take-le last bytes (omega arith)))
    ∙ ap (λ b. bits (prefix ++ b ∷ [])) joined
    ∙ with_last prefix (high * 2 ^ free + low) used free eight
    ∙ ap₂ (λ q r. (bits prefix ++ low_bits used q) ++ low_bits free r) (div-mul-add high (2 ^ free) low fits) (mod-mul-add high (2 ^ free) low fits)
    ∙ ap (λ first. first ++ low_bits free low) (sym same)
  where
    with_last : (prefix : List ℕ) (byte used free : ℕ) → used + free ≡ 8 → bits (prefix ++ byte ∷ []) ≡ (bits prefix ++ low_bits used (byte / 2 ^ free)) ++ low_bits free (byte % 2 ^ free)
    with_last prefix byte used free eight =
        bits_more prefix byte ∙ ap (λ rest. bits prefix ++ rest) (ap (λ n. low_bits n byte) (sym eight) ∙ low_bits_split used free byte)
        ∙ sym (append_assoc (bits prefix) (low_bits used (byte / 2 ^ free)) (low_bits free (byte % 2 ^ free)))

-- nothing is put after them
pub none_put : (old : List ℕ) (count value width : ℕ) → AreFilled old count → width ≡ 0 → HoldsMore old old count (low_bits width value)
unfolding low_bits
none_put old count value width filled none =
    let missing : missing_bits (count + length (low_bits width value)) ≡ missing_bits count = omega (arith, length_of_low_bits width value) in
    let empty : low_bits width value ≡ [] = ap (λ n. low_bits n value) none ∙ no_low_bits value in
    holds_more old old count (missing_bits count) (low_bits width value) filled missing
    (filled.zeros ∙ ap (λ more. bits_between old 0 count ++ (more ++ replicate (missing_bits count) false)) (sym empty))
  where
    no_low_bits : (n : ℕ) → low_bits 0 n ≡ []
    no_low_bits n = refl

-- whole bytes, and what is appended
pub all_appended : (old new : List ℕ) (count value width : ℕ) → AreFilled old count → count % 8 ≡ 0 → bits new ≡ bits old ++ (low_bits width value ++ replicate (missing_bits width) false)
    → HoldsMore old new count (low_bits width value)
all_appended old new count value width filled even is =
    let missing : missing_bits (count + length (low_bits width value)) ≡ missing_bits width = omega (arith, length_of_low_bits width value) in
    holds_more old new count (missing_bits width) (low_bits width value) filled missing
    (is ∙ ap (λ prefix. prefix ++ (low_bits width value ++ replicate (missing_bits width) false)) (sym (bits_between_all old count (omega (arith, filled.whole)))))

-- what a byte that is begun takes is less than a byte
pub byte_at_most : (k : ℕ) → k < 8 → 2 ^ k ≤ 2 ^ 7
byte_at_most k h = raised k 7 (omega arith)
  where
    raised : (i j : ℕ) → i ≤ j → 2 ^ i ≤ 2 ^ j
    raised i j h = pow-le-pow_right (omega arith) h

-- so no bit of it leaves the word
pub raised_whole : (value width up free : ℕ) → width + up ≡ free → free < 8 → value < 2 ^ width → value * 2 ^ up % 2 ^ 64 ≡ value * 2 ^ up
raised_whole value width up free whole few fits =
    mod-eq_of_lt (omega (arith, shifted_fits value width up free fits whole, byte_at_most free few))

-- what the byte that is begun takes of a longer number fits there
pub highest_fits : (value width free left : ℕ) → free + left ≡ width → value < 2 ^ width → value / 2 ^ left < 2 ^ free
highest_fits value width free left whole fits =
    (div-lt_iff_lt-mul (pow_pos left)).1 (subst (λ (p : ℕ). value < p) (ap (λ n. 2 ^ n) (sym whole) ∙ pow-add 2 free left) fits)

-- what fits into the byte that is begun
pub all_completed : (old new : List ℕ) (count value width up low : ℕ) → AreFilled old count → width + up ≡ missing_bits count → width ≢ 0 → low ≡ value * 2 ^ up
    → bits new ≡ bits_between old 0 count ++ low_bits (missing_bits count) low → HoldsMore old new count (low_bits width value)
all_completed old new count value width up low filled fits some is put =
    let missing : missing_bits (count + length (low_bits width value)) ≡ up = omega (arith, length_of_low_bits width value) in
    holds_more old new count up (low_bits width value) filled missing
    (put ∙ ap (λ rest. bits_between old 0 count ++ rest) (ap₂ low_bits (sym fits) is ∙ shifted_bits width up value))

-- what completes the byte that is begun, and what is appended
pub both_put : (old mid new : List ℕ) (count value width left : ℕ) → AreFilled old count → count % 8 ≢ 0 → missing_bits count + left ≡ width
    → bits mid ≡ bits_between old 0 count ++ low_bits (missing_bits count) (value / 2 ^ left) → bits new ≡ bits mid ++ (low_bits left value ++ replicate (missing_bits left) false)
    → HoldsMore old new count (low_bits width value)
both_put old mid new count value width left filled begun whole first after =
    let free : ℕ = missing_bits count in
    let zeros : List Bool = replicate (missing_bits left) false in
    let high : List Bool = low_bits free (value / 2 ^ left) in
    let missing : missing_bits (count + length (low_bits width value)) ≡ missing_bits left = omega (arith, whole, length_of_low_bits width value) in
    holds_more old new count (missing_bits left) (low_bits width value) filled missing
    (after ∙ ap (λ prefix. prefix ++ (low_bits left value ++ zeros)) first
    ∙ append_assoc (bits_between old 0 count) high (low_bits left value ++ zeros)
    ∙ ap (λ rest. bits_between old 0 count ++ rest)
    (sym (append_assoc high (low_bits left value) zeros) ∙ ap (λ prefix. prefix ++ zeros) (sym (low_bits_joined free left value) ∙ ap (λ n. low_bits n value) whole)))
