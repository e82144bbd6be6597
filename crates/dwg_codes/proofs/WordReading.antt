-- Words of bytes, the least significant byte first, read and written at once.
use Rattle.std.proofs.Common.{◌≡◌, refl, sym, ◌∙◌, ap, ap₂, subst, ℕ, zero, suc, ◌+◌, ◌*◌, ◌/◌, ◌^◌, ◌<◌, Bool, List, [], ◌∷◌, ◌++◌, length, Option, Some, None, arith}
use Rattle.std.specs.Int.{Width, byte_at, bytes_high_first, from_le_bytes, to_le_bytes}
use Rattle.std.proofs.Math.Nat.{pow-suc}
use Rattle.std.proofs.lemmas.Nat.{pow-add}
use Rattle.std.proofs.lemmas.List.{length-append}
use Rattle.dwg_base.specs.Bytes.{AreBytes}
use Rattle.dwg_bits.specs.Bits.{low_bits, bits}
use Rattle.dwg_bits.proofs.BitLaws.{length_of_low_bits, num_of_low_bits, low_bits_joined, low_bits_of_remainder}
use Rattle.dwg_bits.specs.Sink.{Written, Extends}
use Rattle.dwg_grammar.specs.Grammar.{Grammar, Reads}
use Rattle.dwg_grammar.specs.Combinators.{image, items, chain, SpellsChain}
use Rattle.dwg_grammar.specs.Codes.{rc}
use Rattle.dwg_grammar.proofs.ByteRunLemmas.{short_of_bytes}
use Rattle.dwg_codes.proofs.FixedReading.{none_read}

-- the bytes of a number are bytes
bytes_fit : (count value : ℕ) → AreBytes (bytes_high_first count value)
bytes_fit zero value = tt
bytes_fit (suc zero) value = (omega arith, tt)
bytes_fit (suc (suc count)) value = (omega arith, bytes_fit (suc count) value)

-- they are as many as asked
bytes_counted : (count value : ℕ) → length (bytes_high_first count value) ≡ count
bytes_counted zero value = refl
bytes_counted (suc count) value = ap suc (bytes_counted count value)

-- the weight of a byte, by its bits
bytes_weight : (count : ℕ) → 2 ^ (8 * count) ≡ 256 ^ count
bytes_weight zero = refl
bytes_weight (suc count) =
    let more : 8 * suc count ≡ 8 + 8 * count = omega arith in
    ap (λ n. 2 ^ n) more ∙ pow-add 2 8 (8 * count) ∙ ap (λ n. 256 * n) (bytes_weight count) ∙ omega (arith, pow-suc 256 count)

-- a byte's bits
byte_bits : (count value : ℕ) → low_bits 8 (value / 2 ^ (8 * count)) ≡ low_bits 8 (byte_at count value)
byte_bits zero value = ap (low_bits 8) (omega arith) ∙ sym (low_bits_of_remainder 8 value)
byte_bits (suc count) value =
    ap (λ weight. low_bits 8 (value / weight)) (bytes_weight (suc count)) ∙ sym (low_bits_of_remainder 8 (value / 256 ^ suc count))

-- the low bits of a number are those of its bytes
bits_of_bytes : (count value : ℕ) → low_bits (8 * count) value ≡ bits (bytes_high_first count value)
unfolding low_bits bits
bits_of_bytes zero value = refl
bits_of_bytes (suc count) value =
    let more : 8 * suc count ≡ 8 + 8 * count = omega arith in
    ap (λ n. low_bits n value) more
    ∙ low_bits_joined 8 (8 * count) value
    ∙ ap₂ (λ prefix rest. prefix ++ rest) (byte_bits count value) (bits_of_bytes count value)

-- bytes are spelled by their bits
pub bytes_spelled : (state : ℕ) (bytes : List ℕ) → AreBytes bytes → SpellsChain (λ (state : ℕ). rc) (λ value. 0) state bytes (bits bytes)
unfolding bits
bytes_spelled state [] fit = refl
bytes_spelled state (byte ∷ bytes) fit =
    (low_bits 8 byte, bits bytes, (length_of_low_bits 8 byte, sym (num_of_low_bits 8 byte fit.0)), bytes_spelled 0 bytes fit.1, refl)

-- what spells bytes has eight bits for each
pub spelling_counted : (state : ℕ) (bytes : List ℕ) (letters : List Bool) → SpellsChain (λ (state : ℕ). rc) (λ value. 0) state bytes letters → length letters ≡ 8 * length bytes
spelling_counted state [] letters spelled = ap length spelled
spelling_counted state (byte ∷ bytes) letters (prefix, back, first, others, same) =
    omega (arith, first.0, spelling_counted 0 bytes back others, ap length same, length-append prefix back)

-- so many bytes, the least significant first
abbrev pub word_code : Width → ℕ → Grammar Bool ℕ
word_code w count = image (λ value. value < 2 ^ (8 * count)) (from_le_bytes w) (to_le_bytes w) (items rc count)

-- the bits taken as a number spell what its bytes are seen as
pub word_read : (w : Width) (count word value : ℕ) (old new : List Bool)
    → value ≡ from_le_bytes w (bytes_high_first count word) → old ≡ low_bits (8 * count) word ++ new → Reads (word_code w count) (Some value) old new
unfolding chain
word_read w count word value old new seen taken =
    let bytes : List ℕ = bytes_high_first count word in
    (bits bytes, (bytes, seen, (bytes_counted count word, bytes_spelled 0 bytes (bytes_fit count word))), taken ∙ ap (λ prefix. prefix ++ new) (bits_of_bytes count word))

-- what spells a word has eight bits for each of its bytes
word_counted : (w : Width) (count value : ℕ) (prefix : List Bool) → (word_code w count).Spells value prefix → length prefix ≡ 8 * count
unfolding chain
word_counted w count value prefix (bytes, seen, counted) = spelling_counted 0 bytes prefix counted.1 ∙ ap (λ n. 8 * n) counted.0

-- fewer bits than a word's begin with no spelling of it
pub word_unread : (w : Width) (count : ℕ) (result : Option ℕ) (old new : List Bool)
    → result ≡ None → length old < 8 * count → new ≡ old → Reads (word_code w count) result old new
word_unread w count result old new none short same =
    subst (λ (read : Option ℕ). Reads (word_code w count) read old new) (sym none)
    (none_read (word_code w count) (8 * count) old new (word_counted w count) short same)

-- a word is written by the bits of the number that its bytes are, the first of them highest
pub word_written : (count word : ℕ) (bytes : List ℕ) (old new : Written) → bytes_high_first count word ≡ bytes
    → Extends old new (low_bits (8 * count) word) → Extends old new ((items rc count).short bytes)
unfolding chain
word_written count word bytes old new same pushed =
    subst (Extends old new) (bits_of_bytes count word ∙ ap bits same ∙ sym (short_of_bytes bytes)) pushed
