-- Whole bytes and their bits follow from each other, also where bytes are joined.
use Rattle.std.proofs.Common.{◌≡◌, refl, sym, ◌∙◌, ap, ap₂, ℕ, ◌*◌, ◌%◌, Bool, List, [], ◌∷◌, ◌++◌, length, length-append, arith}
use Rattle.dwg_base.specs.Bytes.{AreBytes}
use Rattle.dwg_base.proofs.ByteLists.{joined_are_bytes}
use Rattle.dwg_bits.specs.Bits.{bits}
use Rattle.dwg_bits.proofs.BitLaws.{low_bits_of_num, num_fits, length_of_bits, bits_joined, bits_same}
use Rattle.dwg_bits.specs.WholeBytes.{whole_bytes}

-- they are bytes
pub whole_are_bytes : (s : List Bool) → AreBytes (whole_bytes s)
unfolding whole_bytes
whole_are_bytes (a ∷ b ∷ c ∷ d ∷ e ∷ f ∷ g ∷ h ∷ rest) = (num_fits (a ∷ b ∷ c ∷ d ∷ e ∷ f ∷ g ∷ h ∷ []), whole_are_bytes rest)
whole_are_bytes _ = tt

-- whole bytes have just these bits
pub bits_of_whole : (s : List Bool) → length s % 8 ≡ 0 → bits (whole_bytes s) ≡ s
unfolding whole_bytes bits
bits_of_whole [] whole = refl
bits_of_whole (a ∷ b ∷ c ∷ d ∷ e ∷ f ∷ g ∷ h ∷ rest) whole =
    let less : length rest % 8 ≡ 0 = omega arith in
    ap₂ (λ prefix back. prefix ++ back) (low_bits_of_num (a ∷ b ∷ c ∷ d ∷ e ∷ f ∷ g ∷ h ∷ [])) (bits_of_whole rest less)
bits_of_whole _ whole = absurd (omega arith)

-- bytes are those of their bits
pub whole_of_bits : (bytes : List ℕ) → AreBytes bytes → whole_bytes (bits bytes) ≡ bytes
whole_of_bits bytes all =
    let whole : length (bits bytes) % 8 ≡ 0 = omega (arith, length_of_bits bytes) in
    bits_same (whole_bytes (bits bytes)) bytes (whole_are_bytes (bits bytes)) all (bits_of_whole (bits bytes) whole)

-- whole bytes are as many as an eighth of their bits
pub length_of_whole : (s : List Bool) → length s % 8 ≡ 0 → length s ≡ 8 * length (whole_bytes s)
length_of_whole s whole = sym (ap length (bits_of_whole s whole)) ∙ length_of_bits (whole_bytes s)

-- the bits of bytes after whole bytes make these bytes after those
pub whole_joined : (s : List Bool) (bytes : List ℕ) → length s % 8 ≡ 0 → AreBytes bytes → whole_bytes (s ++ bits bytes) ≡ whole_bytes s ++ bytes
whole_joined s bytes whole all =
    bits_same (whole_bytes (s ++ bits bytes)) (whole_bytes s ++ bytes) (whole_are_bytes (s ++ bits bytes)) (joined_are_bytes (whole_bytes s) bytes (whole_are_bytes s) all)
    (bits_of_whole (s ++ bits bytes) (omega (arith, whole, length-append s (bits bytes), length_of_bits bytes))
    ∙ ap (λ prefix. prefix ++ bits bytes) (sym (bits_of_whole s whole)) ∙ sym (bits_joined (whole_bytes s) bytes))
