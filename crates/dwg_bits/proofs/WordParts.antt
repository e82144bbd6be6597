-- Numbers read from words and bytes: what shifts make of eight bytes, or of one, is what the bits of a part of them spell.
use Rattle.std.proofs.Common.{◌≡◌, refl, sym, ◌∙◌, ap, ap₂, subst, ℕ, ◌+◌, ◌-◌, ◌*◌, ◌/◌, ◌%◌, ◌^◌, ◌<◌, ◌≤◌, Bool, List, [], ◌∷◌, ◌++◌, length, take, drop, get_or, arith, drop-cons, add-one, mod-eq_of_lt, length-drop, w64, mul-lt-mul_of_pos_right}
use Rattle.std.proofs.lemmas.Nat.{or_shifted, pow-add, pow_pos, mod-mul-add, div-mul-add}
use Rattle.std.proofs.Math.Nat.{pow-le-pow_right}
use Rattle.std.proofs.lemmas.List.{length-append, take-append-drop, take_at, drop_at, length-take-le}
use Rattle.std.specs.Prelude.{bit_or}
use Rattle.std.specs.Int.{from_be_bytes}
use Rattle.dwg_bits.specs.Bits.{low_bits, bits, num}
use Rattle.dwg_bits.specs.Cursor.{bits_between}
use Rattle.dwg_bits.proofs.BitLaws.{length_of_bits, length_of_bits_between, run_counted, bits_between_joined, bits_between_none, num_of_low_bits, num_joined, num_fits, bits_joined}

-- a number shifted up, and one that fits below
pub joined_number : (prefix after count : ℕ) → prefix * 2 ^ count < 2 ^ 64 → after < 2 ^ count → bit_or (prefix * 2 ^ count % 2 ^ 64) after ≡ prefix * 2 ^ count + after
joined_number prefix after count fits below =
    ap (λ high. bit_or high after) (mod-eq_of_lt fits) ∙ or_shifted prefix count after below

-- the bits of a run of whole bytes among others
pub bits_of_run : (bytes : List ℕ) (at count : ℕ) → at + count ≤ length bytes → bits_between bytes (8 * at) (8 * at + 8 * count) ≡ bits (take count (drop at bytes))
unfolding bits_between
bits_of_run bytes at count within =
    let prefix : List ℕ = take at bytes in
    let run : List ℕ = take count (drop at bytes) in
    let after : List ℕ = drop count (drop at bytes) in
    let long : length (bits prefix) ≡ 8 * at = length_of_bits prefix ∙ ap (λ n. 8 * n) (length-take-le at bytes (omega arith)) in
    let width : length (bits run) ≡ 8 * at + 8 * count - 8 * at = length_of_bits run ∙ ap (λ n. 8 * n) (length-take-le count (drop at bytes) (omega (arith, length-drop at bytes))) ∙ omega arith in
    let rest : drop (8 * at) (bits bytes) ≡ bits (drop at bytes) =
    ap (λ all. drop (8 * at) (bits all)) (sym (take-append-drop at bytes)) ∙ ap (drop (8 * at)) (bits_joined prefix (drop at bytes)) ∙ drop_at (bits prefix) (bits (drop at bytes)) (8 * at) long in
    let cut : bits (drop at bytes) ≡ bits run ++ bits after = ap bits (sym (take-append-drop count (drop at bytes))) ∙ bits_joined run after in
    ap (take (8 * at + 8 * count - 8 * at)) (rest ∙ cut) ∙ take_at (bits run) (bits after) (8 * at + 8 * count - 8 * at) width

-- a byte before others, as numbers
pub byte_before : (byte : ℕ) (bytes : List ℕ) → byte < 256 → num (bits (byte ∷ bytes)) ≡ byte * 2 ^ (8 * length bytes) + num (bits bytes)
unfolding bits
byte_before byte bytes h =
    num_joined (low_bits 8 byte) (bits bytes) ∙ ap₂ (λ v n. v * 2 ^ n + num (bits bytes)) (num_of_low_bits 8 byte h) (length_of_bits bytes)

-- a number shifted up is below a power of two as much higher
pub shifted_fits : (x k m w : ℕ) → x < 2 ^ k → k + m ≡ w → x * 2 ^ m < 2 ^ w
shifted_fits x k m w h e = subst (λ (p : ℕ). x * 2 ^ m < p) (sym (pow-add 2 k m) ∙ ap (λ n. 2 ^ n) e) (mul-lt-mul_of_pos_right h (pow_pos m))

-- a part in the middle of so many bits: shifting up drops what is before it, and shifting down what is after it
pub middle_of : (a b c : List Bool) (width : ℕ) → length a + (length b + length c) ≡ width → num (a ++ (b ++ c)) * 2 ^ length a % 2 ^ width / 2 ^ (width - length b) ≡ num b
middle_of a b c width whole =
    let m : ℕ = length a in
    let n : ℕ = length c in
    let both : ℕ = length b + n in
    let low : ℕ = num (b ++ c) in
    let fits : low < 2 ^ both = subst (λ (k : ℕ). low < 2 ^ k) (length-append b c) (num_fits (b ++ c)) in
    let up : num (a ++ (b ++ c)) * 2 ^ m ≡ num a * 2 ^ width + low * 2 ^ m =
    ap (λ v. v * 2 ^ m) (num_joined a (b ++ c) ∙ ap (λ k. num a * 2 ^ k + low) (length-append b c))
    ∙ spread (num a) (2 ^ both) low (2 ^ m) ∙ ap (λ p. num a * p + low * 2 ^ m) (sym (pow-add 2 both m) ∙ ap (λ k. 2 ^ k) (omega (arith, whole))) in
    let cut : (num a * 2 ^ width + low * 2 ^ m) % 2 ^ width ≡ low * 2 ^ m = mod-mul-add (num a) (2 ^ width) (low * 2 ^ m) (shifted_fits low both m width fits (omega (arith, whole))) in
    let parts : low * 2 ^ m ≡ num b * 2 ^ (n + m) + num c * 2 ^ m =
    ap (λ v. v * 2 ^ m) (num_joined b c) ∙ spread (num b) (2 ^ n) (num c) (2 ^ m) ∙ ap (λ p. num b * p + num c * 2 ^ m) (sym (pow-add 2 n m)) in
    let left : width - length b ≡ n + m = omega (arith, whole) in
    ap₂ (λ v k. v % 2 ^ width / 2 ^ k) up left
    ∙ ap (λ v. v / 2 ^ (n + m)) (cut ∙ parts)
    ∙ div-mul-add (num b) (2 ^ (n + m)) (num c * 2 ^ m) (shifted_fits (num c) n m (n + m) (num_fits c) refl)
  where
    spread : (x p y q : ℕ) → (x * p + y) * q ≡ x * (p * q) + y * q
    spread x p y q = grind arith

-- so of the bits between two places, whose number two shifts cut out of that of a longer run around them
pub part_of_run : (bytes : List ℕ) (first place count last width word : ℕ) → first ≤ place → place + count ≤ last → last ≤ 8 * length bytes → first + width ≡ last
    → word ≡ num (bits_between bytes first last) → word * 2 ^ (place - first) % 2 ^ width / 2 ^ (width - count) ≡ num (bits_between bytes place (place + count))
part_of_run bytes first place count last width word before after within whole is =
    let a : List Bool = bits_between bytes first place in
    let b : List Bool = bits_between bytes place (place + count) in
    let c : List Bool = bits_between bytes (place + count) last in
    let before_it : length a ≡ place - first = length_of_bits_between bytes first place (omega arith) in
    let middle : length b ≡ count = run_counted bytes place count (omega arith) in
    let left : length c ≡ last - (place + count) = length_of_bits_between bytes (place + count) last within in
    let split : bits_between bytes first last ≡ a ++ (b ++ c) =
    sym (bits_between_joined bytes first place last before (omega arith)) ∙ ap (λ rest. a ++ rest) (sym (bits_between_joined bytes place (place + count) last (omega arith) after)) in
    ap₂ (λ v m. v * 2 ^ m % 2 ^ width / 2 ^ (width - count)) (is ∙ ap num split) (sym before_it)
    ∙ ap (λ k. num (a ++ (b ++ c)) * 2 ^ length a % 2 ^ width / 2 ^ (width - k)) (sym middle)
    ∙ middle_of a b c width (omega (arith, before_it, middle, left))

-- so many bits spell a number below that power of two
pub count_fits : (bytes : List ℕ) (place count value : ℕ) → place + count ≤ 8 * length bytes → value ≡ num (bits_between bytes place (place + count)) → value < 2 ^ count
count_fits bytes place count value within is =
    let long : length (bits_between bytes place (place + count)) ≡ count = run_counted bytes place count within in
    subst (λ (v : ℕ). v < 2 ^ count) (sym is) (subst (λ (n : ℕ). num (bits_between bytes place (place + count)) < 2 ^ n) long (num_fits (bits_between bytes place (place + count))))

-- no bytes spell 0
no_bytes : num (bits []) ≡ 0
unfolding num bits
no_bytes = refl

-- a byte is the number of its bits
pub byte_spells : (bytes : List ℕ) (at byte : ℕ) → at < length bytes → byte < 256 → byte ≡ get_or bytes at 0 → byte ≡ num (bits_between bytes (8 * at) (8 * at + 8))
byte_spells bytes at byte within fits is =
    let one : take 1 (drop at bytes) ≡ byte ∷ [] = ap (take 1) (drop-cons bytes at 0 within) ∙ ap (λ b. b ∷ []) (sym is) in
    sym (ap num (bits_of_run bytes at 1 (omega arith) ∙ ap bits one) ∙ byte_before byte [] fits ∙ omega (arith, no_bytes))

-- the bits of one byte
pub part_of_byte : (bytes : List ℕ) (place count byte : ℕ) → place / 8 < length bytes → place % 8 + count ≤ 8 → byte < 256 → byte ≡ get_or bytes (place / 8) 0
    → byte * 2 ^ (place % 8) % 2 ^ 8 / 2 ^ (8 - count) ≡ num (bits_between bytes place (place + count))
part_of_byte bytes place count byte there inside fits is =
    let skip : place - 8 * (place / 8) ≡ place % 8 = omega arith in
    ap (λ m. byte * 2 ^ m % 2 ^ 8 / 2 ^ (8 - count)) (sym skip)
    ∙ part_of_run bytes (8 * (place / 8)) place count (8 * (place / 8) + 8) 8 byte (omega arith) (omega arith) (omega arith) refl (byte_spells bytes (place / 8) byte there fits is)

-- they spell a number below that power of two
pub part_of_byte_fits : (bytes : List ℕ) (place count byte : ℕ) → place / 8 < length bytes → place % 8 + count ≤ 8 → byte < 256 → byte ≡ get_or bytes (place / 8) 0
    → byte * 2 ^ (place % 8) % 2 ^ 8 / 2 ^ (8 - count) < 2 ^ count
part_of_byte_fits bytes place count byte there inside fits is =
    count_fits bytes place count (byte * 2 ^ (place % 8) % 2 ^ 8 / 2 ^ (8 - count)) (omega arith) (part_of_byte bytes place count byte there inside fits is)

-- the bits of eight bytes
pub part_of_word : (bytes : List ℕ) (at place count word : ℕ) → at + 8 ≤ length bytes → 8 * at ≤ place → place + count ≤ 8 * at + 64 → word ≡ num (bits_between bytes (8 * at) (8 * at + 64))
    → word * 2 ^ (place - 8 * at) % 2 ^ 64 / 2 ^ (64 - count) ≡ num (bits_between bytes place (place + count))
part_of_word bytes at place count word there after inside is =
    part_of_run bytes (8 * at) place count (8 * at + 64) 64 word (omega arith) (omega arith) (omega arith) refl is

-- eight bytes, the first of them highest, are the number of their bits
eight_bytes : (a b c d e f g h : ℕ) → a < 256 → b < 256 → c < 256 → d < 256 → e < 256 → f < 256 → g < 256 → h < 256
    → from_be_bytes w64 (a ∷ b ∷ c ∷ d ∷ e ∷ f ∷ g ∷ h ∷ []) ≡ num (bits (a ∷ b ∷ c ∷ d ∷ e ∷ f ∷ g ∷ h ∷ []))
eight_bytes a b c d e f g h p q r s t u v w =
    omega (
      arith,
      byte_before a (b ∷ c ∷ d ∷ e ∷ f ∷ g ∷ h ∷ []) p,
      byte_before b (c ∷ d ∷ e ∷ f ∷ g ∷ h ∷ []) q,
      byte_before c (d ∷ e ∷ f ∷ g ∷ h ∷ []) r,
      byte_before d (e ∷ f ∷ g ∷ h ∷ []) s,
      byte_before e (f ∷ g ∷ h ∷ []) t,
      byte_before f (g ∷ h ∷ []) u,
      byte_before g (h ∷ []) v,
      byte_before h [] w,
      no_bytes,
    )

-- so the word read at a place
pub eight_spell : (bytes : List ℕ) (at : ℕ) → ((i : ℕ) → get_or bytes i 0 < 256) → at + 8 ≤ length bytes
    → from_be_bytes w64 (get_or bytes at 0 ∷ get_or bytes (at + 1) 0 ∷ get_or bytes (at + 2) 0 ∷ get_or bytes (at + 3) 0 ∷ get_or bytes (at + 4) 0 ∷ get_or bytes (at + 5) 0 ∷ get_or bytes (at + 6) 0 ∷ get_or bytes (at + 7) 0 ∷ [])
    ≡ num (bits_between bytes (8 * at) (8 * at + 64))
eight_spell bytes at fits within =
    eight_bytes _ _ _ _ _ _ _ _ (fits at) (fits (at + 1)) (fits (at + 2)) (fits (at + 3)) (fits (at + 4)) (fits (at + 5)) (fits (at + 6)) (fits (at + 7))
    ∙ ap num (ap bits (sym taken) ∙ sym (bits_of_run bytes at 8 within))
  where
    next : (k : ℕ) → k < length bytes → drop k bytes ≡ get_or bytes k 0 ∷ drop (k + 1) bytes
    next k h = rw (add-one, drop-cons bytes k 0)

    further : (k : ℕ) → k < 7 → drop (at + k + 1) bytes ≡ get_or bytes (at + (k + 1)) 0 ∷ drop (at + (k + 1) + 1) bytes
    further k h = let same : at + k + 1 ≡ at + (k + 1) = omega arith in ap (λ n. drop n bytes) same ∙ next (at + (k + 1)) (omega arith)

    taken : take 8 (drop at bytes) ≡ get_or bytes at 0 ∷ get_or bytes (at + 1) 0 ∷ get_or bytes (at + 2) 0 ∷ get_or bytes (at + 3) 0 ∷ get_or bytes (at + 4) 0 ∷ get_or bytes (at + 5) 0 ∷ get_or bytes (at + 6) 0 ∷ get_or bytes (at + 7) 0 ∷ []
    taken =
        ap (take 8) (next at (omega arith)
        ∙ ap (λ xs. get_or bytes at 0 ∷ xs) (next (at + 1) (omega arith)
        ∙ ap (λ xs. get_or bytes (at + 1) 0 ∷ xs) (further 1 (omega arith) ∙ ap (λ xs. get_or bytes (at + 2) 0 ∷ xs) (further 2 (omega arith)
        ∙ ap (λ xs. get_or bytes (at + 3) 0 ∷ xs) (further 3 (omega arith) ∙ ap (λ xs. get_or bytes (at + 4) 0 ∷ xs) (further 4 (omega arith)
        ∙ ap (λ xs. get_or bytes (at + 5) 0 ∷ xs) (further 5 (omega arith) ∙ ap (λ xs. get_or bytes (at + 6) 0 ∷ xs) (further 6 (omega arith)))))))))

-- no bits spell 0
pub no_bits : (bytes : List ℕ) (place : ℕ) → 0 ≡ num (bits_between bytes place place)
unfolding num
no_bits bytes place = sym (ap num (bits_between_none bytes place))

-- the bits up to a place, moved up, and those after it
pub more_bits : (bytes : List ℕ) (from place count value after : ℕ) → from ≤ place → place + count ≤ 8 * length bytes → value ≡ num (bits_between bytes from place) → after ≡ num (bits_between bytes place (place + count))
    → value * 2 ^ count + after ≡ num (bits_between bytes from (place + count))
more_bits bytes from place count value after ordered within prefix more =
    let a : List Bool = bits_between bytes from place in
    let b : List Bool = bits_between bytes place (place + count) in
    let long : length b ≡ count = run_counted bytes place count within in
    ap₂ (λ v w. v * 2 ^ count + w) prefix more ∙ ap (λ n. num a * 2 ^ n + num b) (sym long) ∙ sym (num_joined a b)
    ∙ ap num (bits_between_joined bytes from place (place + count) ordered (omega arith))

-- moved up by no more than there is room for, it has a word's bits
pub moved_fits : (bytes : List ℕ) (from place count value : ℕ) → from ≤ place → place ≤ 8 * length bytes → place + count ≤ from + 64 → value ≡ num (bits_between bytes from place) → value * 2 ^ count < 2 ^ 64
moved_fits bytes from place count value ordered within few is =
    let up : value * 2 ^ count < 2 ^ (place - from) * 2 ^ count = mul-lt-mul_of_pos_right (count_fits bytes from (place - from) value (omega arith) (is ∙ ap (λ to. num (bits_between bytes from to)) (omega arith))) (pow_pos count) in
    let whole : 2 ^ (place - from) * 2 ^ count ≡ 2 ^ (place - from + count) = sym (pow-add 2 (place - from) count) in
    let most : 2 ^ (place - from + count) ≤ 2 ^ 64 = raised (place - from + count) (omega arith) in
    omega (arith, up, whole, most)
  where
    raised : (k : ℕ) → k ≤ 64 → 2 ^ k ≤ 2 ^ 64
    raised k h = pow-le-pow_right (omega arith) h

-- the bits of a word, moved up, and those of the byte after it
pub word_and_byte : (bytes : List ℕ) (place count first more rest word byte : ℕ) → first + more ≡ count → rest ≡ place + first → place + count ≤ 8 * length bytes
    → word ≡ num (bits_between bytes place (place + first)) → byte ≡ num (bits_between bytes rest (rest + more)) → word * 2 ^ more + byte ≡ num (bits_between bytes place (place + count))
word_and_byte bytes place count first more rest word byte whole at within prefix after =
    let last : rest + more ≡ place + count = omega (arith, whole, at) in
    more_bits bytes place rest more word byte (omega (arith, at)) (omega (arith, last)) (prefix ∙ ap (λ to. num (bits_between bytes place to)) (sym at)) after
    ∙ ap (λ to. num (bits_between bytes place to)) last
