-- Bits pushed by words, and whole bytes as bytes: what is written grows by just these.
use Rattle.std.proofs.Common.{◌≡◌, sym, ◌∙◌, ap, ap₂, ℕ, ◌+◌, ◌-◌, ◌*◌, ◌/◌, ◌%◌, ◌≤◌, Bool, List, ◌++◌, length, take, drop, arith}
use Rattle.std.proofs.lemmas.List.{append_assoc, append-nil, length-append, length-take-le, length-drop}
use Rattle.dwg_bits.specs.Bits.{low_bits, bits, num}
use Rattle.dwg_bits.specs.Cursor.{bits_between}
use Rattle.dwg_bits.specs.Filled.{AreFilled}
use Rattle.dwg_bits.proofs.BitLaws.{length_of_bits, bits_joined, bits_between_none, bits_between_joined, bits_between_all, length_of_bits_between, run_counted, low_bits_of_num}
use Rattle.dwg_bits.proofs.Filling.{all_filled, length_held}
use Rattle.dwg_bits.proofs.WordParts.{bits_of_run}

-- before the first bit nothing is pushed
pub none_placed : (old : List Bool) (bytes : List ℕ) (from : ℕ) → old ≡ old ++ bits_between bytes from from
none_placed old bytes from = sym (append-nil old) ∙ ap (λ none. old ++ none) (sym (bits_between_none bytes from))

-- a number that bits spell is pushed after those before them
pub word_placed : (old before after : List Bool) (bytes : List ℕ) (from place count value : ℕ) → from ≤ place → place + count ≤ 8 * length bytes → value ≡ num (bits_between bytes place (place + count))
    → after ≡ before ++ low_bits count value → before ≡ old ++ bits_between bytes from place → after ≡ old ++ bits_between bytes from (place + count)
word_placed old before after bytes from place count value ordered within spelled pushed so_far =
    let prefix : List Bool = bits_between bytes from place in
    let next : List Bool = bits_between bytes place (place + count) in
    let long : length next ≡ count = run_counted bytes place count within in
    let same : low_bits count value ≡ next = ap₂ low_bits (sym long) spelled ∙ low_bits_of_num next in
    pushed
    ∙ ap₂ (λ written more. written ++ more) so_far same
    ∙ append_assoc old prefix next
    ∙ ap (λ more. old ++ more) (bits_between_joined bytes from place (place + count) ordered (omega arith))

-- whole bytes after whole bytes
pub bytes_held : (old new more : List ℕ) (count grown : ℕ) → AreFilled old count → length (bits_between old 0 count) % 8 ≡ 0 → new ≡ old ++ more → grown ≡ count + 8 * length more
    → bits_between new 0 grown ≡ bits_between old 0 count ++ bits more
bytes_held old new more count grown filled even is by =
    let all : count ≡ 8 * length old = omega (arith, filled.whole, length_held old count filled) in
    bits_between_all new grown (omega (arith, by, all, ap length is, length-append old more))
    ∙ ap bits is ∙ bits_joined old more ∙ ap (λ prefix. prefix ++ bits more) (sym (bits_between_all old count all))

-- and they are filled
pub bytes_filled : (old new more : List ℕ) (count grown : ℕ) → AreFilled old count → length (bits_between old 0 count) % 8 ≡ 0 → new ≡ old ++ more → grown ≡ count + 8 * length more → AreFilled new grown
bytes_filled old new more count grown filled even is by =
    all_filled new grown (omega (arith, by, filled.whole, length_held old count filled, ap length is, length-append old more))

-- a part is as long as its places are apart
pub part_long : (bytes : List ℕ) (from to : ℕ) (part : List Bool) → to ≤ 8 * length bytes → bits_between bytes from to ≡ part → to - from ≡ length part
part_long bytes from to part within is = sym (length_of_bits_between bytes from to within) ∙ ap length is

-- whole bytes, and the bits after them
pub run_and_rest : (bytes run : List ℕ) (from to : ℕ) → from ≤ to → to ≤ 8 * length bytes → from % 8 ≡ 0 → run ≡ take (to / 8 - from / 8) (drop (from / 8) bytes)
    → bits run ++ bits_between bytes (to - to % 8) to ≡ bits_between bytes from to
run_and_rest bytes run from to ordered within even is =
    let count : ℕ = to / 8 - from / 8 in
    let first : 8 * (from / 8) ≡ from = omega arith in
    let last : 8 * (from / 8) + 8 * count ≡ to - to % 8 = omega arith in
    ap (λ prefix. prefix ++ bits_between bytes (to - to % 8) to)
    (ap bits is ∙ sym (bits_of_run bytes (from / 8) count (omega arith)) ∙ ap₂ (bits_between bytes) first last)
    ∙ bits_between_joined bytes from (to - to % 8) to (omega arith) (omega arith)

-- whole bytes have all bits but those after them
pub run_long : (bytes run : List ℕ) (from to : ℕ) → from ≤ to → to ≤ 8 * length bytes → from % 8 ≡ 0 → run ≡ take (to / 8 - from / 8) (drop (from / 8) bytes)
    → length (bits run) ≡ to - to % 8 - from
run_long bytes run from to ordered within even is =
    length_of_bits run ∙ ap (λ n. 8 * n) (ap length is ∙ length-take-le (to / 8 - from / 8) (drop (from / 8) bytes) (omega (arith, length-drop (from / 8) bytes))) ∙ omega arith
