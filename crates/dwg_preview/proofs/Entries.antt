-- Entries of a content that are read one after the other.
use Rattle.std.proofs.Common.{◌≡◌, ℕ, zero, suc, ◌+◌, ◌*◌, ◌<◌, ◌≤◌, List, [], ◌∷◌, ◌++◌, length, take, drop, get_or, sym, ap, ap₂, subst, ◌∙◌, refl, w32, arith, append_assoc, length-append, drop-drop, drop_at}
use Rattle.std.specs.List.{AllByRecursion, flat_map}
use Rattle.std.specs.Int.{from_le_bytes, to_le_bytes}
use Rattle.std.proofs.lemmas.List.{drop_more, get_or_at}
use Rattle.std.proofs.lemmas.Nat.{from_le_bytes-to_le_bytes_4}
use Rattle.dwg_base.specs.Bytes.{AreBytes}
use Rattle.dwg_sections.specs.HeaderLines.{bytes_at, rl_at}
use Rattle.dwg_sections.proofs.BytePieces.{prefix_more, byte_at_below, rl_back, rl_below}
use Rattle.dwg_preview.specs.Previews.{Entry, IsEntry, entry_at, entry_bytes}

-- so many entries, one after the other from a place of a content
unfoldable pub entries_at : ℕ → List ℕ → ℕ → List Entry
entries_at zero content place = []
entries_at (suc count) content place = entry_at content place ∷ entries_at count content (place + 9)

-- they are so many
pub length_of_entries_at : (count : ℕ) (content : List ℕ) (place : ℕ) → length (entries_at count content place) ≡ count
unfolding entries_at
length_of_entries_at zero content place = refl
length_of_entries_at (suc count) content place = ap suc (length_of_entries_at count content (place + 9))

-- so many entries have nine times so many bytes
pub length_of_entries : (entries : List Entry) → length (flat_map entry_bytes entries) ≡ 9 * length entries
length_of_entries [] = refl
length_of_entries (entry ∷ entries) = omega (arith, length_of_entries entries)

-- what holds of the entry at each place holds of each entry
pub all_from_each : (Holds : Entry → Type 0) (count : ℕ) (content : List ℕ) (place : ℕ) → ((i : ℕ) → i < count → Holds (entry_at content (place + 9 * i))) → AllByRecursion Holds (entries_at count content place)
unfolding entries_at
all_from_each Holds zero content place each = tt
all_from_each Holds (suc count) content place each =
    let here : place + 9 * 0 ≡ place = omega arith in
    let after : (i : ℕ) → place + 9 * suc i ≡ place + 9 + 9 * i = λ i. omega arith in (
      subst (λ p. Holds (entry_at content p)) here (each 0 (omega arith)),
      all_from_each Holds count content (place + 9) (λ i inside. subst (λ p. Holds (entry_at content p)) (after i) (each (suc i) (omega arith))),
    )

-- what holds of each entry holds of the entry at each place
pub each_from_all : (Holds : Entry → Type 0) (count : ℕ) (content : List ℕ) (place : ℕ) → AllByRecursion Holds (entries_at count content place) → (i : ℕ) → i < count → Holds (entry_at content (place + 9 * i))
unfolding entries_at
each_from_all Holds zero content place all i inside = absurd (omega arith)
each_from_all Holds (suc count) content place all zero inside =
    let here : place ≡ place + 9 * 0 = omega arith in
    subst (λ p. Holds (entry_at content p)) here all.0
each_from_all Holds (suc count) content place all (suc i) inside =
    let after : place + 9 + 9 * i ≡ place + 9 * suc i = omega arith in
    subst (λ p. Holds (entry_at content p)) after (each_from_all Holds count content (place + 9) all.1 i (omega arith))

-- eight bytes are two RLs
two_back : (bytes : List ℕ) (first second : ℕ) → AreBytes bytes → first + 4 ≡ second → second + 4 ≤ length bytes → bytes_at bytes first 8 ≡ to_le_bytes w32 (rl_at bytes first) ++ to_le_bytes w32 (rl_at bytes second)
two_back bytes first second all next within =
    prefix_more (drop first bytes) (to_le_bytes w32 (rl_at bytes first)) (to_le_bytes w32 (rl_at bytes second)) 4 4
    (rl_back bytes first all (omega arith))
    (ap (take 4) (drop-drop 4 first bytes) ∙ ap (λ place. bytes_at bytes place 4) next ∙ rl_back bytes second all within)

-- nine bytes are an entry
entry_back : (bytes : List ℕ) (place : ℕ) → AreBytes bytes → place + 9 ≤ length bytes → bytes_at bytes place 9 ≡ entry_bytes (entry_at bytes place)
entry_back bytes place all within =
    ap (take 9) (drop_more bytes place 0 (omega arith))
    ∙ ap (λ after. get_or bytes place 0 ∷ after) (two_back bytes (place + 1) (place + 5) all (omega arith) (omega arith))

-- nine bytes for each of so many entries are these entries
pub entries_back : (count : ℕ) (bytes : List ℕ) (place : ℕ) → AreBytes bytes → place + 9 * count ≤ length bytes → bytes_at bytes place (9 * count) ≡ flat_map entry_bytes (entries_at count bytes place)
unfolding entries_at
entries_back zero bytes place all within = refl
entries_back (suc count) bytes place all within =
    let wide : 9 * suc count ≡ 9 + 9 * count = omega arith in
    ap (bytes_at bytes place) wide
    ∙ prefix_more (drop place bytes) (entry_bytes (entry_at bytes place)) (flat_map entry_bytes (entries_at count bytes (place + 9))) 9 (9 * count)
    (entry_back bytes place all (omega arith))
    (ap (take (9 * count)) (drop-drop 9 place bytes) ∙ entries_back count bytes (place + 9) all (omega arith))

-- the entries that are read from bytes lie in their ranges
pub entries_in_range : (count : ℕ) (bytes : List ℕ) (place : ℕ) → AreBytes bytes → AllByRecursion IsEntry (entries_at count bytes place)
unfolding entries_at
entries_in_range zero bytes place all = tt
entries_in_range (suc count) bytes place all = (
  record {
    code = byte_at_below bytes place all;
    place = rl_below bytes (place + 1) all;
    size = rl_below bytes (place + 5) all;
  },
  entries_in_range count bytes (place + 9) all,
)

-- the entry of these numbers
abbrev entry_of : ℕ → ℕ → ℕ → Entry
entry_of code place size = record { code = code; place = place; size = size }

-- two entries with the same numbers are one
pub same_entry : (a b : Entry) → a.code ≡ b.code → a.place ≡ b.place → a.size ≡ b.size → a ≡ b
same_entry a b code place size =
    ap (λ n. entry_of n a.place a.size) code ∙ ap (λ n. entry_of b.code n a.size) place ∙ ap (λ n. entry_of b.code b.place n) size

-- what stands further on after a prefix of known length
after_prefix : (bytes prefix after : List ℕ) (place skip count : ℕ) → bytes ≡ prefix ++ after → length prefix ≡ place → bytes_at bytes (place + skip) count ≡ bytes_at after skip count
after_prefix bytes prefix after place skip count whole long =
    ap (take count) (sym (drop-drop skip place bytes) ∙ ap (drop skip) (ap (drop place) whole ∙ drop_at prefix after place long))

-- an entry is read where it stands
entry_read : (entry : Entry) (bytes prefix rest : List ℕ) (place : ℕ) → bytes ≡ prefix ++ (entry_bytes entry ++ rest) → length prefix ≡ place → IsEntry entry → entry ≡ entry_at bytes place
entry_read entry bytes prefix rest place whole long in_range =
    let after = to_le_bytes w32 entry.place ++ to_le_bytes w32 entry.size ++ rest in
    let code : get_or bytes place 0 ≡ entry.code = ap (λ xs. get_or xs place 0) whole ∙ get_or_at prefix entry.code after 0 place long in
    let at_place : rl_at bytes (place + 1) ≡ entry.place =
    ap (from_le_bytes w32) (after_prefix bytes prefix (entry_bytes entry ++ rest) place 1 4 whole long) ∙ from_le_bytes-to_le_bytes_4 entry.place in_range.place in
    let at_size : rl_at bytes (place + 5) ≡ entry.size =
    ap (from_le_bytes w32) (after_prefix bytes prefix (entry_bytes entry ++ rest) place 5 4 whole long) ∙ from_le_bytes-to_le_bytes_4 entry.size in_range.size in
    same_entry entry (entry_at bytes place) (sym code) (sym at_place) (sym at_size)

-- entries are read where they stand
pub entries_read : (entries : List Entry) (bytes prefix rest : List ℕ) (place : ℕ) → bytes ≡ prefix ++ (flat_map entry_bytes entries ++ rest) → length prefix ≡ place → AllByRecursion IsEntry entries
    → entries ≡ entries_at (length entries) bytes place
unfolding entries_at
entries_read [] bytes prefix rest place whole long in_range = refl
entries_read (entry ∷ entries) bytes prefix rest place whole long in_range =
    let here = entry_bytes entry in
    let further = flat_map entry_bytes entries in
    let first : bytes ≡ prefix ++ (here ++ (further ++ rest)) = whole ∙ ap (λ after. prefix ++ after) (append_assoc here further rest) in
    let other : bytes ≡ prefix ++ here ++ (further ++ rest) = first ∙ sym (append_assoc prefix here (further ++ rest)) in
    let long_more : length (prefix ++ here) ≡ place + 9 = length-append prefix here ∙ ap (λ n. n + 9) long in
    ap₂ ◌∷◌ (entry_read entry bytes prefix (further ++ rest) place first long in_range.0)
    (entries_read entries bytes (prefix ++ here) rest (place + 9) other long_more in_range.1)
