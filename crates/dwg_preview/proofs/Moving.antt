-- A content that is moved: its entries as they are at the other place.
use Rattle.std.proofs.Common.{◌≡◌, ℕ, zero, suc, ◌+◌, ◌-◌, ◌*◌, ◌^◌, ◌<◌, ◌≤◌, List, [], ◌∷◌, ◌++◌, length, map, take, drop, sym, ap, ap₂, subst, ◌∙◌, refl, w32, arith, append_assoc, length-append, length-drop, drop_at}
use Rattle.std.specs.Prelude.{if◌then◌else◌, nat_lt, slice_index}
use Rattle.std.specs.List.{AllByRecursion, flat_map}
use Rattle.std.specs.Int.{to_le_bytes}
use Rattle.std.proofs.lemmas.List.{length-map}
use Rattle.std.proofs.lemmas.Bool.{lt-ltb}
use Rattle.dwg_sections.specs.Framed.{complemented}
use Rattle.dwg_preview.specs.Previews.{Entry, IsContent, IsEntry, LiesBetween, PREVIEW_SENTINEL, WITHOUT_CONTENT, content_bytes, entries_moved, entry_at, entry_bytes, prefix_bytes, further_bytes, moved, moved_entry}
use Rattle.dwg_preview.specs.PreviewLaws.{EntriesAreMoved, MovedIsContent, MovedStays, MovedTwiceIsMoved, SectionIsPieces}
use Rattle.dwg_preview.proofs.Contents.{content_reads, first_byte, length_of_content}
use Rattle.dwg_preview.proofs.Entries.{entries_at, entries_read, length_of_entries, same_entry}

-- entries that are moved as they are read are those that are read, moved
entries_moved_are : (from to count : ℕ) (content : List ℕ) (place : ℕ) → entries_moved from to count content place ≡ flat_map entry_bytes (map (moved_entry from to) (entries_at count content place))
unfolding entries_moved entries_at
entries_moved_are from to zero content place = refl
entries_moved_are from to (suc count) content place = ap (λ rest. entry_bytes (moved_entry from to (entry_at content place)) ++ rest) (entries_moved_are from to count content (place + 9))

-- a content that is moved has its entries moved
pub content_moved : (from to : ℕ) (entries : List Entry) (further : List ℕ) → AllByRecursion IsEntry entries
    → moved from to (content_bytes entries further) ≡ content_bytes (map (moved_entry from to) entries) further
unfolding moved
content_moved from to entries further are =
    let content = content_bytes entries further in
    let read : entries ≡ entries_at (length entries) content 1 = entries_read entries content (length entries ∷ []) further 1 refl refl are in
    let long : length (length entries ∷ flat_map entry_bytes entries) ≡ 1 + 9 * length entries = omega (arith, length_of_entries entries) in
    let counted : length (map (moved_entry from to) entries) ≡ length entries = length-map entries (moved_entry from to) in
    let middle : entries_moved from to (length entries) content 1 ≡ flat_map entry_bytes (map (moved_entry from to) entries) =
    entries_moved_are from to (length entries) content 1 ∙ ap (λ list. flat_map entry_bytes (map (moved_entry from to) list)) (sym read) in
    let end : drop (1 + 9 * length entries) content ≡ further = drop_at (length entries ∷ flat_map entry_bytes entries) further (1 + 9 * length entries) long in
    ap₂ (λ middle rest. length entries ∷ (middle ++ rest)) middle end ∙ ap (λ n. n ∷ (flat_map entry_bytes (map (moved_entry from to) entries) ++ further)) (sym counted)

-- what is moved has each entry as it is at the other place, and all else as it was
pub entries_are_moved : EntriesAreMoved
entries_are_moved from to content is = ap (moved from to) is.whole ∙ content_moved from to is.entries is.further is.are

-- the place of a picture that has a byte
placed : (place size : ℕ) → (if nat_lt 0 (suc size) then place else 0) ≡ place
placed place size = ap (λ test. if test then place else 0) (lt-ltb 0 (suc size) (omega arith))

-- where a picture that lay between two places lies once its section stands elsewhere
place_moved : (from to skip reach low high new_low new_high place size : ℕ) → low ≡ from + skip → high ≡ from + reach → new_low ≡ to + skip → new_high ≡ to + reach → new_high < 2 ^ 32
    → (0 < size → (low ≤ place) × (place + size ≤ high))
    → ((if nat_lt 0 size then place - from + to else 0) < 2 ^ 32) × (0 < size → (new_low ≤ (if nat_lt 0 size then place - from + to else 0)) × ((if nat_lt 0 size then place - from + to else 0) + size ≤ new_high))
place_moved from to skip reach low high new_low new_high place zero is_low is_high is_new_low is_new_high below lies = (omega arith, λ some. absurd (omega arith))
place_moved from to skip reach low high new_low new_high place (suc size) is_low is_high is_new_low is_new_high below lies =
    let there = lies (omega arith) in
    let first = there.0 in
    let last = there.1 in
    let after = placed (place - from + to) size in
    (omega arith, λ some. (omega arith, omega arith))

-- entries whose pictures lay between two places are, once their section stands elsewhere, entries whose pictures lie between the places there
all_moved : (from to skip reach low high new_low new_high : ℕ) (entries : List Entry) → low ≡ from + skip → high ≡ from + reach → new_low ≡ to + skip → new_high ≡ to + reach → new_high < 2 ^ 32
    → AllByRecursion IsEntry entries → AllByRecursion (LiesBetween low high) entries
    → AllByRecursion IsEntry (map (moved_entry from to) entries) × AllByRecursion (LiesBetween new_low new_high) (map (moved_entry from to) entries)
all_moved from to skip reach low high new_low new_high [] is_low is_high is_new_low is_new_high below are lie = (tt, tt)
all_moved from to skip reach low high new_low new_high (entry ∷ entries) is_low is_high is_new_low is_new_high below are lie =
    let here = place_moved from to skip reach low high new_low new_high entry.place entry.size is_low is_high is_new_low is_new_high below lie.0 in
    let after = all_moved from to skip reach low high new_low new_high entries is_low is_high is_new_low is_new_high below are.1 lie.1 in
    let is : IsEntry (moved_entry from to entry) = record {
      code = are.0.code;
      place = here.0;
      size = are.0.size;
    } in
    ((is, after.0), (here.1, after.1))

-- the entries of a content that is moved lie in their ranges, and their pictures in the section
moved_lie : (from to : ℕ) (content : List ℕ) (is : IsContent from content) → to + WITHOUT_CONTENT + length content < 2 ^ 32
    → AllByRecursion IsEntry (map (moved_entry from to) is.entries) × AllByRecursion (LiesBetween (to + 21 + 9 * length is.entries) (to + 20 + length content)) (map (moved_entry from to) is.entries)
moved_lie from to content is below =
    all_moved from to (21 + 9 * length is.entries) (20 + length content) (from + 21 + 9 * length is.entries) (from + 20 + length content) (to + 21 + 9 * length is.entries) (to + 20 + length content) is.entries
    (omega arith) (omega arith) (omega arith) (omega arith) (omega arith) is.are is.within

-- a content that is moved has as many bytes
moved_counted : (from to : ℕ) (content : List ℕ) (is : IsContent from content) → length (content_bytes (map (moved_entry from to) is.entries) is.further) ≡ length content
moved_counted from to content is =
    omega (arith, length_of_content (map (moved_entry from to) is.entries) is.further, length_of_content is.entries is.further, length-map is.entries (moved_entry from to), ap length is.whole)

-- and is a content at the other place
moved_is : (from to : ℕ) (content : List ℕ) (is : IsContent from content) → to + WITHOUT_CONTENT + length content < 2 ^ 32 → IsContent to (content_bytes (map (moved_entry from to) is.entries) is.further)
moved_is from to content is below =
    let entries = map (moved_entry from to) is.entries in
    let lie = moved_lie from to content is below in
    let long = moved_counted from to content is in
    let many : length entries ≡ length is.entries = length-map is.entries (moved_entry from to) in
    record {
      size = subst (λ n. n < 2 ^ 32) (sym long) is.size;
      entries = entries;
      further = is.further;
      few = subst (λ n. n < 2 ^ 8) (sym many) is.few;
      are = lie.0;
      whole = refl;
      within =
          subst (λ n. AllByRecursion (LiesBetween (to + 21 + 9 * length entries) (to + 20 + n)) entries) (sym long)
          (subst (λ n. AllByRecursion (LiesBetween (to + 21 + 9 * n) (to + 20 + length content)) entries) (sym many) lie.1);
    }

-- what is moved has as many bytes, and is a content at the other place
pub moved_is_content : MovedIsContent
moved_is_content from to content is below =
    let same = entries_are_moved from to content is in
    (ap length same ∙ moved_counted from to content is, subst (IsContent to) (sym same) (moved_is from to content is below))

-- where a picture lies that is moved twice
place_twice : (from by to low place size : ℕ) → from ≤ low → (0 < size → low ≤ place)
    → (if nat_lt 0 size then (if nat_lt 0 size then place - from + by else 0) - by + to else 0) ≡ (if nat_lt 0 size then place - from + to else 0)
place_twice from by to low place zero before lies = refl
place_twice from by to low place (suc size) before lies =
    let there = lies (omega arith) in
    let first = placed (place - from + by) size in
    let second = placed ((if nat_lt 0 (suc size) then place - from + by else 0) - by + to) size in
    let once = placed (place - from + to) size in
    omega arith

-- entries that are moved twice are moved at once
all_twice : (from by to low high : ℕ) (entries : List Entry) → from ≤ low → AllByRecursion (LiesBetween low high) entries
    → map (moved_entry by to) (map (moved_entry from by) entries) ≡ map (moved_entry from to) entries
all_twice from by to low high [] before lie = refl
all_twice from by to low high (entry ∷ entries) before lie =
    let place = place_twice from by to low entry.place entry.size before (λ some. (lie.0 some).0) in
    ap₂ ◌∷◌ (same_entry (moved_entry by to (moved_entry from by entry)) (moved_entry from to entry) refl place refl) (all_twice from by to low high entries before lie.1)

-- what is moved twice is moved at once
pub moved_twice_is_moved : MovedTwiceIsMoved
moved_twice_is_moved from by to content is below =
    ap (moved by to) (entries_are_moved from by content is)
    ∙ content_moved by to (map (moved_entry from by) is.entries) is.further (moved_lie from by content is below).0
    ∙ ap (λ entries. content_bytes entries is.further) (all_twice from by to (from + 21 + 9 * length is.entries) (from + 20 + length content) is.entries (omega arith) is.within)
    ∙ sym (entries_are_moved from to content is)

-- what is moved to where it stands already stays as it is
pub moved_stays : MovedStays
moved_stays from to content is below = moved_twice_is_moved from to to content is below

-- so many entries that are moved have nine times so many bytes
length_of_entries_moved : (from to count : ℕ) (content : List ℕ) (place : ℕ) → length (entries_moved from to count content place) ≡ 9 * count
unfolding entries_moved
length_of_entries_moved from to zero content place = refl
length_of_entries_moved from to (suc count) content place = omega (arith, length_of_entries_moved from to count content (place + 9))

-- a section has so many bytes before its further bytes
pub length_of_prefix : (from to : ℕ) (content : List ℕ) → 0 < length content → length (prefix_bytes from to content) ≡ 21 + 9 * slice_index content 0
length_of_prefix from to content some =
    let entries = entries_moved from to (slice_index content 0) content 1 in
    omega (arith, length-append (take 1 content) entries, ap length (first_byte content some), length_of_entries_moved from to (slice_index content 0) content 1)

-- with its further bytes these are twenty, and those of its content
pub pieces_counted : (from to : ℕ) (content : List ℕ) → IsContent from content → length (prefix_bytes from to content) + length (further_bytes content) ≡ 20 + length content
pieces_counted from to content is =
    let reads = content_reads from (slice_index content 0) content is refl in
    omega (arith, reads.within, length_of_prefix from to content reads.some, length-drop (1 + 9 * slice_index content 0) content)

-- the section is what stands before its further bytes, these, and the end sentinel
pub section_is_pieces : SectionIsPieces
unfolding moved
section_is_pieces from to content is below =
    let prefix = PREVIEW_SENTINEL ++ to_le_bytes w32 (length content) in
    let entries = take 1 content ++ entries_moved from to (slice_index content 0) content 1 in
    let counted = sym (moved_is_content from to content is below).0 in
    ap (λ bytes. bytes ++ complemented PREVIEW_SENTINEL)
    (append_assoc prefix entries (further_bytes content) ∙ ap (λ n. PREVIEW_SENTINEL ++ to_le_bytes w32 n ++ moved from to content) counted)
