-- When bytes are the content of a preview section, by the places of their entries.
use Rattle.std.proofs.Common.{◌≡◌, ℕ, ◌+◌, ◌*◌, ◌^◌, ◌<◌, ◌≤◌, Bool, false, List, [], ◌∷◌, ◌++◌, length, take, drop, sym, ap, subst, ◌∙◌, refl, arith, length-append, take-append-drop}
use Rattle.std.specs.Prelude.{slice_index, IsTrue, ◌↔◌}
use Rattle.std.specs.List.{AllByRecursion, flat_map}
use Rattle.std.proofs.lemmas.List.{drop_more}
use Rattle.dwg_base.specs.Bytes.{AreBytes}
use Rattle.dwg_sections.proofs.BytePieces.{byte_at_below, prefix_more}
use Rattle.dwg_preview.specs.Previews.{Entry, IsContent, LiesBetween, content_bytes, entry_at, entry_bytes}
use Rattle.dwg_preview.proofs.Entries.{all_from_each, each_from_all, entries_at, entries_back, entries_in_range, entries_read, length_of_entries, length_of_entries_at}

-- a content has a byte for its count, nine for each entry, and its further bytes
pub length_of_content : (entries : List Entry) (further : List ℕ) → length (content_bytes entries further) ≡ 1 + 9 * length entries + length further
length_of_content entries further = omega (arith, length-append (flat_map entry_bytes entries) further, length_of_entries entries)

-- the first of some bytes
pub first_byte : (content : List ℕ) → 0 < length content → take 1 content ≡ slice_index content 0 ∷ []
first_byte content some = ap (take 1) (drop_more content 0 0 some)

-- so many pictures lie after the entries and in the section
abbrev AllLie : ℕ → List ℕ → ℕ → Type 0
AllLie place content count = (i : ℕ) → i < count → LiesBetween (place + 20 + (1 + 9 * count)) (place + 20 + length content) (entry_at content (1 + 9 * i))

-- bytes are their count, the entries that are read, and the rest
whole_back : (content : List ℕ) (count : ℕ) → AreBytes content → 0 < length content → count ≡ slice_index content 0 → 1 + 9 * count ≤ length content
    → content ≡ content_bytes (entries_at count content 1) (drop (1 + 9 * count) content)
whole_back content count all some counted within =
    let entries = entries_at count content 1 in
    let many : length entries ≡ count = length_of_entries_at count content 1 in
    let prefix : take 1 content ≡ length entries ∷ [] = first_byte content some ∙ ap (λ n. n ∷ []) (sym counted ∙ sym many) in
    let before = prefix_more content (length entries ∷ []) (flat_map entry_bytes entries) 1 (9 * count) prefix (entries_back count content 1 all within) in
    sym (take-append-drop (1 + 9 * count) content) ∙ ap (λ xs. xs ++ drop (1 + 9 * count) content) before

-- bytes whose entries end in them, and whose pictures lie after the entries and in the section, are a content
pub content_back : (place count : ℕ) (content : List ℕ) → AreBytes content → length content < 2 ^ 32 → 0 < length content → count ≡ slice_index content 0 → 1 + 9 * count ≤ length content → AllLie place content count → IsContent place content
content_back place count content all small some counted within lie =
    let entries = entries_at count content 1 in
    let many : length entries ≡ count = length_of_entries_at count content 1 in
    let low : place + 20 + (1 + 9 * count) ≡ place + 21 + 9 * length entries = omega arith in
    record {
      size = small;
      entries = entries;
      further = drop (1 + 9 * count) content;
      few = subst (λ n. n < 2 ^ 8) (sym (many ∙ counted)) (byte_at_below content 0 all);
      are = entries_in_range count content 1 all;
      whole = whole_back content count all some counted within;
      within =
          subst (λ n. AllByRecursion (LiesBetween n (place + 20 + length content)) entries) low
          (all_from_each (LiesBetween (place + 20 + (1 + 9 * count)) (place + 20 + length content)) count content 1 lie);
    }

-- what is read of a content
pub record ContentReads (place count : ℕ) (content : List ℕ) : Type 0 where
  pub some : 0 < length content
  pub within : 1 + 9 * count ≤ length content
  pub lie : AllLie place content count

-- a content has its entries in it, and their pictures after them and in the section
pub content_reads : (place count : ℕ) (content : List ℕ) → IsContent place content → count ≡ slice_index content 0 → ContentReads place count content
content_reads place count content is counted =
    let here : slice_index content 0 ≡ length is.entries = ap (λ xs. slice_index xs 0) is.whole in
    let many : length is.entries ≡ count = sym (counted ∙ here) in
    let long = ap length is.whole ∙ length_of_content is.entries is.further in
    let low : place + 21 + 9 * length is.entries ≡ place + 20 + (1 + 9 * count) = omega arith in
    let read : is.entries ≡ entries_at count content 1 =
    entries_read is.entries content (length is.entries ∷ []) is.further 1 is.whole refl is.are ∙ ap (λ n. entries_at n content 1) many in
    let Lies : ℕ → Entry → Type 0 = λ n. LiesBetween n (place + 20 + length content) in
    let all = subst (λ entries. AllByRecursion (Lies (place + 20 + (1 + 9 * count))) entries) read (subst (λ n. AllByRecursion (Lies n) is.entries) low is.within) in
    record {
      some = omega arith;
      within = omega arith;
      lie = each_from_all (Lies (place + 20 + (1 + 9 * count))) count content 1 all;
    }

-- no bytes are a content whose entries pass their end
pub entries_cut : (place count : ℕ) (content : List ℕ) → count ≡ slice_index content 0 → length content < 1 + 9 * count → IsTrue false ↔ IsContent place content
entries_cut place count content counted cut = (λ never. absurd (cc never), λ is. absurd (omega (arith, (content_reads place count content is counted).within)))

-- bytes whose entries end in them are a content exactly where the pictures lie after the entries and in the section
pub content_found : (test : Bool) (place begin count : ℕ) (content : List ℕ) → begin ≡ place → count ≡ slice_index content 0 → AreBytes content → length content < 2 ^ 32 → 0 < length content → 1 + 9 * count ≤ length content
    → (IsTrue test ↔ AllLie begin content count) → IsTrue test ↔ IsContent place content
content_found test place begin count content same counted all small some within reports = (
  λ yes. content_back place count content all small some counted within (subst (λ n. AllLie n content count) same (reports.0 yes)),
  λ is. reports.1 (subst (λ n. AllLie n content count) (sym same) (content_reads place count content is counted).lie),
)

-- the entries that are read of a content lie after its section's place
pub entries_lie : (place count : ℕ) (content : List ℕ) → ContentReads place count content → (i : ℕ) → i < count → LiesBetween place (place + 20 + length content) (entry_at content (1 + 9 * i))
entries_lie place count content reads i inside some =
    let there = reads.lie i inside some in
    (omega (arith, there.0), there.1)
