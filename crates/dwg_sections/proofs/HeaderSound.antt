-- Bytes in which no line on the header fails begin with the header that is read.
use Rattle.std.proofs.Common.{◌≡◌, ℕ, zero, suc, ◌+◌, ◌*◌, ◌<◌, ◌≤◌, List, None, ◌∷◌, ◌++◌, length, take, drop, get_or, sym, ap, ap₂, subst, ◌∙◌, refl, w16, w32, arith, add_comm, drop-drop, take-append-drop}
use Rattle.std.specs.List.{AllByRecursion, flat_map}
use Rattle.std.specs.Int.{to_le_bytes}
use Rattle.std.proofs.lemmas.List.{drop_more}
use Rattle.dwg_check.specs.CheckWord.{header_check_word}
use Rattle.dwg_sections.specs.declared.header.FileHeader.{FileHeader}
use Rattle.dwg_base.specs.Bytes.{AreBytes}
use Rattle.dwg_base.specs.Versions.{version_at, version_bytes}
use Rattle.dwg_base.proofs.ByteLists.{are_bytes}
use Rattle.dwg_base.specs.Refusals.{first_fault}
use Rattle.dwg_sections.specs.FileHeader.{BeginsWithHeader, HEADER_SENTINEL, IsLocator, LocateSections, IsFileHeader, locator_bytes, header_prefix, header_bytes}
use Rattle.dwg_sections.specs.HeaderLines.{HEADER_LINES, bytes_at, rs_at, rl_at, count_at, locators_end, locator_at, locators_at, numbers_at, header_at}
use Rattle.dwg_sections.specs.HeaderLaws.{PassingBytesBeginWithHeader}
use Rattle.dwg_sections.proofs.BytePieces.{prefix_more, length_at, are_bytes_at, byte_at_below, rs_back, rl_back, rs_below, rl_below}
use Rattle.dwg_sections.proofs.LocatorStep.{length_of_locators_at, numbers_counted}
use Rattle.dwg_sections.proofs.HeaderPasses.{Passes, passes_from_none}

-- eight bytes are two RLs
two_back : (bytes : List ℕ) (first second : ℕ) → AreBytes bytes → first + 4 ≡ second → second + 4 ≤ length bytes → bytes_at bytes first 8 ≡ to_le_bytes w32 (rl_at bytes first) ++ to_le_bytes w32 (rl_at bytes second)
two_back bytes first second all next within =
    prefix_more (drop first bytes) (to_le_bytes w32 (rl_at bytes first)) (to_le_bytes w32 (rl_at bytes second)) 4 4
    (rl_back bytes first all (omega arith))
    (ap (take 4) (drop-drop 4 first bytes) ∙ ap (λ place. bytes_at bytes place 4) next ∙ rl_back bytes second all within)

-- nine bytes are a locator
locator_back : (bytes : List ℕ) (place : ℕ) → AreBytes bytes → place + 9 ≤ length bytes → bytes_at bytes place 9 ≡ locator_bytes (locator_at bytes place)
locator_back bytes place all within =
    ap (take 9) (drop_more bytes place 0 (omega arith))
    ∙ ap (λ after. get_or bytes place 0 ∷ after) (two_back bytes (place + 1) (place + 5) all (omega arith) (omega arith))

-- nine bytes for each of so many locators are these locators
locators_back : (count : ℕ) (bytes : List ℕ) (place : ℕ) → AreBytes bytes → place + 9 * count ≤ length bytes → bytes_at bytes place (9 * count) ≡ flat_map locator_bytes (locators_at count bytes place)
unfolding locators_at
locators_back zero bytes place all within = refl
locators_back (suc count) bytes place all within =
    let wide : 9 * suc count ≡ 9 + 9 * count = omega arith in
    ap (bytes_at bytes place) wide
    ∙ prefix_more (drop place bytes) (locator_bytes (locator_at bytes place)) (flat_map locator_bytes (locators_at count bytes (place + 9))) 9 (9 * count)
    (locator_back bytes place all (omega arith))
    (ap (take (9 * count)) (drop-drop 9 place bytes) ∙ locators_back count bytes (place + 9) all (omega arith))

-- the locators that are read from bytes lie in their ranges
locators_in_range : (count : ℕ) (bytes : List ℕ) (place : ℕ) → AreBytes bytes → AllByRecursion IsLocator (locators_at count bytes place)
unfolding locators_at
locators_in_range zero bytes place all = tt
locators_in_range (suc count) bytes place all = (
  record {
    number = byte_at_below bytes place all;
    place = rl_below bytes (place + 1) all;
    size = rl_below bytes (place + 5) all;
  },
  locators_in_range count bytes (place + 9) all,
)

-- what stands before the check word, field by field
fields_back : (bytes version : List ℕ) (count number : ℕ) (locators : List ℕ) → AreBytes bytes → take 6 bytes ≡ version → rl_at bytes 21 ≡ number → bytes_at bytes 25 (9 * count) ≡ locators → 25 + 9 * count ≤ length bytes
    → take (25 + 9 * count) bytes
    ≡ version ++ bytes_at bytes 6 7 ++ to_le_bytes w32 (rl_at bytes 13) ++ bytes_at bytes 17 2 ++ to_le_bytes w16 (rs_at bytes 19) ++ to_le_bytes w32 number ++ locators
fields_back bytes version count number locators all begins counted listed within =
    let lead = prefix_more bytes version (bytes_at bytes 6 7) 6 7 begins refl in
    let preview = prefix_more bytes _ _ 13 4 lead (rl_back bytes 13 all (omega arith)) in
    let mark = prefix_more bytes _ (bytes_at bytes 17 2) 17 2 preview refl in
    let code_page = prefix_more bytes _ _ 19 2 mark (rs_back bytes 19 all (omega arith)) in
    let length_field = prefix_more bytes _ _ 21 4 code_page (rl_back bytes 21 all (omega arith) ∙ ap (to_le_bytes w32) counted) in
    prefix_more bytes _ _ 25 (9 * count) length_field listed

-- the prefix of the header that is read is what stands before its check word
prefix_back : (bytes : List ℕ) → AreBytes bytes → take 6 bytes ≡ version_bytes (version_at bytes) → locators_end bytes ≤ length bytes → take (locators_end bytes) bytes ≡ header_prefix (header_at bytes)
unfolding count_at locators_end header_at
prefix_back bytes all begins within =
    let count = rl_at bytes 21 in
    let locators = locators_at count bytes 25 in
    fields_back bytes (version_bytes (version_at bytes)) count (length locators) (flat_map locator_bytes locators) all begins (sym (length_of_locators_at count bytes 25)) (locators_back count bytes 25 all within) within

-- the header that is read has as many locators as it says
counted_back : (bytes : List ℕ) → count_at bytes ≡ length (header_at bytes).locators
unfolding header_at
counted_back bytes = sym (length_of_locators_at (count_at bytes) bytes 25)

-- where each line on the locators holds, they locate the sections
locate_back : (bytes : List ℕ) → Passes bytes → LocateSections (locators_at (count_at bytes) bytes 25)
unfolding numbers_at
locate_back bytes passes =
    let counted : length (locators_at (count_at bytes) bytes 25) ≡ count_at bytes = length_of_locators_at (count_at bytes) bytes 25 in
    record {
      count = (subst (λ n. 3 ≤ n) (sym counted) passes.least, subst (λ n. n ≤ 6) (sym counted) passes.most);
      distinct = λ i j before inside. passes.distinct i j before (omega (arith, numbers_counted bytes));
      located = passes.located;
    }

-- the parts of the header that is read lie in their ranges
in_range_back : (bytes : List ℕ) → AreBytes bytes → Passes bytes → IsFileHeader (header_at bytes)
unfolding header_at
in_range_back bytes all passes =
    let long = passes.long in
    record {
      lead = (length_at bytes 6 7 (omega arith), are_bytes_at bytes 6 7 all);
      preview = rl_below bytes 13 all;
      mark = (length_at bytes 17 2 (omega arith), are_bytes_at bytes 17 2 all);
      code_page = rs_below bytes 19 all;
      locators = locators_in_range (count_at bytes) bytes 25 all;
      sections = locate_back bytes passes;
    }

-- a prefix, the two bytes after it, the sixteen after these, and the rest are the whole
whole_back : (bytes prefix check sentinel : List ℕ) (place : ℕ) → take place bytes ≡ prefix → bytes_at bytes place 2 ≡ check → bytes_at bytes (2 + place) 16 ≡ sentinel → bytes ≡ prefix ++ check ++ sentinel ++ drop (place + 2 + 16) bytes
whole_back bytes prefix check sentinel place before word end =
    let checked = prefix_more bytes prefix check place 2 before word in
    let closed = prefix_more bytes (prefix ++ check) sentinel (place + 2) 16 checked (ap (λ at. bytes_at bytes at 16) (add_comm place 2) ∙ end) in
    sym (take-append-drop (place + 2 + 16) bytes) ∙ ap (λ header. header ++ drop (place + 2 + 16) bytes) closed

-- bytes that are as each line asks begin with a header of this prefix and this count of locators
stands_back : (bytes : List ℕ) (header : FileHeader) → AreBytes bytes → Passes bytes → take (locators_end bytes) bytes ≡ header_prefix header → count_at bytes ≡ length header.locators
    → (rest : List ℕ) × (bytes ≡ header_bytes header ++ rest)
stands_back bytes header all passes before counted =
    let check = header_check_word (length header.locators) (header_prefix header) in
    let place = locators_end bytes in
    let word : bytes_at bytes place 2 ≡ to_le_bytes w16 check =
    rs_back bytes place all (omega (arith, passes.whole)) ∙ ap (to_le_bytes w16) (passes.check ∙ ap₂ header_check_word counted before) in
    (drop (place + 2 + 16) bytes, whole_back bytes (header_prefix header) (to_le_bytes w16 check) HEADER_SENTINEL place before word passes.sentinel)

-- bytes in which no line on the header fails begin with the header that is read
pub begins_with_header : PassingBytesBeginWithHeader
begins_with_header bytes all none =
    let passes = passes_from_none bytes none in
    let before = prefix_back bytes all passes.version (omega (arith, passes.whole)) in
    record {
      in_range = in_range_back bytes all passes;
      stands = stands_back bytes (header_at bytes) all passes before (counted_back bytes);
    }

-- where no line fails, the header by its places is the one that the bytes begin with
pub begins_with_value : (bytes : List ℕ) (header : FileHeader) → ((i : ℕ) → get_or bytes i 0 < 256) → first_fault HEADER_LINES bytes ≡ None → header ≡ header_at bytes → BeginsWithHeader bytes header
begins_with_value bytes header small none same = subst (BeginsWithHeader bytes) (sym same) (begins_with_header bytes (are_bytes bytes small) none)
