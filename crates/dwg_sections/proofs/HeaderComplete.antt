-- Where bytes begin with a header, no line on the header fails, and that header is the one that is read.
use Rattle.std.proofs.Common.{◌≡◌, ℕ, ◌+◌, ◌*◌, ◌≤◌, List, [], ◌∷◌, ◌++◌, length, take, drop, get_or, sym, ap, ap₂, subst, ◌∙◌, refl, w16, w32, arith, drop-drop, drop_at, take_at, append_assoc, length-append}
use Rattle.std.specs.List.{AllByRecursion, flat_map}
use Rattle.std.specs.Int.{from_le_bytes, to_le_bytes}
use Rattle.std.proofs.lemmas.List.{get_or_at, length-map}
use Rattle.std.proofs.lemmas.Nat.{from_le_bytes-to_le_bytes_2, from_le_bytes-to_le_bytes_4}
use Rattle.dwg_base.specs.Versions.{version_at, version_bytes}
use Rattle.dwg_base.specs.declared.version.Version.{Version}
use Rattle.dwg_check.specs.CheckWord.{header_check_word}
use Rattle.dwg_check.proofs.CheckWordLaws.{header_check_word_fits}
use Rattle.dwg_sections.specs.declared.header.Locator.{Locator}
use Rattle.dwg_sections.specs.declared.header.FileHeader.{FileHeader}
use Rattle.dwg_sections.specs.FileHeader.{HEADER_SENTINEL, IsLocator, LocateSections, IsFileHeader, locator_bytes, locator_numbers, header_prefix}
use Rattle.dwg_sections.specs.HeaderLines.{bytes_at, rs_at, rl_at, count_at, locators_end, locator_at, locators_at, numbers_at, header_at}
use Rattle.dwg_sections.specs.HeaderLaws.{HeaderIsRead, HeaderIsCounted, HeaderGivesVersion}
use Rattle.dwg_sections.proofs.BytePieces.{piece_at}
use Rattle.dwg_sections.proofs.LocatorNumbers.{AreDistinct, AreLocated}
use Rattle.dwg_sections.proofs.HeaderPasses.{Passes, none_from_passes}
use Rattle.dwg_sections.proofs.VersionBegins.{read_as_begins, six}

-- so many locators have nine times so many bytes
length_of_locators : (locators : List Locator) → length (flat_map locator_bytes locators) ≡ 9 * length locators
length_of_locators [] = refl
length_of_locators (locator ∷ locators) = omega (arith, length_of_locators locators)

-- the locator of these numbers
abbrev locator_of : ℕ → ℕ → ℕ → Locator
locator_of number place size = record { number = number; place = place; size = size }

-- two locators with the same numbers are one
same_locator : (a b : Locator) → a.number ≡ b.number → a.place ≡ b.place → a.size ≡ b.size → a ≡ b
same_locator a b number place size =
    ap (λ n. locator_of n a.place a.size) number ∙ ap (λ n. locator_of b.number n a.size) place ∙ ap (λ n. locator_of b.number b.place n) size

-- the header of these parts
abbrev header_of : Version → List ℕ → ℕ → List ℕ → ℕ → List Locator → FileHeader
header_of version lead preview mark code_page locators =
    record { version = version; lead = lead; preview = preview; mark = mark; code_page = code_page; locators = locators }

-- two headers with the same parts are one
same_header : (a b : FileHeader) → a.version ≡ b.version → a.lead ≡ b.lead → a.preview ≡ b.preview → a.mark ≡ b.mark → a.code_page ≡ b.code_page → a.locators ≡ b.locators → a ≡ b
same_header a b version lead preview mark code_page locators =
    ap (λ part. header_of part a.lead a.preview a.mark a.code_page a.locators) version
    ∙ ap (λ part. header_of b.version part a.preview a.mark a.code_page a.locators) lead
    ∙ ap (λ part. header_of b.version b.lead part a.mark a.code_page a.locators) preview
    ∙ ap (λ part. header_of b.version b.lead b.preview part a.code_page a.locators) mark
    ∙ ap (λ part. header_of b.version b.lead b.preview b.mark part a.locators) code_page
    ∙ ap (λ part. header_of b.version b.lead b.preview b.mark b.code_page part) locators

-- what stands further on after a prefix of known length
after_prefix : (bytes prefix after : List ℕ) (place skip count : ℕ) → bytes ≡ prefix ++ after → length prefix ≡ place → bytes_at bytes (place + skip) count ≡ bytes_at after skip count
after_prefix bytes prefix after place skip count whole long =
    ap (take count) (sym (drop-drop skip place bytes) ∙ ap (drop skip) (ap (drop place) whole ∙ drop_at prefix after place long))

-- a locator is read where it stands
locator_read : (locator : Locator) (bytes prefix rest : List ℕ) (place : ℕ) → bytes ≡ prefix ++ (locator_bytes locator ++ rest) → length prefix ≡ place → IsLocator locator → locator ≡ locator_at bytes place
locator_read locator bytes prefix rest place whole long in_range =
    let after = to_le_bytes w32 locator.place ++ to_le_bytes w32 locator.size ++ rest in
    let number : get_or bytes place 0 ≡ locator.number = ap (λ xs. get_or xs place 0) whole ∙ get_or_at prefix locator.number after 0 place long in
    let at_place : rl_at bytes (place + 1) ≡ locator.place =
    ap (from_le_bytes w32) (after_prefix bytes prefix (locator_bytes locator ++ rest) place 1 4 whole long) ∙ from_le_bytes-to_le_bytes_4 locator.place in_range.place in
    let at_size : rl_at bytes (place + 5) ≡ locator.size =
    ap (from_le_bytes w32) (after_prefix bytes prefix (locator_bytes locator ++ rest) place 5 4 whole long) ∙ from_le_bytes-to_le_bytes_4 locator.size in_range.size in
    same_locator locator (locator_at bytes place) (sym number) (sym at_place) (sym at_size)

-- locators are read where they stand
locators_read : (locators : List Locator) (bytes prefix rest : List ℕ) (place : ℕ) → bytes ≡ prefix ++ (flat_map locator_bytes locators ++ rest) → length prefix ≡ place → AllByRecursion IsLocator locators
    → locators ≡ locators_at (length locators) bytes place
unfolding locators_at
locators_read [] bytes prefix rest place whole long in_range = refl
locators_read (locator ∷ locators) bytes prefix rest place whole long in_range =
    let here = locator_bytes locator in
    let further = flat_map locator_bytes locators in
    let first : bytes ≡ prefix ++ (here ++ (further ++ rest)) = whole ∙ ap (λ after. prefix ++ after) (append_assoc here further rest) in
    let other : bytes ≡ prefix ++ here ++ (further ++ rest) = first ∙ sym (append_assoc prefix here (further ++ rest)) in
    let long_more : length (prefix ++ here) ≡ place + 9 = length-append prefix here ∙ ap (λ n. n + 9) long in
    ap₂ ◌∷◌ (locator_read locator bytes prefix (further ++ rest) place first long in_range.0)
    (locators_read locators bytes (prefix ++ here) rest (place + 9) other long_more in_range.1)

-- where the fields before the locators stand
record FieldsStand (bytes version lead preview mark code_page count : List ℕ) : Type 0 where
  version_stands : take 6 bytes ≡ version
  lead_at : bytes_at bytes 6 7 ≡ lead
  preview_at : bytes_at bytes 13 4 ≡ preview
  mark_at : bytes_at bytes 17 2 ≡ mark
  code_page_at : bytes_at bytes 19 2 ≡ code_page
  count_stands : bytes_at bytes 21 4 ≡ count
  long : length (version ++ lead ++ preview ++ mark ++ code_page ++ count) ≡ 25

-- the fields before the locators stand at their places
fields_stand : (bytes version lead preview mark code_page count rest : List ℕ) → bytes ≡ version ++ lead ++ preview ++ mark ++ code_page ++ count ++ rest
    → length version ≡ 6 → length lead ≡ 7 → length preview ≡ 4 → length mark ≡ 2 → length code_page ≡ 2 → length count ≡ 4
    → FieldsStand bytes version lead preview mark code_page count
fields_stand bytes version lead preview mark code_page count rest whole six seven four two other_two other_four =
    let to_13 = length-append version lead ∙ ap₂ ◌+◌ six seven in
    let to_17 = length-append (version ++ lead) preview ∙ ap₂ ◌+◌ to_13 four in
    let to_19 = length-append (version ++ lead ++ preview) mark ∙ ap₂ ◌+◌ to_17 two in
    let to_21 = length-append (version ++ lead ++ preview ++ mark) code_page ∙ ap₂ ◌+◌ to_19 other_two in
    let to_25 = length-append (version ++ lead ++ preview ++ mark ++ code_page) count ∙ ap₂ ◌+◌ to_21 other_four in
    let from_21 = whole ∙ append_assoc (version ++ lead ++ preview ++ mark ++ code_page) count rest in
    let from_19 = from_21 ∙ append_assoc (version ++ lead ++ preview ++ mark) code_page (count ++ rest) in
    let from_17 = from_19 ∙ append_assoc (version ++ lead ++ preview) mark (code_page ++ (count ++ rest)) in
    let from_13 = from_17 ∙ append_assoc (version ++ lead) preview (mark ++ (code_page ++ (count ++ rest))) in
    let from_6 = from_13 ∙ append_assoc version lead (preview ++ (mark ++ (code_page ++ (count ++ rest)))) in
    record {
      version_stands = ap (take 6) from_6 ∙ take_at version _ 6 six;
      lead_at = piece_at bytes version lead _ 6 7 from_13 six seven;
      preview_at = piece_at bytes (version ++ lead) preview _ 13 4 from_17 to_13 four;
      mark_at = piece_at bytes (version ++ lead ++ preview) mark _ 17 2 from_19 to_17 two;
      code_page_at = piece_at bytes (version ++ lead ++ preview ++ mark) code_page _ 19 2 from_21 to_19 other_two;
      count_stands = piece_at bytes (version ++ lead ++ preview ++ mark ++ code_page) count _ 21 4 whole to_21 other_four;
      long = to_25;
    }

-- where the check word and the sentinel stand
record EndStands (bytes prefix check sentinel : List ℕ) (place : ℕ) : Type 0 where
  prefix_at : take place bytes ≡ prefix
  check_at : bytes_at bytes place 2 ≡ check
  sentinel_at : bytes_at bytes (2 + place) 16 ≡ sentinel
  within : 18 + place ≤ length bytes

-- the check word and the sentinel stand after the prefix
end_stands : (bytes prefix check sentinel rest : List ℕ) (place : ℕ) → bytes ≡ prefix ++ check ++ sentinel ++ rest → length prefix ≡ place → length check ≡ 2 → length sentinel ≡ 16
    → EndStands bytes prefix check sentinel place
end_stands bytes prefix check sentinel rest place whole long two sixteen =
    let from_check : bytes ≡ prefix ++ check ++ (sentinel ++ rest) = whole ∙ append_assoc (prefix ++ check) sentinel rest in
    let to_sentinel : length (prefix ++ check) ≡ 2 + place = omega (arith, length-append prefix check) in
    let size : length bytes ≡ length prefix + 18 + length rest =
    ap length whole ∙ omega (arith, length-append (prefix ++ check ++ sentinel) rest, length-append (prefix ++ check) sentinel, length-append prefix check) in
    record {
      prefix_at = ap (take place) (from_check ∙ append_assoc prefix check (sentinel ++ rest)) ∙ take_at prefix _ place long;
      check_at = piece_at bytes prefix check (sentinel ++ rest) place 2 from_check long two;
      sentinel_at = piece_at bytes (prefix ++ check) sentinel rest (2 + place) 16 whole to_sentinel sixteen;
      within = omega arith;
    }

-- what stands before the locators
abbrev before_locators : FileHeader → List ℕ
before_locators header =
    version_bytes header.version ++ header.lead ++ to_le_bytes w32 header.preview ++ header.mark ++ to_le_bytes w16 header.code_page ++ to_le_bytes w32 (length header.locators)

-- the fields before the locators stand at their places in bytes
abbrev PrefixStands : List ℕ → FileHeader → Type 0
PrefixStands bytes header =
    FieldsStand bytes (version_bytes header.version) header.lead (to_le_bytes w32 header.preview) header.mark (to_le_bytes w16 header.code_page) (to_le_bytes w32 (length header.locators))

-- the fields of a header stand at their places
prefix_stands : (bytes : List ℕ) (header : FileHeader) (rest : List ℕ) → IsFileHeader header → bytes ≡ header_prefix header ++ rest → PrefixStands bytes header
prefix_stands bytes header rest in_range whole =
    let locators = flat_map locator_bytes header.locators in
    fields_stand bytes (version_bytes header.version) header.lead (to_le_bytes w32 header.preview) header.mark (to_le_bytes w16 header.code_page) (to_le_bytes w32 (length header.locators)) (locators ++ rest)
    (whole ∙ append_assoc (before_locators header) locators rest) (six header.version) in_range.lead.0 refl in_range.mark.0 refl refl

-- the count of locators is read where it stands
count_read : (bytes : List ℕ) (header : FileHeader) → IsFileHeader header → PrefixStands bytes header → count_at bytes ≡ length header.locators
unfolding count_at
count_read bytes header in_range fields =
    let most : length header.locators ≤ 6 = in_range.sections.count.1 in
    ap (from_le_bytes w32) fields.count_stands ∙ from_le_bytes-to_le_bytes_4 (length header.locators) (omega arith)

-- the locators end where the prefix of the header ends
end_read : (bytes : List ℕ) (header : FileHeader) → PrefixStands bytes header → count_at bytes ≡ length header.locators → length (header_prefix header) ≡ locators_end bytes
unfolding locators_end
end_read bytes header fields counted =
    let locators = flat_map locator_bytes header.locators in
    length-append (before_locators header) locators ∙ ap₂ ◌+◌ fields.long (length_of_locators header.locators ∙ ap (λ n. 9 * n) (sym counted))

-- each part of the header is read where it stands
parts_read : (bytes : List ℕ) (header : FileHeader) (rest : List ℕ) → IsFileHeader header → bytes ≡ header_prefix header ++ rest → PrefixStands bytes header → count_at bytes ≡ length header.locators → header ≡ header_at bytes
unfolding header_at
parts_read bytes header rest in_range whole fields counted =
    let after = whole ∙ append_assoc (before_locators header) (flat_map locator_bytes header.locators) rest in
    same_header header (header_at bytes)
    (read_as_begins bytes header.version fields.version_stands)
    (sym fields.lead_at)
    (sym (ap (from_le_bytes w32) fields.preview_at ∙ from_le_bytes-to_le_bytes_4 header.preview in_range.preview))
    (sym fields.mark_at)
    (sym (ap (from_le_bytes w16) fields.code_page_at ∙ from_le_bytes-to_le_bytes_2 header.code_page in_range.code_page))
    (locators_read header.locators bytes (before_locators header) rest 25 after fields.long in_range.locators ∙ ap (λ count. locators_at count bytes 25) (sym counted))

-- the numbers of locators that are read are those of the header
numbers_read : (bytes : List ℕ) (header : FileHeader) → header ≡ header_at bytes → numbers_at bytes ≡ locator_numbers header.locators
unfolding header_at numbers_at
numbers_read bytes header same = ap (λ (read : FileHeader). locator_numbers read.locators) (sym same)

-- locators that locate the sections have distinct numbers
distinct_numbers : (locators : List Locator) → LocateSections locators → AreDistinct (locator_numbers locators)
distinct_numbers locators sections i j before inside =
    let counted : length (locator_numbers locators) ≡ length locators = length-map locators _ in
    sections.distinct i j before (omega arith)

-- bytes that begin with a header are as each line asks
passes_from_header : (bytes : List ℕ) (header : FileHeader) → IsFileHeader header → PrefixStands bytes header → count_at bytes ≡ length header.locators
    → EndStands bytes (header_prefix header) (to_le_bytes w16 (header_check_word (length header.locators) (header_prefix header))) HEADER_SENTINEL (locators_end bytes)
    → numbers_at bytes ≡ locator_numbers header.locators
    → Passes bytes
unfolding locators_end
passes_from_header bytes header in_range fields counted end numbered =
    let word : rs_at bytes (locators_end bytes) ≡ header_check_word (length header.locators) (header_prefix header) =
    ap (from_le_bytes w16) end.check_at ∙ from_le_bytes-to_le_bytes_2 _ (header_check_word_fits (length header.locators) (header_prefix header)) in
    let within : 18 + locators_end bytes ≤ length bytes = end.within in
    record {
      long = omega arith;
      version = fields.version_stands ∙ ap version_bytes (read_as_begins bytes header.version fields.version_stands);
      least = subst (λ count. 3 ≤ count) (sym counted) in_range.sections.count.0;
      most = subst (λ count. count ≤ 6) (sym counted) in_range.sections.count.1;
      whole = end.within;
      check = word ∙ ap₂ header_check_word (sym counted) (sym end.prefix_at);
      sentinel = end.sentinel_at;
      distinct = subst AreDistinct (sym numbered) (distinct_numbers header.locators in_range.sections);
      located = subst AreLocated (sym numbered) in_range.sections.located;
    }

-- where bytes begin with a header, no line on the header fails, and that header is the one that is read
pub header_is_read : HeaderIsRead
header_is_read bytes header begins =
    let rest = begins.stands.0 in
    let check = to_le_bytes w16 (header_check_word (length header.locators) (header_prefix header)) in
    let after : bytes ≡ header_prefix header ++ (check ++ (HEADER_SENTINEL ++ rest)) =
    begins.stands.1 ∙ append_assoc (header_prefix header ++ check) HEADER_SENTINEL rest ∙ append_assoc (header_prefix header) check (HEADER_SENTINEL ++ rest) in
    let fields = prefix_stands bytes header _ begins.in_range after in
    let counted = count_read bytes header begins.in_range fields in
    let end = end_stands bytes (header_prefix header) check HEADER_SENTINEL rest (locators_end bytes) begins.stands.1 (end_read bytes header fields counted) refl refl in
    let same : header ≡ header_at bytes = parts_read bytes header _ begins.in_range after fields counted in
    (none_from_passes bytes (passes_from_header bytes header begins.in_range fields counted end (numbers_read bytes header same)), same)

-- the version of the header that bytes begin with is the one by which they are read
pub header_gives_version : HeaderGivesVersion
unfolding header_at
header_gives_version bytes header begins = ap (λ (read : FileHeader). read.version) (header_is_read bytes header begins).1

-- what stands before the check word has 25 bytes, and nine for each locator
prefix_is_counted : (header : FileHeader) → IsFileHeader header → length (header_prefix header) ≡ 25 + 9 * length header.locators
prefix_is_counted header in_range =
    let fields = prefix_stands (header_prefix header ++ []) header [] in_range refl in
    length-append (before_locators header) (flat_map locator_bytes header.locators) ∙ ap₂ ◌+◌ fields.long (length_of_locators header.locators)

-- a header has 43 bytes, and nine for each locator
pub header_is_counted : HeaderIsCounted
header_is_counted header in_range =
    let check = to_le_bytes w16 (header_check_word (length header.locators) (header_prefix header)) in
    length-append (header_prefix header ++ check) HEADER_SENTINEL
    ∙ ap (λ n. n + 16) (length-append (header_prefix header) check ∙ ap (λ n. n + 2) (prefix_is_counted header in_range))
    ∙ omega arith
