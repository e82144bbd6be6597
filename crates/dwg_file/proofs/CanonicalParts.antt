-- The parts of the canonical file: how long each is, and that its letters are bytes.
use Rattle.std.proofs.Common.{◌≡◌, refl, ◌∙◌, ap, take, drop, zero, suc, ℕ, ◌+◌, ◌*◌, ◌%◌, ◌^◌, ◌<◌, Bool, true, List, [], ◌∷◌, ◌++◌, length, length-append, arith}
use Rattle.std.specs.Prelude.{flat_map, nat_lt, ◌&&◌, slice_index}
use Rattle.std.proofs.lemmas.Bool.Decides.{nat_tests}
use Rattle.std.specs.Int.{w16, w32, to_le_bytes}
use Rattle.std.specs.List.{AllByRecursion}
use Rattle.dwg_base.specs.Versions.{version_bytes}
use Rattle.dwg_base.specs.declared.version.Version.{Version}
use Rattle.dwg_base.specs.declared.version.Version.TheVariants.{Ac1014, Ac1015}
use Rattle.dwg_sections.proofs.HeaderComplete.{header_is_counted}
use Rattle.dwg_base.specs.Bytes.{AreBytes}
use Rattle.dwg_bits.specs.Bits.{bits}
use Rattle.dwg_bits.proofs.PaddingLaw.{padding_fills}
use Rattle.dwg_bits.specs.Sink.{padding}
use Rattle.dwg_bits.proofs.WholeBytes.{whole_are_bytes, bits_of_whole}
use Rattle.dwg_check.specs.CheckWord.{CHECK_SEED, check_word, header_check_word}
use Rattle.dwg_classes.specs.declared.class.Class.{Class}
use Rattle.dwg_classes.specs.Class.{numbered_class, AreClasses}
use Rattle.dwg_classes.specs.WrittenClasses.{padded}
use Rattle.dwg_classes.proofs.WrittenClasses.{written_are_classes}
use Rattle.dwg_grammar.proofs.NumberLemmas.{bytes_of_number}
use Rattle.dwg_grammar.specs.ToEnd.{AreValues, short_all}
use Rattle.dwg_object.proofs.LengthLemmas.{bytes_joined}
use Rattle.dwg_sections.specs.declared.framed.Framed.{Framed}
use Rattle.dwg_sections.specs.declared.framed.Framed.TheVariants.{Variables, Classes}
use Rattle.dwg_sections.specs.declared.header.Locator.{Locator}
use Rattle.dwg_sections.specs.declared.header.FileHeader.{FileHeader}
use Rattle.dwg_sections.specs.FileHeader.{HEADER_SENTINEL, locator_bytes, header_prefix, header_bytes, IsLocator, IsFileHeader}
use Rattle.dwg_sections.specs.Framed.{VARIABLES_SENTINEL, CLASSES_SENTINEL, begin_sentinel, end_sentinel, complemented, sized_content, framed_bytes}
use Rattle.dwg_file.specs.Canonical.{Carried, IsCarried, NO_PICTURE, class_content, preview_at, preview_size}
use Rattle.dwg_preview.specs.Previews.{PREVIEW_SENTINEL, entries_moved, entry_at, entry_bytes, prefix_bytes, moved, moved_entry, preview_bytes}
use Rattle.dwg_preview.proofs.Moving.{moved_is_content}
use Rattle.dwg_preview.proofs.PreviewParts.{preview_is_counted}
use Rattle.dwg_sections.proofs.BytePieces.{are_bytes_at, byte_at_below}
use Rattle.dwg_file.proofs.SevenPieces.{seven_are_bytes}

-- each number is below 256
abbrev all_small : List ℕ → Bool
all_small [] = true
all_small (byte ∷ bytes) = nat_lt byte 256 && all_small bytes

-- then they are bytes
tested_bytes : (bytes : List ℕ) → all_small bytes ≡ true → AreBytes bytes
tested_bytes [] test = tt
tested_bytes (byte ∷ bytes) test =
    let one : byte < 2 ^ 8 = grind (arith, nat_tests) in
    let rest : all_small bytes ≡ true = grind (arith, nat_tests) in (one, tested_bytes bytes rest)

-- a header has 43 bytes, and nine for each locator
pub length_of_header : (header : FileHeader) → IsFileHeader header → length (header_bytes header) ≡ 43 + 9 * length header.locators
length_of_header = header_is_counted

-- locators are written in bytes
locators_are_bytes : (locators : List Locator) → AllByRecursion IsLocator locators → AreBytes (flat_map locator_bytes locators)
locators_are_bytes [] are = tt
locators_are_bytes (locator ∷ locators) are =
    bytes_joined (locator_bytes locator) (flat_map locator_bytes locators)
    (are.0.number, bytes_joined (to_le_bytes w32 locator.place) (to_le_bytes w32 locator.size) (bytes_of_number 0 4 locator.place) (bytes_of_number 0 4 locator.size))
    (locators_are_bytes locators are.1)

-- so is a header
pub header_is_bytes : (header : FileHeader) → IsFileHeader header → AreBytes (header_bytes header)
header_is_bytes header is =
    let check : List ℕ = to_le_bytes w16 (header_check_word (length header.locators) (header_prefix header)) in
    bytes_joined (header_prefix header ++ check) HEADER_SENTINEL
    (bytes_joined (header_prefix header) check
    (seven_are_bytes (version_bytes header.version) header.lead (to_le_bytes w32 header.preview) header.mark (to_le_bytes w16 header.code_page) (to_le_bytes w32 (length header.locators)) (flat_map locator_bytes header.locators)
    (version header.version) is.lead.1 (bytes_of_number 0 4 header.preview) is.mark.1 (bytes_of_number 0 2 header.code_page) (bytes_of_number 0 4 (length header.locators)) (locators_are_bytes header.locators is.locators))
    (bytes_of_number 0 2 (header_check_word (length header.locators) (header_prefix header))))
    sentinel
  where
    version : (version : Version) → AreBytes (version_bytes version)
    version Ac1014 = tested_bytes (version_bytes Ac1014) refl
    version Ac1015 = tested_bytes (version_bytes Ac1015) refl

    sentinel : AreBytes HEADER_SENTINEL
    sentinel = tested_bytes HEADER_SENTINEL refl

-- the sentinels of a section have sixteen bytes each
length_of_sentinels : (which : Framed) → (length (begin_sentinel which) ≡ 16) × (length (end_sentinel which) ≡ 16)
length_of_sentinels Variables = (refl, refl)
length_of_sentinels Classes = (refl, refl)

-- and they are bytes
sentinels_are_bytes : (which : Framed) → AreBytes (begin_sentinel which) × AreBytes (end_sentinel which)
sentinels_are_bytes Variables = (tested_bytes VARIABLES_SENTINEL refl, tested_bytes (complemented VARIABLES_SENTINEL) refl)
sentinels_are_bytes Classes = (tested_bytes CLASSES_SENTINEL refl, tested_bytes (complemented CLASSES_SENTINEL) refl)

-- a section has 38 bytes, and those of its content
pub length_of_framed : (which : Framed) (content : List ℕ) → length (framed_bytes which content) ≡ 38 + length content
length_of_framed which content =
    let check : List ℕ = to_le_bytes w16 (check_word CHECK_SEED (sized_content content)) in
    omega (
      arith,
      length-append (begin_sentinel which ++ sized_content content ++ check) (end_sentinel which),
      length-append (begin_sentinel which ++ sized_content content) check,
      length-append (begin_sentinel which) (sized_content content),
      length-append (to_le_bytes w32 (length content)) content,
      (length_of_sentinels which).0,
      (length_of_sentinels which).1,
    )

-- a section around bytes is written in bytes
pub framed_is_bytes : (which : Framed) (content : List ℕ) → AreBytes content → AreBytes (framed_bytes which content)
framed_is_bytes which content are =
    let check : List ℕ = to_le_bytes w16 (check_word CHECK_SEED (sized_content content)) in
    bytes_joined (begin_sentinel which ++ sized_content content ++ check) (end_sentinel which)
    (bytes_joined (begin_sentinel which ++ sized_content content) check
    (bytes_joined (begin_sentinel which) (sized_content content) (sentinels_are_bytes which).0
    (bytes_joined (to_le_bytes w32 (length content)) content (bytes_of_number 0 4 (length content)) are))
    (bytes_of_number 0 2 (check_word CHECK_SEED (sized_content content))))
    (sentinels_are_bytes which).1

-- a preview section has 36 bytes, and those of its content
pub length_of_preview : (carried : Carried) (place : ℕ) → IsCarried carried → place + 36 + length carried.content < 2 ^ 32 → length (preview_at carried place) ≡ preview_size carried
length_of_preview carried place is below =
    preview_is_counted (moved carried.place place carried.content) ∙ ap (λ n. 36 + n) (moved_is_content carried.place place carried.content is.is below).0

-- entries are written in bytes wherever they stand
entries_are_bytes : (from to count : ℕ) (content : List ℕ) (place : ℕ) → AreBytes content → AreBytes (entries_moved from to count content place)
unfolding entries_moved
entries_are_bytes from to zero content place are = tt
entries_are_bytes from to (suc count) content place are =
    let entry = moved_entry from to (entry_at content place) in
    bytes_joined (entry_bytes entry) (entries_moved from to count content (place + 9))
    (byte_at_below content place are, bytes_joined (to_le_bytes w32 entry.place) (to_le_bytes w32 entry.size) (bytes_of_number 0 4 entry.place) (bytes_of_number 0 4 entry.size))
    (entries_are_bytes from to count content (place + 9) are)

-- so is what stands before the further bytes
pub prefix_is_bytes : (carried : Carried) (place : ℕ) → AreBytes carried.content → AreBytes (prefix_bytes carried.place place carried.content)
prefix_is_bytes carried place are =
    let content = carried.content in
    let entries = entries_moved carried.place place (slice_index content 0) content 1 in
    bytes_joined (PREVIEW_SENTINEL ++ to_le_bytes w32 (length content)) (take 1 content ++ entries)
    (bytes_joined PREVIEW_SENTINEL (to_le_bytes w32 (length content)) (tested_bytes PREVIEW_SENTINEL refl) (bytes_of_number 0 4 (length content)))
    (bytes_joined (take 1 content) entries (are_bytes_at content 0 1 are) (entries_are_bytes carried.place place (slice_index content 0) content 1 are))

-- and so is a content
moved_is_bytes : (from to : ℕ) (content : List ℕ) → AreBytes content → AreBytes (moved from to content)
unfolding moved
moved_is_bytes from to content are =
    let count = slice_index content 0 in
    bytes_joined (take 1 content ++ entries_moved from to count content 1) (drop (1 + 9 * count) content)
    (bytes_joined (take 1 content) (entries_moved from to count content 1) (are_bytes_at content 0 1 are) (entries_are_bytes from to count content 1 are))
    (dropped_are_bytes (1 + 9 * count) content are)
  where
    dropped_are_bytes : (count : ℕ) (bytes : List ℕ) → AreBytes bytes → AreBytes (drop count bytes)
    dropped_are_bytes zero bytes all = all
    dropped_are_bytes (suc count) [] all = tt
    dropped_are_bytes (suc count) (byte ∷ bytes) all = dropped_are_bytes count bytes all.1

-- so is a preview section
pub preview_is_bytes : (carried : Carried) (place : ℕ) → IsCarried carried → AreBytes (preview_at carried place)
preview_is_bytes carried place is =
    let content = moved carried.place place carried.content in
    bytes_joined (PREVIEW_SENTINEL ++ to_le_bytes w32 (length content) ++ content) (complemented PREVIEW_SENTINEL)
    (bytes_joined (PREVIEW_SENTINEL ++ to_le_bytes w32 (length content)) content
    (bytes_joined PREVIEW_SENTINEL (to_le_bytes w32 (length content)) (tested_bytes PREVIEW_SENTINEL refl) (bytes_of_number 0 4 (length content)))
    (moved_is_bytes carried.place place carried.content is.are))
    (tested_bytes (complemented PREVIEW_SENTINEL) refl)

-- a preview without a picture is one
pub no_picture : IsCarried NO_PICTURE
no_picture = record {
  is = record { size = omega arith; entries = []; further = []; few = omega arith; are = tt; whole = refl; within = tt };
  are = (omega arith, tt);
}

-- and stays as it is
pub none_is_empty : (place : ℕ) → preview_at NO_PICTURE place ≡ preview_bytes (0 ∷ [])
unfolding moved entries_moved
none_is_empty place = refl

-- what is written of classes, padded, ends at a whole byte
pub padded_whole : (classes : List Class) → length (padded classes) % 8 ≡ 0
padded_whole classes =
    omega (arith, (padding_fills (short_all numbered_class classes)).0, length-append (short_all numbered_class classes) (padding (short_all numbered_class classes)))

-- the content of the classes has just these bits
pub bits_of_content : (classes : List Class) → bits (class_content classes) ≡ padded classes
bits_of_content classes = bits_of_whole (padded classes) (padded_whole classes)

-- it is bytes
pub content_is_bytes : (classes : List Class) → AreBytes (class_content classes)
content_is_bytes classes = whole_are_bytes (padded classes)

-- and is cut into the classes
pub content_is_classes : (classes : List Class) → AreValues numbered_class classes → AreClasses (class_content classes) classes
content_is_classes classes are = written_are_classes (class_content classes) classes are (bits_of_content classes)
