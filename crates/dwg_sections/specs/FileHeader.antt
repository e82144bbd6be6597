-- The file header (Open Design Specification, "R13 to R2000 file layout"): what it spells.
use Rattle.std.specs.Prelude.{◌≡◌, ◌≢◌, ℕ, ◌^◌, ◌<◌, ◌≤◌, List, [], ◌∷◌, ◌++◌, length, map, slice_index, Contains, flat_map}
use Rattle.std.specs.List.{AllByRecursion}
use Rattle.std.specs.Int.{w16, w32, to_le_bytes}
use Rattle.dwg_base.specs.Bytes.{AreBytes}
use Rattle.dwg_base.specs.Versions.{version_bytes}
use Rattle.dwg_check.specs.CheckWord.{header_check_word}
use Rattle.dwg_sections.specs.declared.header.Locator.{Locator}
use Rattle.dwg_sections.specs.declared.header.FileHeader.{FileHeader}

-- the sixteen bytes after the header's check word
abbrev pub HEADER_SENTINEL : List ℕ
HEADER_SENTINEL = 0x95 ∷ 0xA0 ∷ 0x4E ∷ 0x28 ∷ 0x99 ∷ 0x82 ∷ 0x1A ∷ 0xE5 ∷ 0x5E ∷ 0x41 ∷ 0xE0 ∷ 0x5F ∷ 0x9D ∷ 0x3A ∷ 0x4D ∷ 0x00 ∷ []

-- a locator: RC number, RL place, RL size
abbrev pub locator_bytes : Locator → List ℕ
locator_bytes locator = locator.number ∷ (to_le_bytes w32 locator.place ++ to_le_bytes w32 locator.size)

-- what stands before the check word: the version, seven bytes, RL place of the preview, two bytes, RS code page, RL count of locators, the locators
abbrev pub header_prefix : FileHeader → List ℕ
header_prefix header =
    version_bytes header.version ++ header.lead ++ to_le_bytes w32 header.preview ++ header.mark ++ to_le_bytes w16 header.code_page
    ++ to_le_bytes w32 (length header.locators) ++ flat_map locator_bytes header.locators

-- the whole header: its prefix, RS check word, sentinel
abbrev pub header_bytes : FileHeader → List ℕ
header_bytes header =
    header_prefix header ++ to_le_bytes w16 (header_check_word (length header.locators) (header_prefix header)) ++ HEADER_SENTINEL

-- how many bytes a header has without its locators, and how many a locator
abbrev pub WITHOUT_LOCATORS : ℕ
WITHOUT_LOCATORS = 43

abbrev pub OF_LOCATOR : ℕ
OF_LOCATOR = 9

-- the numbers of a locator lie in the ranges of their types
pub record IsLocator (locator : Locator) : Type 0 where
  pub number : locator.number < 2 ^ 8
  pub place : locator.place < 2 ^ 32
  pub size : locator.size < 2 ^ 32

-- the numbers of locators, in file order
abbrev pub locator_numbers : List Locator → List ℕ
locator_numbers locators = map (λ locator. locator.number) locators

-- there are three to six locators, their numbers are distinct, and 0, 1 and 2 are among them
pub record LocateSections (locators : List Locator) : Type 0 where
  pub count : (3 ≤ length locators) × (length locators ≤ 6)
  pub distinct : (i j : ℕ) → i < j → j < length locators → slice_index (locator_numbers locators) i ≢ slice_index (locator_numbers locators) j
  pub located : (number : ℕ) → number < 3 → Contains (locator_numbers locators) number

-- the parts of a header lie in the ranges of their types, and its locators locate the sections
pub record IsFileHeader (header : FileHeader) : Type 0 where
  pub lead : (length header.lead ≡ 7) × AreBytes header.lead
  pub preview : header.preview < 2 ^ 32
  pub mark : (length header.mark ≡ 2) × AreBytes header.mark
  pub code_page : header.code_page < 2 ^ 16
  pub locators : AllByRecursion IsLocator header.locators
  pub sections : LocateSections header.locators

-- the input begins with this file header
pub record BeginsWithHeader (bytes : List ℕ) (header : FileHeader) : Type 0 where
  pub in_range : IsFileHeader header
  pub stands : (rest : List ℕ) × (bytes ≡ header_bytes header ++ rest)
