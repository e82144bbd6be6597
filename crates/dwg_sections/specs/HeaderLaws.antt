-- Laws of the file header: what the input begins with, and what the lines on the header say, are one.
use Rattle.std.specs.Prelude.{◌≡◌, ℕ, ◌+◌, ◌*◌, ◌<◌, ◌↔◌, List, length, slice_index, Contains, Some, None}
use Rattle.dwg_base.specs.Bytes.{AreBytes}
use Rattle.dwg_base.specs.Refusals.{first_fault}
use Rattle.dwg_base.specs.Versions.{version_at}
use Rattle.dwg_base.specs.Refusal.{Refusal}
use Rattle.dwg_sections.specs.declared.header.Locator.{Locator}
use Rattle.dwg_sections.specs.declared.header.FileHeader.{FileHeader}
use Rattle.dwg_sections.specs.FileHeader.{IsFileHeader, BeginsWithHeader, OF_LOCATOR, WITHOUT_LOCATORS, header_bytes}
use Rattle.dwg_sections.specs.HeaderLines.{HEADER_LINES, count_at, numbers_at, repeated_refusal, missing_refusal, repeated_line, missing_line, header_at, place_of}

-- bytes in which no line on the header fails begin with the header that is read
abbrev pub PassingBytesBeginWithHeader : Type 0
PassingBytesBeginWithHeader =
    (bytes : List ℕ) → AreBytes bytes → first_fault HEADER_LINES bytes ≡ None → BeginsWithHeader bytes (header_at bytes)

-- where bytes begin with a header, no line on the header fails, and that header is the one that is read: so there is no other
abbrev pub HeaderIsRead : Type 0
HeaderIsRead =
    (bytes : List ℕ) (header : FileHeader) → BeginsWithHeader bytes header
    → (first_fault HEADER_LINES bytes ≡ None) × (header ≡ header_at bytes)

-- the version of the header that bytes begin with is the one by which they are read
abbrev pub HeaderGivesVersion : Type 0
HeaderGivesVersion = (bytes : List ℕ) (header : FileHeader) → BeginsWithHeader bytes header → header.version ≡ version_at bytes

-- a header has so many bytes without its locators, and so many for each
abbrev pub HeaderIsCounted : Type 0
HeaderIsCounted = (header : FileHeader) → IsFileHeader header → length (header_bytes header) ≡ WITHOUT_LOCATORS + OF_LOCATOR * length header.locators

-- a header has a locator of each of the numbers 0, 1 and 2, and it says where the section of the number lies
abbrev pub SectionsAreLocated : Type 0
SectionsAreLocated =
    (header : FileHeader) (number : ℕ) → IsFileHeader header → number < 3
    → (locator : Locator) × Contains header.locators locator × (locator.number ≡ number) × (place_of number header.locators ≡ Some locator.place)

-- the number at an index stands at an earlier one too
abbrev pub StandsTwice : List ℕ → ℕ → Type 0
StandsTwice numbers index = (earlier : ℕ) × (earlier < index) × (slice_index numbers earlier ≡ slice_index numbers index)

-- the refusal reports the first locator that has the number of an earlier one
pub record IsFirstRepeated (bytes : List ℕ) (refusal : Refusal) : Type 0 where
  pub index : ℕ
  pub inside : index < count_at bytes
  pub reports : refusal ≡ repeated_refusal index
  pub repeats : StandsTwice (numbers_at bytes) index
  pub first : (earlier : ℕ) → earlier < index → StandsTwice (numbers_at bytes) earlier → ⊥

-- the line on repeated numbers refuses exactly where a locator has the number of an earlier one, and reports the first such
abbrev pub RepeatedIsFirst : Type 0
RepeatedIsFirst = (bytes : List ℕ) (refusal : Refusal) → (repeated_line bytes ≡ Some refusal) ↔ IsFirstRepeated bytes refusal

-- the refusal reports the least of 0, 1 and 2 that no locator has
pub record IsLeastMissing (bytes : List ℕ) (refusal : Refusal) : Type 0 where
  pub number : ℕ
  pub wanted : number < 3
  pub reports : refusal ≡ missing_refusal number
  pub missing : Contains (numbers_at bytes) number → ⊥
  pub least : (lesser : ℕ) → lesser < number → Contains (numbers_at bytes) lesser

-- the line on missing numbers refuses exactly where no locator has one of 0, 1 and 2, and reports the least such
abbrev pub MissingIsLeast : Type 0
MissingIsLeast = (bytes : List ℕ) (refusal : Refusal) → (missing_line bytes ≡ Some refusal) ↔ IsLeastMissing bytes refusal
