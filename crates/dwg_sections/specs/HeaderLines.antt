-- The lines of the table of refusals on the file header, and the parts of a header by their places. A rule of this project, over the file header of the Open Design Specification, "R13 to R2000 file layout".
use Rattle.std.specs.Prelude.{ℕ, zero, suc, ◌+◌, ◌*◌, Bool, not, ◌||◌, List, [], ◌∷◌, length, take, drop, bytes_eq, nat_lt, ◌==◌, slice_index, Option, option_map, find}
use Rattle.std.specs.List.{list_any, range_with_len}
use Rattle.std.specs.Int.{w16, w32, from_le_bytes}
use Rattle.dwg_base.specs.Refusals.{RefusalRow, refuse_if}
use Rattle.dwg_base.specs.Versions.{version_at, version_bytes}
use Rattle.dwg_base.specs.declared.version.Version.TheVariants.{Ac1014, Ac1015}
use Rattle.dwg_base.specs.Refusal.{Refusal}
use Rattle.dwg_check.specs.CheckWord.{header_check_word}
use Rattle.dwg_sections.specs.declared.header.Locator.{Locator}
use Rattle.dwg_sections.specs.declared.header.FileHeader.{FileHeader}
use Rattle.dwg_sections.specs.FileHeader.{HEADER_SENTINEL, locator_numbers}

-- so many bytes from the place
abbrev pub bytes_at : List ℕ → ℕ → ℕ → List ℕ
bytes_at bytes place count = take count (drop place bytes)

-- the RS at the place
abbrev pub rs_at : List ℕ → ℕ → ℕ
rs_at bytes place = from_le_bytes w16 (bytes_at bytes place 2)

-- the RL at the place
abbrev pub rl_at : List ℕ → ℕ → ℕ
rl_at bytes place = from_le_bytes w32 (bytes_at bytes place 4)

-- the count of locators that the header says it has
unfoldable pub count_at : List ℕ → ℕ
count_at bytes = rl_at bytes 21

-- where the locators end and the check word stands
unfoldable pub locators_end : List ℕ → ℕ
locators_end bytes = 25 + 9 * count_at bytes

-- fewer bytes than a header without locators has up to its count
unfoldable pub short_line : RefusalRow
short_line bytes = refuse_if (nat_lt (length bytes) 25) 1 0 (length bytes)

-- whether the first six bytes are those of a version that is read
abbrev pub begins_with_version : List ℕ → Bool
begins_with_version bytes = bytes_eq (take 6 bytes) (version_bytes Ac1014) || bytes_eq (take 6 bytes) (version_bytes Ac1015)

-- another version
unfoldable pub version_line : RefusalRow
version_line bytes = refuse_if (not (begins_with_version bytes)) 2 0 0

-- not three to six locators
unfoldable pub count_line : RefusalRow
count_line bytes = refuse_if (nat_lt (count_at bytes) 3 || nat_lt 6 (count_at bytes)) 3 0 21

-- fewer bytes than a header with so many locators has
unfoldable pub cut_line : RefusalRow
cut_line bytes = refuse_if (nat_lt (length bytes) (18 + locators_end bytes)) 4 0 (length bytes)

-- a wrong check word
unfoldable pub check_line : RefusalRow
check_line bytes =
    refuse_if (not (rs_at bytes (locators_end bytes) == header_check_word (count_at bytes) (take (locators_end bytes) bytes))) 5 0 (locators_end bytes)

-- a wrong sentinel
unfoldable pub sentinel_line : RefusalRow
sentinel_line bytes =
    refuse_if (not (bytes_eq (bytes_at bytes (2 + locators_end bytes) 16) HEADER_SENTINEL)) 6 0 (2 + locators_end bytes)

-- the locator at the place
abbrev pub locator_at : List ℕ → ℕ → Locator
locator_at bytes place =
    record { number = slice_index bytes place; place = rl_at bytes (place + 1); size = rl_at bytes (place + 5) }

-- so many locators, one after the other from the place
unfoldable pub locators_at : ℕ → List ℕ → ℕ → List Locator
locators_at zero bytes place = []
locators_at (suc count) bytes place = locator_at bytes place ∷ locators_at count bytes (place + 9)

-- the numbers of the locators that the header says it has
unfoldable pub numbers_at : List ℕ → List ℕ
numbers_at bytes = locator_numbers (locators_at (count_at bytes) bytes 25)

-- whether the number at an index stands earlier in the list too
abbrev pub stands_earlier : List ℕ → ℕ → Bool
stands_earlier numbers i = list_any (λ number. number == slice_index numbers i) (take i numbers)

-- the refusal of a locator with the number of an earlier one
abbrev pub repeated_refusal : ℕ → Refusal
repeated_refusal i = record { line = 7; index = i; place = 25 + 9 * i }

-- a locator with the number of an earlier one: the first such
unfoldable pub repeated_line : RefusalRow
repeated_line bytes = option_map repeated_refusal (find (stands_earlier (numbers_at bytes)) (range_with_len 0 (count_at bytes)))

-- whether a number is that of no locator
abbrev pub is_missing : List ℕ → ℕ → Bool
is_missing numbers number = not (list_any (λ other. other == number) numbers)

-- the refusal of a header without the locator of a number
abbrev pub missing_refusal : ℕ → Refusal
missing_refusal number = record { line = 8; index = number; place = 21 }

-- one of 0, 1 and 2 is no locator's number: the least such
unfoldable pub missing_line : RefusalRow
missing_line bytes = option_map missing_refusal (find (is_missing (numbers_at bytes)) (0 ∷ 1 ∷ 2 ∷ []))

-- the lines on the file header, in the order in which they are tried
abbrev pub HEADER_LINES : List RefusalRow
HEADER_LINES = short_line ∷ version_line ∷ count_line ∷ cut_line ∷ check_line ∷ sentinel_line ∷ repeated_line ∷ missing_line ∷ []

-- the header that the bytes begin with, where no line on the header fails
unfoldable pub header_at : List ℕ → FileHeader
header_at bytes = record {
  version = version_at bytes;
  lead = bytes_at bytes 6 7;
  preview = rl_at bytes 13;
  mark = bytes_at bytes 17 2;
  code_page = rs_at bytes 19;
  locators = locators_at (count_at bytes) bytes 25;
}

-- where the section of a number lies: the place of the first locator with it
abbrev pub place_of : ℕ → List Locator → Option ℕ
place_of number locators = option_map (λ (locator : Locator). locator.place) (find (λ (locator : Locator). locator.number == number) locators)
