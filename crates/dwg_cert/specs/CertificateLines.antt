-- The lines of the table of refusals on a certificate, and what an input says that its certificate is. A rule of this project.
use Rattle.std.specs.Prelude.{◌≡◌, ◌⊎◌, ℕ, zero, suc, ◌+◌, ◌-◌, ◌^◌, ◌<◌, ◌≤◌, Bool, not, ◌||◌, ◌==◌, List, [], ◌∷◌, length, take, drop, map, find, nat_lt, nat_le, bytes_eq, Option, Some, None, Ok, Err, if◌then◌else◌}
use Rattle.std.specs.List.{range_with_len}
use Rattle.std.specs.Int.{w64, from_le_bytes}
use Rattle.dwg_base.specs.Refusals.{RefusalRow, Tried, refuse_if, fault_of}
use Rattle.dwg_base.specs.Refusal.{Refusal}
use Rattle.dwg_cert.specs.declared.entry.Entry.{Entry}
use Rattle.dwg_cert.specs.WrittenForm.{MAGIC, BEFORE_ENTRIES, size_of}

-- the number in the eight bytes at a place, the least significant byte first
unfoldable pub number_at : List ℕ → ℕ → ℕ
number_at bytes place = from_le_bytes w64 (take 8 (drop place bytes))

-- how many entries the input says that its certificate has
unfoldable pub count_at : List ℕ → ℕ
count_at bytes = number_at bytes 8

-- fewer bytes than a certificate has before its entries
unfoldable pub short_line : RefusalRow
short_line bytes = refuse_if (nat_lt (length bytes) BEFORE_ENTRIES) 34 0 (length bytes)

-- another begin
unfoldable pub begin_line : RefusalRow
begin_line bytes = refuse_if (not (bytes_eq (take 8 bytes) MAGIC)) 35 0 0

-- fewer bytes than a certificate with so many entries has
unfoldable pub length_line : RefusalRow
length_line bytes = refuse_if (nat_lt (length bytes) (size_of (count_at bytes))) 36 0 8

-- the three numbers that are stored of the entry of an index
abbrev pub stored_handle_at : List ℕ → ℕ → ℕ
stored_handle_at bytes index = number_at bytes (size_of index)

abbrev pub stored_rank_at : List ℕ → ℕ → ℕ
stored_rank_at bytes index = number_at bytes (size_of index + 8)

abbrev pub stored_chain_at : List ℕ → ℕ → ℕ
stored_chain_at bytes index = number_at bytes (size_of index + 16)

-- what a number that may be missing was stored as: none as 0, and else a number as itself plus 1
abbrev pub unstored : ℕ → Option ℕ
unstored number = if number == 0 then None else Some (number - 1)

-- the entry of an index
unfoldable pub entry_stated_at : List ℕ → ℕ → Entry
entry_stated_at bytes index = record {
  handle = stored_handle_at bytes index;
  rank = unstored (stored_rank_at bytes index);
  chain = unstored (stored_chain_at bytes index);
}

-- the least handle that the entry of an index may have: any at first, and else one above that of the entry before it
unfoldable pub least_handle : List ℕ → ℕ → ℕ
least_handle bytes zero = 0
least_handle bytes (suc index) = stored_handle_at bytes index + 1

-- whether the entry of an index fails: its handle is too small or no handle, or its rank or its place is too large
unfoldable pub entry_fails : List ℕ → ℕ → Bool
entry_fails bytes index =
    nat_lt (stored_handle_at bytes index) (least_handle bytes index) || nat_le (2 ^ 63) (stored_handle_at bytes index)
    || nat_lt (2 ^ 62) (stored_rank_at bytes index) || nat_lt (2 ^ 62) (stored_chain_at bytes index)

-- the refusal of an entry
abbrev pub entry_refusal : ℕ → Refusal
entry_refusal index = record { line = 37; index = index; place = size_of index }

-- the entries that the input says its certificate has
unfoldable pub entries_at : List ℕ → List Entry
entries_at bytes = map (entry_stated_at bytes) (range_with_len 0 (count_at bytes))

-- the first of them that fails
unfoldable pub first_failing : List ℕ → Option ℕ
first_failing bytes = find (entry_fails bytes) (range_with_len 0 (count_at bytes))

-- entries, where none of them fails, or the refusal of the first that does
abbrev pub tried_entries : List Entry → Option ℕ → Tried (List Entry)
tried_entries entries None = Ok entries
tried_entries entries (Some index) = Err (entry_refusal index)

-- the entries of the certificate that the input begins with, or the refusal of the first that fails
unfoldable pub tried_certificate : List ℕ → Tried (List Entry)
tried_certificate bytes = tried_entries (entries_at bytes) (first_failing bytes)

-- an entry that fails
unfoldable pub entry_line : RefusalRow
entry_line bytes = fault_of (tried_certificate bytes)

-- the lines on a certificate, in the order in which they are tried
abbrev pub CERTIFICATE_LINES : List RefusalRow
CERTIFICATE_LINES = short_line ∷ begin_line ∷ length_line ∷ entry_line ∷ []

-- what stands after the certificate of these entries
abbrev pub after_certificate : List Entry → List ℕ → List ℕ
after_certificate entries bytes = drop (size_of (length entries)) bytes

-- the handle of the entry of an index isn't above that of the entry before it, if there is one
abbrev pub IsNotAbove : List ℕ → ℕ → Type 0
IsNotAbove bytes index = (before : ℕ) × (before + 1 ≡ index) × (stored_handle_at bytes index ≤ stored_handle_at bytes before)

-- the entry of an index fails: its handle is 2^63 or more, or isn't above the one before, or its rank or its place is stored as more than 2^62
abbrev pub EntryFails : List ℕ → ℕ → Type 0
EntryFails bytes index =
    (2 ^ 63 ≤ stored_handle_at bytes index) ⊎ IsNotAbove bytes index ⊎ (2 ^ 62 < stored_rank_at bytes index) ⊎ (2 ^ 62 < stored_chain_at bytes index)

-- the refusal is that of the first entry that fails
pub record RefusesEntry (bytes : List ℕ) (refusal : Refusal) : Type 0 where
  pub index : ℕ
  pub inside : index < count_at bytes
  pub reports : refusal ≡ entry_refusal index
  pub fails : EntryFails bytes index
  pub first : (earlier : ℕ) → earlier < index → EntryFails bytes earlier → ⊥
