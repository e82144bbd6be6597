-- The form of a certificate: how long it is, and that it is bytes.
use Rattle.std.proofs.Common.{◌≡◌, refl, ℕ, zero, suc, ◌*◌, ◌^◌, ◌<◌, List, [], ◌∷◌, ◌++◌, length, w64, arith, length-append}
use Rattle.std.specs.List.{flat_map}
use Rattle.std.specs.Int.{byte_at, bytes_low_first, to_le_bytes}
use Rattle.dwg_base.specs.Bytes.{AreBytes}
use Rattle.dwg_base.proofs.ByteLists.{joined_are_bytes}
use Rattle.dwg_cert.specs.declared.entry.Entry.{Entry}
use Rattle.dwg_cert.specs.WrittenForm.{MAGIC, stored, entry_bytes, certificate_bytes}
use Rattle.dwg_cert.specs.CertificateLaws.{CertificateIsCounted, FormIsBytes}

-- an entry has 24 bytes
pub length_of_entry : (entry : Entry) → length (entry_bytes entry) ≡ 24
unfolding entry_bytes
length_of_entry entry = refl

-- so many entries have 24 times so many
pub length_of_entries : (entries : List Entry) → length (flat_map entry_bytes entries) ≡ 24 * length entries
length_of_entries [] = refl
length_of_entries (entry ∷ entries) = omega (arith, length-append (entry_bytes entry) (flat_map entry_bytes entries), length_of_entry entry, length_of_entries entries)

-- the form of a certificate has 16 bytes, and 24 for each entry
pub certificate_is_counted : CertificateIsCounted
unfolding certificate_bytes
certificate_is_counted entries =
    omega (arith, length-append (MAGIC ++ to_le_bytes w64 (length entries)) (flat_map entry_bytes entries), length_of_entries entries)

-- the bytes of a number are bytes
number_is_bytes : (i count value : ℕ) → AreBytes (bytes_low_first i count value)
number_is_bytes i zero value = tt
number_is_bytes i (suc count) value = (below i, number_is_bytes (suc i) count value)
  where
    below : (i : ℕ) → byte_at i value < 2 ^ 8
    below zero = omega arith
    below (suc i) = omega arith

-- so are those of an entry
entry_is_bytes : (entry : Entry) → AreBytes (entry_bytes entry)
unfolding entry_bytes
entry_is_bytes entry =
    let prefix = to_le_bytes w64 entry.handle ++ to_le_bytes w64 (stored entry.rank) in
    joined_are_bytes prefix (to_le_bytes w64 (stored entry.chain))
    (joined_are_bytes (to_le_bytes w64 entry.handle) (to_le_bytes w64 (stored entry.rank)) (number_is_bytes 0 8 entry.handle) (number_is_bytes 0 8 (stored entry.rank)))
    (number_is_bytes 0 8 (stored entry.chain))

-- those of entries
entries_are_bytes : (entries : List Entry) → AreBytes (flat_map entry_bytes entries)
entries_are_bytes [] = tt
entries_are_bytes (entry ∷ entries) = joined_are_bytes (entry_bytes entry) (flat_map entry_bytes entries) (entry_is_bytes entry) (entries_are_bytes entries)

-- those of the begin of each certificate
magic_is_bytes : AreBytes MAGIC
magic_is_bytes = (omega arith, (omega arith, (omega arith, (omega arith, (omega arith, (omega arith, (omega arith, (omega arith, tt))))))))

-- and those of a certificate
pub form_is_bytes : FormIsBytes
unfolding certificate_bytes
form_is_bytes entries =
    joined_are_bytes (MAGIC ++ to_le_bytes w64 (length entries)) (flat_map entry_bytes entries)
    (joined_are_bytes MAGIC (to_le_bytes w64 (length entries)) magic_is_bytes (number_is_bytes 0 8 (length entries)))
    (entries_are_bytes entries)
