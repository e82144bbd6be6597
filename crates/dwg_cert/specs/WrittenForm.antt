-- The bytes that a certificate is written as. A rule of this project.
use Rattle.std.specs.Prelude.{◌≡◌, ℕ, ◌+◌, ◌*◌, List, ◌++◌, length, Option, Some, None, codes, flat_map}
use Rattle.std.specs.Int.{w64, to_le_bytes}
use Rattle.dwg_cert.specs.declared.entry.Entry.{Entry}
use Rattle.dwg_cert.specs.Certificates.{IsCertificate, HaveHandles}

-- the eight bytes that each certificate begins with
abbrev pub MAGIC : List ℕ
MAGIC = codes "DWGCERT1"

-- what is stored of a number that may be missing: 0 for none, and else the number plus 1
abbrev pub stored : Option ℕ → ℕ
stored None = 0
stored (Some number) = number + 1

-- an entry: three numbers of eight bytes, the least significant byte first: the handle, the stored rank, the stored place in a chain
unfoldable pub entry_bytes : Entry → List ℕ
entry_bytes entry = to_le_bytes w64 entry.handle ++ to_le_bytes w64 (stored entry.rank) ++ to_le_bytes w64 (stored entry.chain)

-- a certificate: the eight bytes of its begin, the count of its entries in eight bytes, the entries
unfoldable pub certificate_bytes : List Entry → List ℕ
certificate_bytes entries = MAGIC ++ to_le_bytes w64 (length entries) ++ flat_map entry_bytes entries

-- how many bytes stand before the entries of a certificate, and how many an entry has
abbrev pub BEFORE_ENTRIES : ℕ
BEFORE_ENTRIES = 16

abbrev pub OF_ENTRY : ℕ
OF_ENTRY = 24

-- how many bytes a certificate of so many entries has
abbrev pub size_of : ℕ → ℕ
size_of count = BEFORE_ENTRIES + OF_ENTRY * count

-- the input is the form of the certificate of these entries, and then the rest
pub record BeginsWithCertificate (bytes : List ℕ) (entries : List Entry) (rest : List ℕ) : Type 0 where
  pub certificate : IsCertificate entries
  pub handles : HaveHandles entries
  pub whole : bytes ≡ certificate_bytes entries ++ rest
