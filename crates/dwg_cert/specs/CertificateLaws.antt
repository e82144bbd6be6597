-- Laws of certificates: what an input begins with, and what the lines on a certificate say, are one.
use Rattle.std.specs.Prelude.{◌≡◌, ℕ, List, ◌++◌, length, ◌↔◌, None, Ok, Err}
use Rattle.dwg_base.specs.Bytes.{AreBytes}
use Rattle.dwg_base.specs.Refusals.{first_fault}
use Rattle.dwg_base.specs.Refusal.{Refusal}
use Rattle.dwg_cert.specs.declared.entry.Entry.{Entry}
use Rattle.dwg_cert.specs.Certificates.{IsCertificate, HaveHandles}
use Rattle.dwg_cert.specs.WrittenForm.{BeginsWithCertificate, certificate_bytes, size_of}
use Rattle.dwg_cert.specs.CertificateLines.{CERTIFICATE_LINES, RefusesEntry, after_certificate, tried_certificate}

-- the input begins with the form of some certificate
abbrev pub HasCertificate : List ℕ → Type 0
HasCertificate bytes = (entries : List Entry) × (rest : List ℕ) × BeginsWithCertificate bytes entries rest

-- no line on a certificate fails exactly where bytes begin with the form of one
abbrev pub LinesAreExact : Type 0
LinesAreExact = (bytes : List ℕ) → AreBytes bytes → (first_fault CERTIFICATE_LINES bytes ≡ None) ↔ HasCertificate bytes

-- bytes in which no line fails begin with the certificate that is read, and the rest stands after it
abbrev pub PassingBytesBeginWithCertificate : Type 0
PassingBytesBeginWithCertificate =
    (bytes : List ℕ) (entries : List Entry) → AreBytes bytes → first_fault CERTIFICATE_LINES bytes ≡ None → tried_certificate bytes ≡ Ok entries
    → BeginsWithCertificate bytes entries (after_certificate entries bytes)

-- where an input begins with the form of a certificate, no line fails, that certificate is read, and the rest is what stands after it
abbrev pub CertificateIsRead : Type 0
CertificateIsRead =
    (bytes : List ℕ) (entries : List Entry) (rest : List ℕ) → BeginsWithCertificate bytes entries rest
    → (first_fault CERTIFICATE_LINES bytes ≡ None) × (tried_certificate bytes ≡ Ok entries) × (after_certificate entries bytes ≡ rest)

-- an input begins with the form of at most one certificate, and so there is one rest after it
abbrev pub CertificateIsUnique : Type 0
CertificateIsUnique =
    (bytes : List ℕ) (entries others : List Entry) (rest more : List ℕ) → BeginsWithCertificate bytes entries rest → BeginsWithCertificate bytes others more
    → (entries ≡ others) × (rest ≡ more)

-- of the form of a certificate, whatever follows, no line fails, and that certificate is read
abbrev pub WrittenIsRead : Type 0
WrittenIsRead =
    (entries : List Entry) (rest : List ℕ) → IsCertificate entries → HaveHandles entries
    → (first_fault CERTIFICATE_LINES (certificate_bytes entries ++ rest) ≡ None) × (tried_certificate (certificate_bytes entries ++ rest) ≡ Ok entries)

-- the line on entries refuses exactly the first entry that fails
abbrev pub RefusedEntryIsFirst : Type 0
RefusedEntryIsFirst = (bytes : List ℕ) (refusal : Refusal) → (tried_certificate bytes ≡ Err refusal) ↔ RefusesEntry bytes refusal

-- entries that are read are those of a certificate
abbrev pub ReadEntriesAreCertificate : Type 0
ReadEntriesAreCertificate = (bytes : List ℕ) (entries : List Entry) → tried_certificate bytes ≡ Ok entries → IsCertificate entries × HaveHandles entries

-- how long the form of a certificate is
abbrev pub CertificateIsCounted : Type 0
CertificateIsCounted = (entries : List Entry) → length (certificate_bytes entries) ≡ size_of (length entries)

-- the form of a certificate is bytes
abbrev pub FormIsBytes : Type 0
FormIsBytes = (entries : List Entry) → AreBytes (certificate_bytes entries)
