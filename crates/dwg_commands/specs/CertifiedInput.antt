-- An input that is a certificate and then a drawing. A rule of this project.
use Rattle.std.specs.Prelude.{ℕ, List, []}
use Rattle.std.specs.Result.{result_unwrap_or}
use Rattle.dwg_base.specs.Refusals.{RefusalRow, first_fault}
use Rattle.dwg_cert.specs.CertificateLines.{after_certificate, tried_certificate}
use Rattle.dwg_cert.specs.declared.entry.Entry.{Entry}
use Rattle.dwg_file.specs.FileLines.{ALL_LINES}

-- the certificate that an input begins with, where no line on it fails
unfoldable pub cert_in : List ℕ → List Entry
cert_in bytes = result_unwrap_or (tried_certificate bytes) []

-- what stands after it
unfoldable pub drawing_bytes : List ℕ → List ℕ
drawing_bytes bytes = after_certificate (cert_in bytes) bytes

-- the lines on the drawing there, whose places are counted from its first byte
unfoldable pub drawing_row : RefusalRow
drawing_row bytes = first_fault ALL_LINES (drawing_bytes bytes)
