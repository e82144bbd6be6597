-- A fault that reports the first refusal of some lines reports that of more.
use Rattle.std.proofs.Common.{◌≡◌, refl, ap, ◌∙◌, subst, sym, ℕ, List, [], ◌∷◌, ◌++◌, Option, Some, None}
use Rattle.std.specs.Option.{option_or}
use Rattle.dwg_base.specs.Refusals.{RefusalRow, first_fault, Reports}
use Rattle.dwg_base.specs.Refusal.{Refusal}
use Rattle.dwg_base.specs.declared.refusal.Fault.{Fault}
use Rattle.dwg_base.specs.declared.refusal.Fault.TheVariants.{NoMemory, Refused}
use Rattle.dwg_cert.specs.CertificateLines.{CERTIFICATE_LINES}
use Rattle.dwg_sections.specs.HeaderLines.{HEADER_LINES}
use Rattle.dwg_commands.specs.declared.words.Command.TheVariants.{Classes, Accept}
use Rattle.dwg_file.specs.FileLines.{ALL_LINES, classes_section_row, classes_row}
use Rattle.dwg_commands.specs.CertifiedInput.{drawing_bytes, drawing_row}
use Rattle.dwg_commands.specs.Commands.{lines_of, row_of}
use Rattle.dwg_commands.specs.Pendings.{IsRefused, IsRefusedBy}

-- a refusal of one row or of those after it is that of the row or of more rows after it
by_row : (here after longer : Option Refusal) (refusal : Refusal) → (after ≡ Some refusal → longer ≡ Some refusal) → option_or here after ≡ Some refusal → option_or here longer ≡ Some refusal
by_row (Some one) after longer refusal further reported = reported
by_row None after longer refusal further reported = further reported

-- a refusal by a line stands first among more lines
first_of_more : (rows more : List RefusalRow) (bytes : List ℕ) (refusal : Refusal) → first_fault rows bytes ≡ Some refusal → first_fault (rows ++ more) bytes ≡ Some refusal
first_of_more [] more bytes refusal reported = absurd cc
first_of_more (row ∷ rows) more bytes refusal reported =
    by_row (row bytes) (first_fault rows bytes) (first_fault (rows ++ more) bytes) refusal (first_of_more rows more bytes refusal) reported

-- a fault that reports the first refusal of some lines reports that of more
reported_by_more : (fault : Fault) (rows more : List RefusalRow) (bytes : List ℕ) → Reports fault (first_fault rows bytes) → Reports fault (first_fault (rows ++ more) bytes)
reported_by_more NoMemory rows more bytes reports = reports
reported_by_more (Refused refusal) rows more bytes reports = first_of_more rows more bytes refusal reports

-- a fault of the header is what `classes` is refused by
pub refused_by_header : (fault : Fault) (bytes : List ℕ) → Reports fault (first_fault HEADER_LINES bytes) → IsRefused Classes bytes fault
unfolding row_of
refused_by_header fault bytes reports = reported_by_more fault HEADER_LINES (classes_section_row ∷ classes_row ∷ []) bytes reports

-- a line on the certificate that fails is the first of `accept`, and a fault of the certificate is what that is refused by
pub refused_first : (bytes : List ℕ) (refusal : Refusal) → first_fault CERTIFICATE_LINES bytes ≡ Some refusal → first_fault (lines_of Accept) bytes ≡ Some refusal
unfolding row_of
refused_first bytes refusal fails = first_of_more CERTIFICATE_LINES (drawing_row ∷ []) bytes refusal fails

pub refused_by_certificate : (fault : Fault) (bytes : List ℕ) → Reports fault (first_fault CERTIFICATE_LINES bytes) → IsRefused Accept bytes fault
unfolding row_of
refused_by_certificate fault bytes reports = reported_by_more fault CERTIFICATE_LINES (drawing_row ∷ []) bytes reports

-- of two of which neither is a refusal, each is none
neither : (here after : Option Refusal) → option_or here after ≡ None → (here ≡ None) × (after ≡ None)
neither (Some refusal) after holds = absurd cc
neither None after holds = (refl, holds)

-- after lines that hold, those after them are tried
tried_after : (rows more : List RefusalRow) (bytes : List ℕ) → first_fault rows bytes ≡ None → first_fault (rows ++ more) bytes ≡ first_fault more bytes
tried_after [] more bytes holds = refl
tried_after (row ∷ rows) more bytes holds =
    let both = neither (row bytes) (first_fault rows bytes) holds in
    ap (λ (here : Option Refusal). option_or here (first_fault (rows ++ more) bytes)) both.0 ∙ tried_after rows more bytes both.1

-- one line alone is tried
tried_alone : (row : RefusalRow) (bytes : List ℕ) → first_fault (row ∷ []) bytes ≡ row bytes
tried_alone row bytes = of_row (row bytes)
  where
    of_row : (one : Option Refusal) → option_or one None ≡ one
    of_row (Some refusal) = refl
    of_row None = refl

-- after a certificate, `accept` tries the lines on the drawing
pub tried_of_drawing : (bytes : List ℕ) → first_fault CERTIFICATE_LINES bytes ≡ None → first_fault (lines_of Accept) bytes ≡ first_fault ALL_LINES (drawing_bytes bytes)
unfolding drawing_row row_of
tried_of_drawing bytes holds = tried_after CERTIFICATE_LINES (drawing_row ∷ []) bytes holds ∙ tried_alone drawing_row bytes

-- so it passes where they hold
pub passes_after : (bytes after : List ℕ) → first_fault CERTIFICATE_LINES bytes ≡ None → after ≡ drawing_bytes bytes → first_fault ALL_LINES after ≡ None → first_fault (lines_of Accept) bytes ≡ None
passes_after bytes after holds is passes = tried_of_drawing bytes holds ∙ sym (ap (λ (those : List ℕ). first_fault ALL_LINES those) is) ∙ passes

-- and is refused by what refuses the drawing
pub refused_after : (fault : Fault) (bytes after : List ℕ) → first_fault CERTIFICATE_LINES bytes ≡ None → after ≡ drawing_bytes bytes → IsRefusedBy ALL_LINES after fault → IsRefused Accept bytes fault
refused_after fault bytes after holds is refused =
    subst (λ (first : Option Refusal). Reports fault first) (ap (λ (those : List ℕ). first_fault ALL_LINES those) is ∙ sym (tried_of_drawing bytes holds)) refused
