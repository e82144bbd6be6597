-- The table of commands: the word of each, whether it reads the input, the lines of the table of refusals that it tries, and what it answers. A rule of this project.
use Rattle.std.specs.Prelude.{ℕ, Bool, true, false, List, [], ◌∷◌, ◌++◌, codes}
use Rattle.dwg_base.specs.Refusals.{RefusalRow}
use Rattle.dwg_cert.specs.CertificateLines.{CERTIFICATE_LINES}
use Rattle.dwg_file.specs.DrawingAt.{classes_at, drawing_at}
use Rattle.dwg_file.specs.FileLines.{ALL_LINES, classes_section_row, classes_row}
use Rattle.dwg_recover.specs.Recovering.{recovered}
use Rattle.dwg_sections.specs.HeaderLines.{HEADER_LINES, header_at}
use Rattle.dwg_show.specs.DrawingText.{show_text}
use Rattle.dwg_text.specs.Classes.{classes_text}
use Rattle.dwg_text.specs.Sections.{sections_text}
use Rattle.dwg_commands.specs.declared.outcome.Outcome.{Outcome}
use Rattle.dwg_commands.specs.declared.status.Status.TheVariants.{Done}
use Rattle.dwg_commands.specs.declared.words.Command.{Command}
use Rattle.dwg_commands.specs.declared.words.Command.TheVariants.{Sections, Classes, Show, Rewrite, Audit, Recover, Appdata, Certify, Accept, Carry, Make, Drill}
use Rattle.dwg_commands.specs.Answered.{printed, written, filed_with, made_outcome, drill_outcome, audited, items_reported, recovered_outcome, certified, accepted, carried_in, carrying_note, content_in}
use Rattle.dwg_commands.specs.CertifiedInput.{cert_in, drawing_bytes, drawing_row}

-- a row of the table: the lines are in the order in which they are tried, and the answer is that to an input within the limit in which none of them fails
pub record CommandRow : Type 0 where
  pub word : List ℕ
  pub reads : Bool
  pub lines : List RefusalRow
  pub answer : List ℕ → Outcome

-- a command that reads
abbrev pub reading : List ℕ → List RefusalRow → (List ℕ → Outcome) → CommandRow
reading word lines answer = record { word = word; reads = true; lines = lines; answer = answer }

-- one that makes a drawing, whatever the input
abbrev pub making : List ℕ → Outcome → CommandRow
making word answer = record { word = word; reads = false; lines = []; answer = λ bytes. answer }

-- the row of each command: `classes` tries the lines on the file header, on the section of the classes, and on the classes, and `accept` those on the certificate and then those on the drawing after it
unfoldable pub row_of : Command → CommandRow
row_of Sections = reading (codes "sections") HEADER_LINES (λ bytes. printed (sections_text (header_at bytes)))
row_of Classes = reading (codes "classes") (HEADER_LINES ++ classes_section_row ∷ classes_row ∷ []) (λ bytes. printed (classes_text (classes_at bytes)))
row_of Show = reading (codes "show") ALL_LINES (λ bytes. printed (show_text (drawing_at bytes)))
row_of Rewrite = reading (codes "rewrite") ALL_LINES (λ bytes. written (drawing_at bytes))
row_of Audit = reading (codes "audit") ALL_LINES (λ bytes. audited (drawing_at bytes))
row_of Recover = reading (codes "recover") [] (λ bytes. recovered_outcome (recovered bytes))
row_of Appdata = reading (codes "appdata") ALL_LINES (λ bytes. items_reported (drawing_at bytes))
row_of Certify = reading (codes "certify") ALL_LINES (λ bytes. certified (drawing_at bytes))
row_of Accept = reading (codes "accept") (CERTIFICATE_LINES ++ drawing_row ∷ []) (λ bytes. accepted (drawing_at (drawing_bytes bytes)) (cert_in bytes))
row_of Carry = reading (codes "carry") ALL_LINES (λ bytes. filed_with (carried_in bytes) (drawing_at bytes) (carrying_note (content_in bytes)) Done)
row_of (Make n seed) = making (codes "make") (made_outcome n seed)
row_of (Drill n) = making (codes "drill") (drill_outcome n)

-- the commands that read, in the order of the usage note
unfoldable pub READERS : List Command
READERS = Sections ∷ Classes ∷ Show ∷ Rewrite ∷ Audit ∷ Recover ∷ Appdata ∷ Certify ∷ Accept ∷ Carry ∷ []

-- whether a command reads the input
abbrev pub reads : Command → Bool
reads command = (row_of command).reads

-- the lines that it tries
abbrev pub lines_of : Command → List RefusalRow
lines_of command = (row_of command).lines
