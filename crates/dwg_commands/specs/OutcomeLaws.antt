-- What the commands that read answer, said of the header that the input begins with, the classes that it has, the drawing that it spells, and the certificate before one. A rule of this project.
use Rattle.std.specs.Prelude.{◌≡◌, ◌↔◌, ℕ, ◌≤◌, ◌<◌, ◌^◌, List, [], ◌∷◌, ◌++◌, length, codes, Some, IsTrue}
use Rattle.dwg_messages.specs.AppText.{appdata_text}
use Rattle.dwg_appitems.specs.AppFailures.{IsAppFinding}
use Rattle.dwg_appitems.specs.AppFindings.{app_findings}
use Rattle.dwg_appitems.specs.declared.finding.AppFinding.{AppFinding}
use Rattle.dwg_audit.specs.Findings.{findings}
use Rattle.dwg_base.specs.Bytes.{AreBytes}
use Rattle.dwg_base.specs.Devices.{MOST_BYTES}
use Rattle.dwg_base.specs.Refusals.{RefusalRow, first_fault}
use Rattle.dwg_base.specs.Refusal.{Refusal}
use Rattle.dwg_cert.specs.Accepts.{Accepts}
use Rattle.dwg_cert.specs.CertificateLines.{CERTIFICATE_LINES}
use Rattle.dwg_cert.specs.Certified.{certificate_of}
use Rattle.dwg_cert.specs.WrittenForm.{BeginsWithCertificate, certificate_bytes}
use Rattle.dwg_cert.specs.declared.entry.Entry.{Entry}
use Rattle.dwg_classes.specs.Class.{AreClasses}
use Rattle.dwg_classes.specs.declared.class.Class.{Class}
use Rattle.dwg_file.specs.CanonicalFrames.{canonical_frames_with}
use Rattle.dwg_file.specs.Canonical.{Carried, IsCarried, NO_PICTURE, size_of, size_with, canonical, canonical_with}
use Rattle.dwg_file.specs.Contents.{Contents}
use Rattle.dwg_file.specs.FileLines.{ALL_LINES, classes_row, classes_section_row}
use Rattle.dwg_file.specs.ShortDamage.{IsDamagedShortly}
use Rattle.dwg_file.specs.Spelled.{PairFrame, Spelled}
use Rattle.dwg_file.specs.Valid.{IsValid}
use Rattle.dwg_graph.specs.Sound.{IsSound}
use Rattle.dwg_preview.specs.Previews.{PreviewAt}
use Rattle.dwg_recover.specs.declared.loss.Loss.TheVariants.{Object}
use Rattle.dwg_recover.specs.ListMembers.{IsOneOf}
use Rattle.dwg_recover.specs.Recovering.{RecoveredValue, recovered}
use Rattle.dwg_recover.specs.ShortDamage.{word_refusal}
use Rattle.dwg_recover.specs.Reported.{IsValidAnswer}
use Rattle.dwg_make.specs.Made.{MOST_ENTITIES, made}
use Rattle.dwg_messages.specs.RecoveryNote.{recovery_note}
use Rattle.dwg_messages.specs.AuditText.{audit_text}
use Rattle.dwg_sections.specs.declared.framed.Framed.TheVariants as framed
use Rattle.dwg_sections.specs.declared.header.FileHeader.{FileHeader}
use Rattle.dwg_sections.specs.FileHeader.{BeginsWithHeader}
use Rattle.dwg_sections.specs.Framed.{FramedAt}
use Rattle.dwg_sections.specs.HeaderLines.{HEADER_LINES, place_of}
use Rattle.dwg_show.specs.DrawingText.{show_text}
use Rattle.dwg_text.specs.Classes.{classes_text}
use Rattle.dwg_text.specs.Lines.{line}
use Rattle.dwg_text.specs.Notes.{preview_dropped_note, refusal_note, too_large_note, unsound_note}
use Rattle.dwg_text.specs.Sections.{sections_text}
use Rattle.dwg_commands.specs.declared.outcome.Outcome.{Outcome}
use Rattle.dwg_commands.specs.declared.status.Status.TheVariants.{Done, Found, Refused, TooLarge}
use Rattle.dwg_commands.specs.declared.words.Command.{Command}
use Rattle.dwg_commands.specs.declared.words.Command.TheVariants.{Make}
use Rattle.dwg_commands.specs.Commands.{reads, row_of}
use Rattle.dwg_commands.specs.Outcome.{outcome}
use Rattle.dwg_commands.specs.Words.{command_of}

-- an input within the limit
pub record IsInput (bytes : List ℕ) : Type 0 where
  pub are : AreBytes bytes
  pub within : length bytes ≤ MOST_BYTES

-- an input that spells no drawing
abbrev pub SpellsNone : List ℕ → Type 0
SpellsNone bytes = (drawing : Contents) → Spelled drawing bytes → ⊥

-- each command that reads is named by its own word
abbrev pub ReadersAreNamed : Type 0
ReadersAreNamed = (command : Command) → IsTrue (reads command) → command_of ((row_of command).word ∷ []) ≡ Some command

-- what the program answers to one word
abbrev pub said : List ℕ → List ℕ → Outcome
said word bytes = outcome (word ∷ []) bytes

-- the first of these lines that fails on an input is answered, and nothing is printed
pub record RefusesBy (lines : List RefusalRow) (bytes : List ℕ) (answer : Outcome) : Type 0 where
  pub refusal : Refusal
  pub first : first_fault lines bytes ≡ Some refusal
  pub answers : answer ≡ record { output = []; note = refusal_note refusal; status = Refused refusal }

-- the first of all lines is
abbrev pub Refuses : List ℕ → Outcome → Type 0
Refuses bytes answer = RefusesBy ALL_LINES bytes answer

-- `sections` prints the file header that an input begins with
abbrev pub SectionsPrintsHeader : Type 0
SectionsPrintsHeader =
    (header : FileHeader) (bytes : List ℕ) → IsInput bytes → BeginsWithHeader bytes header → said (codes "sections") bytes ≡ record { output = sections_text header; note = []; status = Done }

-- and refuses one that begins with none by the first line on it that fails
abbrev pub NoHeaderIsRefused : Type 0
NoHeaderIsRefused =
    (bytes : List ℕ) → IsInput bytes → ((header : FileHeader) → BeginsWithHeader bytes header → ⊥) → RefusesBy HEADER_LINES bytes (said (codes "sections") bytes)

-- the classes of an input, whatever stands elsewhere in it: its file header locates their section, whose content is cut into them
pub record HasClasses (bytes : List ℕ) (classes : List Class) : Type 0 where
  pub header : FileHeader
  pub begins : BeginsWithHeader bytes header
  pub place : ℕ
  pub located : place_of 1 header.locators ≡ Some place
  pub content : List ℕ
  pub stands : FramedAt bytes place framed.Classes content
  pub are : AreClasses content classes

-- `classes` prints the classes of an input
abbrev pub ClassesPrintsClasses : Type 0
ClassesPrintsClasses =
    (classes : List Class) (bytes : List ℕ) → IsInput bytes → HasClasses bytes classes → said (codes "classes") bytes ≡ record { output = classes_text classes; note = []; status = Done }

-- and refuses one that has none by the first line that fails of those on the header, the section of the classes and the classes
abbrev pub NoClassesAreRefused : Type 0
NoClassesAreRefused =
    (bytes : List ℕ) → IsInput bytes → ((classes : List Class) → HasClasses bytes classes → ⊥)
    → RefusesBy (HEADER_LINES ++ classes_section_row ∷ classes_row ∷ []) bytes (said (codes "classes") bytes)

-- `show`, `rewrite` and `audit` refuse an input that spells no drawing by the first line that fails
abbrev pub NoDrawingIsRefused : Type 0
NoDrawingIsRefused =
    (bytes : List ℕ) → IsInput bytes → SpellsNone bytes
    → Refuses bytes (said (codes "show") bytes) × Refuses bytes (said (codes "rewrite") bytes) × Refuses bytes (said (codes "audit") bytes)

-- `show` prints the text of the drawing that an input spells
abbrev pub ShowPrintsDrawing : Type 0
ShowPrintsDrawing =
    (drawing : Contents) (bytes : List ℕ) → IsInput bytes → Spelled drawing bytes → said (codes "show") bytes ≡ record { output = show_text drawing; note = []; status = Done }

-- an answer writes the canonical file of a drawing: it spells that drawing and no other, and is rewritten as it is
pub record Rewrites (drawing : Contents) (answer : Outcome) : Type 0 where
  pub answers : answer ≡ record { output = canonical drawing; note = []; status = Done }
  pub spells : Spelled drawing answer.output
  pub no_other : (other : Contents) → Spelled other answer.output → other ≡ drawing
  pub once : said (codes "rewrite") answer.output ≡ answer

-- `rewrite` writes the canonical file of the drawing that an input spells, where that is within the limit
abbrev pub RewriteWritesDrawing : Type 0
RewriteWritesDrawing = (drawing : Contents) (bytes : List ℕ) → IsInput bytes → Spelled drawing bytes → size_of drawing ≤ MOST_BYTES → Rewrites drawing (said (codes "rewrite") bytes)

-- a larger one isn't written, and its size is reported
abbrev pub RewriteReportsSize : Type 0
RewriteReportsSize =
    (drawing : Contents) (bytes : List ℕ) → IsInput bytes → Spelled drawing bytes → MOST_BYTES < size_of drawing
    → said (codes "rewrite") bytes ≡ record { output = []; note = too_large_note (size_of drawing); status = TooLarge (size_of drawing) }

-- an answer writes the canonical file of a drawing with a preview and this note: it spells that drawing and no other, and is carried as it is, without a note
pub record Carries (carried : Carried) (drawing : Contents) (note : List ℕ) (answer : Outcome) : Type 0 where
  pub answers : answer ≡ record { output = canonical_with carried drawing; note = note; status = Done }
  pub spells : Spelled drawing answer.output
  pub no_other : (other : Contents) → Spelled other answer.output → other ≡ drawing
  pub once : said (codes "carry") answer.output ≡ record { output = answer.output; note = []; status = Done }

-- `carry` writes that of the drawing that an input spells with the preview that stands where its header says, where that is within the limit
abbrev pub CarryWritesPreview : Type 0
CarryWritesPreview =
    (header : FileHeader) (drawing : Contents) (content bytes : List ℕ) → IsInput bytes → Spelled drawing bytes → BeginsWithHeader bytes header
    → PreviewAt bytes header.preview content
    → let carried : Carried = record { place = header.preview; content = content } in
    (size_with carried drawing ≤ MOST_BYTES → Carries carried drawing [] (said (codes "carry") bytes))
    × (MOST_BYTES < size_with carried drawing
    → said (codes "carry") bytes ≡ record { output = []; note = too_large_note (size_with carried drawing); status = TooLarge (size_with carried drawing) })

-- where none stands there it writes what `rewrite` does, and notes that
abbrev pub CarryNotesNone : Type 0
CarryNotesNone =
    (header : FileHeader) (drawing : Contents) (bytes : List ℕ) → IsInput bytes → Spelled drawing bytes → BeginsWithHeader bytes header
    → ((content : List ℕ) → PreviewAt bytes header.preview content → ⊥)
    → (size_of drawing ≤ MOST_BYTES → Carries NO_PICTURE drawing preview_dropped_note (said (codes "carry") bytes))
    × (MOST_BYTES < size_of drawing → said (codes "carry") bytes ≡ record { output = []; note = too_large_note (size_of drawing); status = TooLarge (size_of drawing) })

-- and it refuses an input that spells no drawing by the first line that fails
abbrev pub NoneIsCarried : Type 0
NoneIsCarried = (bytes : List ℕ) → IsInput bytes → SpellsNone bytes → Refuses bytes (said (codes "carry") bytes)

-- an answer reports whether the references of a drawing hold together: its status does, it prints the findings, which are the line `audit yes` alone exactly where they do, and it notes nothing
pub record ReportsSound (drawing : Contents) (answer : Outcome) : Type 0 where
  pub sound : (answer.status ≡ Done) ↔ IsSound drawing.objects
  pub unsound : (IsSound drawing.objects → ⊥) → answer.status ≡ Found
  pub prints : answer ≡ record { output = audit_text (findings drawing.objects); note = []; status = answer.status }
  pub yes : (answer.output ≡ line (codes "audit yes")) ↔ IsSound drawing.objects

-- `audit` reports it of the drawing that an input spells
abbrev pub AuditReportsSound : Type 0
AuditReportsSound = (drawing : Contents) (bytes : List ℕ) → IsInput bytes → Spelled drawing bytes → ReportsSound drawing (said (codes "audit") bytes)

-- `recover` answers as `rewrite` does, where an input spells a drawing
abbrev pub RecoverRewritesDrawing : Type 0
RecoverRewritesDrawing = (drawing : Contents) (bytes : List ℕ) → IsInput bytes → Spelled drawing bytes → said (codes "recover") bytes ≡ said (codes "rewrite") bytes

-- an answer writes the canonical file of what is recovered of an input, a valid drawing whose objects are those of frames that stand in it, where that is within the limit, and notes the first line that fails; that file spells the drawing, and is rewritten as it is
pub record Recovers (bytes : List ℕ) (answer : Outcome) : Type 0 where
  pub value : RecoveredValue
  pub recovers : value ≡ recovered bytes
  pub valid : IsValidAnswer bytes value
  pub refusal : Refusal
  pub first : first_fault ALL_LINES bytes ≡ Some refusal
  pub writes :
      size_of value.drawing ≤ MOST_BYTES
      → answer ≡ record { output = canonical value.drawing; note = recovery_note refusal value.losses value.kept; status = Found }
  pub spells : size_of value.drawing ≤ MOST_BYTES → Spelled value.drawing answer.output
  pub once : size_of value.drawing ≤ MOST_BYTES → said (codes "rewrite") answer.output ≡ record { output = answer.output; note = []; status = Done }
  pub large :
      MOST_BYTES < size_of value.drawing
      → answer ≡ record { output = []; note = too_large_note (size_of value.drawing); status = TooLarge (size_of value.drawing) }

-- `recover` does that of any other input
abbrev pub RecoverWritesFrames : Type 0
RecoverWritesFrames = (bytes : List ℕ) → IsInput bytes → SpellsNone bytes → Recovers bytes (said (codes "recover") bytes)

-- the answer that refuses an input
abbrev pub refuses_for : Refusal → Outcome
refuses_for refusal = record { output = []; note = refusal_note refusal; status = Refused refusal }

-- each command that reads a drawing but `recover` refuses an input for the check word of the object of a frame and prints nothing, `accept` whatever certificate stands before it; what `recover` recovers has every other object; where that is within the limit it writes its canonical file, and notes that refusal and the loss of that object alone, and else it reports the size
pub record ReportsDamage (bytes : List ℕ) (earlier : List PairFrame) (frame : PairFrame) (later : List PairFrame) : Type 0 where
  pub show : said (codes "show") bytes ≡ refuses_for (word_refusal earlier frame)
  pub rewrite : said (codes "rewrite") bytes ≡ refuses_for (word_refusal earlier frame)
  pub audit : said (codes "audit") bytes ≡ refuses_for (word_refusal earlier frame)
  pub carry : said (codes "carry") bytes ≡ refuses_for (word_refusal earlier frame)
  pub appdata : said (codes "appdata") bytes ≡ refuses_for (word_refusal earlier frame)
  pub certify : said (codes "certify") bytes ≡ refuses_for (word_refusal earlier frame)
  pub accept : (cert : List Entry) (whole : List ℕ) → IsInput whole → BeginsWithCertificate whole cert bytes → said (codes "accept") whole ≡ refuses_for (word_refusal earlier frame)
  pub others : (other : PairFrame) → IsOneOf other (earlier ++ later) → IsOneOf other.object (recovered bytes).drawing.objects
  pub writes :
      size_of (recovered bytes).drawing ≤ MOST_BYTES
      → said (codes "recover") bytes
      ≡ record {
        output = canonical (recovered bytes).drawing;
        note = recovery_note (word_refusal earlier frame) (Object frame.pair.handle frame.pair.place ∷ []) (recovered bytes).kept;
        status = Found;
      }
  pub large :
      MOST_BYTES < size_of (recovered bytes).drawing
      → said (codes "recover") bytes
      ≡ record { output = []; note = too_large_note (size_of (recovered bytes).drawing); status = TooLarge (size_of (recovered bytes).drawing) }

-- so they do of one that differs from the canonical file of a drawing with a preview in one byte, or in two neighbouring ones, in the body and the check word of one object's frame
abbrev pub ShortDamageIsReported : Type 0
ShortDamageIsReported =
    (carried : Carried) (drawing : Contents) (bytes : List ℕ) (earlier : List PairFrame) (frame : PairFrame) (later : List PairFrame) → IsCarried carried → IsValid drawing
    → size_with carried drawing ≤ MOST_BYTES → AreBytes bytes → canonical_frames_with carried drawing ≡ earlier ++ frame ∷ later → IsDamagedShortly carried drawing frame bytes
    → ReportsDamage bytes earlier frame later

-- `make` writes the canonical file of the drawing that its two numbers make, whatever the input; it is never too large
abbrev pub MakeWritesDrawing : Type 0
MakeWritesDrawing =
    (n seed : ℕ) (words : List (List ℕ)) (bytes : List ℕ) → command_of words ≡ Some (Make n seed) → 0 < n → n ≤ MOST_ENTITIES → seed < 2 ^ 32
    → Rewrites (made n seed) (outcome words bytes)

-- `appdata` refuses an input that spells no drawing by the first line that fails
abbrev pub NoItemsAreReported : Type 0
NoItemsAreReported = (bytes : List ℕ) → IsInput bytes → SpellsNone bytes → Refuses bytes (said (codes "appdata") bytes)

-- an answer prints the items of a drawing's extended data and then those whose references lead nowhere; its status reports whether there are any, and it notes nothing
pub record ReportsItems (drawing : Contents) (answer : Outcome) : Type 0 where
  pub prints : answer ≡ record { output = appdata_text drawing.objects (app_findings drawing.objects); note = []; status = answer.status }
  pub met : (answer.status ≡ Done) ↔ ((finding : AppFinding) → IsAppFinding drawing.objects finding → ⊥)
  pub unmet : (finding : AppFinding) → IsAppFinding drawing.objects finding → answer.status ≡ Found

-- `appdata` does so with the drawing that an input spells
abbrev pub AppdataReportsItems : Type 0
AppdataReportsItems = (drawing : Contents) (bytes : List ℕ) → IsInput bytes → Spelled drawing bytes → ReportsItems drawing (said (codes "appdata") bytes)

-- `certify` refuses an input that spells no drawing by the first line that fails
abbrev pub NoneIsCertified : Type 0
NoneIsCertified = (bytes : List ℕ) → IsInput bytes → SpellsNone bytes → Refuses bytes (said (codes "certify") bytes)

-- `certify` writes the certificate of the drawing that an input spells, where its references hold together
abbrev pub SoundIsCertified : Type 0
SoundIsCertified =
    (drawing : Contents) (bytes : List ℕ) → IsInput bytes → Spelled drawing bytes → IsSound drawing.objects
    → said (codes "certify") bytes ≡ record { output = certificate_bytes (certificate_of drawing.objects); note = []; status = Done }

-- and else prints nothing and notes that they don't
abbrev pub UnsoundIsNoted : Type 0
UnsoundIsNoted =
    (drawing : Contents) (bytes : List ℕ) → IsInput bytes → Spelled drawing bytes → (IsSound drawing.objects → ⊥)
    → said (codes "certify") bytes ≡ record { output = []; note = unsound_note; status = Found }

-- `accept` refuses an input that begins with no certificate by the first line on it that fails
abbrev pub NoCertificateIsRefused : Type 0
NoCertificateIsRefused =
    (bytes : List ℕ) → IsInput bytes → ((cert : List Entry) (rest : List ℕ) → BeginsWithCertificate bytes cert rest → ⊥) → RefusesBy CERTIFICATE_LINES bytes (said (codes "accept") bytes)

-- where what stands after the certificate spells no drawing, `accept` refuses it by the first line that fails there, its places counted from there
abbrev pub NoDrawingAfterIsRefused : Type 0
NoDrawingAfterIsRefused =
    (bytes : List ℕ) (cert : List Entry) (rest : List ℕ) → IsInput bytes → BeginsWithCertificate bytes cert rest → SpellsNone rest → Refuses rest (said (codes "accept") bytes)

-- an answer reports whether a certificate is one of a drawing's objects: its status does, it prints the line that says so, and it notes nothing; and where it is one, the references of the drawing hold together
pub record ReportsAccepted (drawing : Contents) (cert : List Entry) (answer : Outcome) : Type 0 where
  pub accepted : (answer.status ≡ Done) ↔ Accepts drawing.objects cert
  pub yes : Accepts drawing.objects cert → answer ≡ record { output = line (codes "accept yes"); note = []; status = Done }
  pub no : (Accepts drawing.objects cert → ⊥) → answer ≡ record { output = line (codes "accept no"); note = []; status = Found }
  pub sound : answer.status ≡ Done → IsSound drawing.objects

-- `accept` reports it of the certificate that an input begins with and the drawing that is spelled after it
abbrev pub AcceptReportsAccepted : Type 0
AcceptReportsAccepted =
    (bytes : List ℕ) (cert : List Entry) (drawing : Contents) (rest : List ℕ) → IsInput bytes → BeginsWithCertificate bytes cert rest → Spelled drawing rest
    → ReportsAccepted drawing cert (said (codes "accept") bytes)

-- what `certify` writes of an input that spells a sound drawing is accepted before that input, where both together are within the limit
abbrev pub CertifiedIsAccepted : Type 0
CertifiedIsAccepted =
    (drawing : Contents) (bytes : List ℕ) → IsInput bytes → Spelled drawing bytes → IsSound drawing.objects → length ((said (codes "certify") bytes).output ++ bytes) ≤ MOST_BYTES
    → said (codes "accept") ((said (codes "certify") bytes).output ++ bytes) ≡ record { output = line (codes "accept yes"); note = []; status = Done }
