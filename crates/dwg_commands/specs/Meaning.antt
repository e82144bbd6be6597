-- What a status means of the input: which drawing it spells, or which certificate and drawing it holds. A rule of this project.
use Rattle.std.specs.Prelude.{◌≡◌, ⊤, ℕ, List, Some, IsTrue, codes}
use Rattle.dwg_appitems.specs.AppFailures.{IsAppFinding}
use Rattle.dwg_appitems.specs.declared.finding.AppFinding.{AppFinding}
use Rattle.dwg_base.specs.Bytes.{AreBytes}
use Rattle.dwg_cert.specs.Accepts.{Accepts}
use Rattle.dwg_cert.specs.WrittenForm.{BeginsWithCertificate}
use Rattle.dwg_cert.specs.declared.entry.Entry.{Entry}
use Rattle.dwg_classes.specs.declared.class.Class.{Class}
use Rattle.dwg_file.specs.Contents.{Contents}
use Rattle.dwg_file.specs.Spelled.{Spelled}
use Rattle.dwg_graph.specs.Sound.{IsSound}
use Rattle.dwg_sections.specs.declared.header.FileHeader.{FileHeader}
use Rattle.dwg_sections.specs.FileHeader.{BeginsWithHeader}
use Rattle.dwg_commands.specs.declared.status.Status.{Status}
use Rattle.dwg_commands.specs.declared.status.Status.TheVariants.{Done, Found}
use Rattle.dwg_commands.specs.declared.words.Command.{Command}
use Rattle.dwg_commands.specs.declared.words.Command.TheVariants.{Sections, Classes, Show, Rewrite, Audit, Recover, Appdata, Certify, Accept, Carry}
use Rattle.dwg_commands.specs.Commands.{reads}
use Rattle.dwg_commands.specs.Outcome.{outcome_of}
use Rattle.dwg_commands.specs.OutcomeLaws.{HasClasses, IsInput, Rewrites, SpellsNone, said}

-- an input spells a drawing
abbrev pub SpellsSome : List ℕ → Type 0
SpellsSome bytes = (drawing : Contents) × Spelled drawing bytes

-- one whose references hold together
abbrev pub SpellsSound : List ℕ → Type 0
SpellsSound bytes = (drawing : Contents) × Spelled drawing bytes × IsSound drawing.objects

-- one whose references don't
abbrev pub SpellsUnsound : List ℕ → Type 0
SpellsUnsound bytes = (drawing : Contents) × Spelled drawing bytes × (IsSound drawing.objects → ⊥)

-- each reference in the extended data of a drawing leads somewhere
abbrev pub ItemsAreMet : Contents → Type 0
ItemsAreMet drawing = (finding : AppFinding) → IsAppFinding drawing.objects finding → ⊥

-- an input is a certificate and after it a drawing, of whose objects it isn't one
pub record HoldsOther (bytes : List ℕ) : Type 0 where
  pub cert : List Entry
  pub rest : List ℕ
  pub drawing : Contents
  pub begins : BeginsWithCertificate bytes cert rest
  pub spelled : Spelled drawing rest
  pub differs : Accepts drawing.objects cert → ⊥

-- an input is a certificate and after it a drawing, of whose objects it is one, and whose references hold together
pub record HoldsAccepted (bytes : List ℕ) : Type 0 where
  pub cert : List Entry
  pub rest : List ℕ
  pub drawing : Contents
  pub begins : BeginsWithCertificate bytes cert rest
  pub spelled : Spelled drawing rest
  pub accepts : Accepts drawing.objects cert
  pub sound : IsSound drawing.objects

-- what it means that a command ends with Done
abbrev pub MeansDone : Command → List ℕ → Type 0
MeansDone Sections bytes = (header : FileHeader) × BeginsWithHeader bytes header
MeansDone Classes bytes = (classes : List Class) × HasClasses bytes classes
MeansDone Show bytes = SpellsSome bytes
MeansDone Rewrite bytes = SpellsSome bytes
MeansDone Audit bytes = SpellsSound bytes
MeansDone Recover bytes = SpellsSome bytes
MeansDone Appdata bytes = (drawing : Contents) × Spelled drawing bytes × ItemsAreMet drawing
MeansDone Certify bytes = SpellsSound bytes
MeansDone Accept bytes = HoldsAccepted bytes
MeansDone Carry bytes = SpellsSome bytes
MeansDone command bytes = ⊤

-- and with Found
abbrev pub MeansFound : Command → List ℕ → Type 0
MeansFound Audit bytes = SpellsUnsound bytes
MeansFound Recover bytes = SpellsNone bytes
MeansFound Appdata bytes = (drawing : Contents) × Spelled drawing bytes × (ItemsAreMet drawing → ⊥)
MeansFound Certify bytes = SpellsUnsound bytes
MeansFound Accept bytes = HoldsOther bytes
MeansFound command bytes = ⊤

-- what a status of a command means of its input
abbrev pub Means : Status → Command → List ℕ → Type 0
Means Done command bytes = MeansDone command bytes
Means Found command bytes = MeansFound command bytes
Means status command bytes = ⊤

-- each command ends so where that holds alone
abbrev pub StatusesMean : Type 0
StatusesMean = (command : Command) (bytes : List ℕ) → (IsTrue (reads command) → AreBytes bytes) → Means (outcome_of (Some command) bytes).status command bytes

-- where `recover` ends with Done, the input spells the drawing whose canonical file it writes
abbrev pub RecoverDoneIsSpelled : Type 0
RecoverDoneIsSpelled =
    (bytes : List ℕ) → IsInput bytes → (said (codes "recover") bytes).status ≡ Done → (drawing : Contents) × Spelled drawing bytes × Rewrites drawing (said (codes "recover") bytes)

-- `certify` and `audit` end alike
abbrev pub CertifyEndsAsAudit : Type 0
CertifyEndsAsAudit = (bytes : List ℕ) → IsInput bytes → (said (codes "certify") bytes).status ≡ (said (codes "audit") bytes).status

-- where `accept` ends with Done, so does `audit` of what stands after the certificate
abbrev pub AcceptedIsAudited : Type 0
AcceptedIsAudited =
    (bytes : List ℕ) → IsInput bytes → (said (codes "accept") bytes).status ≡ Done
    → (cert : List Entry) × (rest : List ℕ) × BeginsWithCertificate bytes cert rest × ((said (codes "audit") rest).status ≡ Done)
