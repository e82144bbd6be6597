-- What is answered of what was read, recovered or made. A rule of this project.
use Rattle.std.specs.Prelude.{ℕ, ◌==◌, ◌||◌, Bool, List, [], ◌∷◌, Option, Some, None, nat_lt, if◌then◌else◌}
use Rattle.dwg_base.specs.Devices.{MOST_BYTES}
use Rattle.dwg_base.specs.Refusal.{Refusal}
use Rattle.dwg_sections.specs.HeaderLines.{header_at}
use Rattle.dwg_messages.specs.AppText.{appdata_text}
use Rattle.dwg_appitems.specs.AppFindings.{app_findings}
use Rattle.dwg_audit.specs.Findings.{findings}
use Rattle.dwg_cert.specs.AcceptTests.{is_accepted}
use Rattle.dwg_cert.specs.Certified.{certificate_of}
use Rattle.dwg_cert.specs.WrittenForm.{certificate_bytes}
use Rattle.dwg_cert.specs.declared.entry.Entry.{Entry}
use Rattle.dwg_drill.specs.Drilled.{DRILL_SEED, drilled}
use Rattle.dwg_make.specs.Made.{MOST_ENTITIES, made}
use Rattle.dwg_recover.specs.declared.loss.Kept.{Kept}
use Rattle.dwg_recover.specs.declared.loss.Loss.{Loss}
use Rattle.dwg_recover.specs.Recovering.{RecoveredValue}
use Rattle.dwg_messages.specs.RecoveryNote.{recovery_note}
use Rattle.dwg_messages.specs.AuditText.{audit_text}
use Rattle.dwg_messages.specs.DrillText.{drill_text}
use Rattle.dwg_messages.specs.Acceptance.{accept_yes, accept_no}
use Rattle.dwg_text.specs.Notes.{unsound_note, preview_dropped_note, size_note, too_large_note}
use Rattle.dwg_file.specs.Contents.{Contents}
use Rattle.dwg_file.specs.Canonical.{Carried, NO_PICTURE, canonical_with, size_with}
use Rattle.dwg_preview.specs.ContentAt.{content_at}
use Rattle.dwg_commands.specs.declared.status.Status.{Status}
use Rattle.dwg_commands.specs.declared.status.Status.TheVariants.{Done, Found, Usage, TooLarge}
use Rattle.dwg_commands.specs.declared.outcome.Outcome.{Outcome}

-- nothing on the output, one note, and a status
abbrev pub noted : List ℕ → Status → Outcome
noted note status = record { output = []; note = note; status = status }

-- the output, no note
abbrev pub printed : List ℕ → Outcome
printed output = record { output = output; note = []; status = Done }

-- an answer over the canonical file of a drawing with a preview, unless that would be longer than the limit
abbrev pub unless_large : Carried → Contents → Outcome → Outcome
unless_large carried drawing answer =
    if nat_lt MOST_BYTES (size_with carried drawing) then noted (too_large_note (size_with carried drawing)) (TooLarge (size_with carried drawing)) else answer

-- the canonical file of a drawing with a preview, with a note and a status
unfoldable pub filed_with : Carried → Contents → List ℕ → Status → Outcome
filed_with carried drawing note status = unless_large carried drawing (record { output = canonical_with carried drawing; note = note; status = status })

-- that without a picture
abbrev pub filed : Contents → List ℕ → Status → Outcome
filed drawing note status = filed_with NO_PICTURE drawing note status

-- the canonical file of a drawing
abbrev pub written : Contents → Outcome
written drawing = filed drawing [] Done

-- an answer over a made drawing, unless it is asked for a size that no such drawing has
abbrev pub unless_no_size : ℕ → Outcome → Outcome
unless_no_size n answer = if n == 0 || nat_lt MOST_ENTITIES n then noted size_note Usage else answer

-- the canonical file of the drawing that two numbers make
unfoldable pub made_outcome : ℕ → ℕ → Outcome
made_outcome n seed = unless_no_size n (written (made n seed))

-- what a drill over the drawing of a number finds out
unfoldable pub drilled_outcome : ℕ → Outcome
drilled_outcome n = unless_large NO_PICTURE (made n DRILL_SEED) (printed (drill_text (drilled n)))

-- what `drill` answers: the size note where there is no such drawing
unfoldable pub drill_outcome : ℕ → Outcome
drill_outcome n = unless_no_size n (drilled_outcome n)

-- how an audit with these findings ends
abbrev pub verdict_status : {A : Type 0} → List A → Status
verdict_status {A} [] = Done
verdict_status {A} (finding ∷ more) = Found

-- the findings of a drawing and the verdict
unfoldable pub audited : Contents → Outcome
audited drawing = record { output = audit_text (findings drawing.objects); note = []; status = verdict_status (findings drawing.objects) }

-- the application data of a drawing's objects, item by item, what these items refer to and isn't there, and the verdict
unfoldable pub items_reported : Contents → Outcome
items_reported drawing = record {
  output = appdata_text drawing.objects (app_findings drawing.objects);
  note = [];
  status = verdict_status (app_findings drawing.objects);
}

-- what a recovery notes, and how it ends: with no note where the input spells a drawing
abbrev pub recovery_notes : Option Refusal → List Loss → List Kept → List ℕ
recovery_notes None losses kept = []
recovery_notes (Some refusal) losses kept = recovery_note refusal losses kept

abbrev pub recovery_status : Option Refusal → Status
recovery_status None = Done
recovery_status (Some refusal) = Found

-- the canonical file of what is recovered
unfoldable pub recovered_outcome : RecoveredValue → Outcome
recovered_outcome value = filed value.drawing (recovery_notes value.refusal value.losses value.kept) (recovery_status value.refusal)

-- the certificate of a drawing's objects, where it is accepted: exactly where the drawing is sound
unfoldable pub certified : Contents → Outcome
certified drawing =
    if is_accepted drawing.objects (certificate_of drawing.objects) then printed (certificate_bytes (certificate_of drawing.objects))
    else noted unsound_note Found

-- whether a certificate is accepted: the line that says it, and how that ends
abbrev pub acceptance_line : Bool → List ℕ
acceptance_line is = if is then accept_yes else accept_no

abbrev pub acceptance_status : Bool → Status
acceptance_status is = if is then Done else Found

abbrev pub acceptance : Bool → Outcome
acceptance is = record { output = acceptance_line is; note = []; status = acceptance_status is }

-- whether a certificate is one of a drawing's objects
unfoldable pub accepted : Contents → List Entry → Outcome
accepted drawing cert = acceptance (is_accepted drawing.objects cert)

-- the content of the preview section that stands where the file header of an input says, if one does
abbrev pub content_in : List ℕ → Option (List ℕ)
content_in bytes = content_at bytes (header_at bytes).preview

-- what the canonical file carries of it
abbrev pub carried_from : ℕ → Option (List ℕ) → Carried
carried_from place None = NO_PICTURE
carried_from place (Some content) = record { place = place; content = content }

abbrev pub carried_in : List ℕ → Carried
carried_in bytes = carried_from (header_at bytes).preview (content_in bytes)

-- what is noted where none stands there
abbrev pub carrying_note : Option (List ℕ) → List ℕ
carrying_note None = preview_dropped_note
carrying_note (Some content) = []
