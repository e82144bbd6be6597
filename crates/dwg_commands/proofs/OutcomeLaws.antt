-- What `show`, `rewrite`, `audit` and `recover` answer, said of the drawing that the input spells.
use Rattle.std.proofs.Common.{◌≡◌, refl, sym, ap, ◌∙◌, subst, ℕ, ◌≤◌, ◌<◌, List, [], ◌∷◌, length, codes, get_or, Some, None, true, false, arith}
use Rattle.std.proofs.lemmas.Bool.Decides.{nat_tests}
use Rattle.std.specs.Prelude.{◌↔◌, IsTrue, Option, nat_lt, if◌then◌else◌}
use Rattle.dwg_audit.specs.FindingLaws.{NothingIsFoundIfSound}
use Rattle.dwg_audit.specs.Findings.{findings}
use Rattle.dwg_audit.specs.declared.finding.Finding.{Finding}
use Rattle.dwg_base.specs.Bytes.{AreBytes}
use Rattle.dwg_base.specs.Devices.{MOST_BYTES}
use Rattle.dwg_base.specs.Refusals.{first_fault}
use Rattle.dwg_base.specs.Refusal.{Refusal}
use Rattle.dwg_audit.specs.Auditable.{ValidIsAuditable}
use Rattle.dwg_file.specs.Canonical.{Carried, NO_PICTURE, canonical, canonical_with, size_of, size_with}
use Rattle.dwg_file.specs.CanonicalLaws.{CanonicalSpells, CanonicalIsCounted, CanonicalSpellsNoOther}
use Rattle.dwg_file.specs.Contents.{Contents}
use Rattle.dwg_file.specs.DrawingAt.{drawing_at}
use Rattle.dwg_file.specs.FileLines.{ALL_LINES}
use Rattle.dwg_file.specs.Spelled.{Spelled}
use Rattle.dwg_file.specs.Valid.{IsValid}
use Rattle.dwg_graph.specs.Sound.{IsSound}
use Rattle.dwg_recover.specs.Recovering.{RecoveredValue, recovered}
use Rattle.dwg_recover.specs.Reported.{RecoveredIsValid, SpelledIsAnswered, DamagedIsAnswered}
use Rattle.dwg_messages.specs.RecoveryNote.{recovery_note}
use Rattle.dwg_messages.specs.AuditText.{audit_text, finding_line}
use Rattle.dwg_messages.specs.Verdict.{verdict}
use Rattle.dwg_show.specs.DrawingText.{show_text}
use Rattle.dwg_text.specs.Lines.{line}
use Rattle.dwg_text.specs.Notes.{too_large_note}
use Rattle.dwg_commands.specs.declared.outcome.Outcome.{Outcome}
use Rattle.dwg_commands.specs.declared.status.Status.{Status}
use Rattle.dwg_commands.specs.declared.status.Status.TheVariants.{Done, Found, TooLarge}
use Rattle.dwg_commands.specs.declared.words.Command.{Command}
use Rattle.dwg_commands.specs.declared.words.Command.TheVariants.{Show, Rewrite, Audit, Recover}
use Rattle.dwg_commands.specs.Commands.{READERS, lines_of, reads, row_of}
use Rattle.dwg_commands.specs.Answered.{noted, printed, filed, filed_with, written, audited, verdict_status, recovery_notes, recovery_status, recovered_outcome}
use Rattle.dwg_commands.specs.Outcome.{refused_or, outcome_within, outcome_of}
use Rattle.dwg_commands.specs.OutcomeLaws.{IsInput, SpellsNone, said, Rewrites, ReportsSound, NoDrawingIsRefused, ShowPrintsDrawing, RewriteWritesDrawing, RewriteReportsSize, AuditReportsSound, RecoverRewritesDrawing, RecoverWritesFrames}
use Rattle.dwg_commands.specs.Words.{command_of, reading_of}
use Rattle.dwg_commands.proofs.Outcomes.{outcome_of_few, outcome_of_reading}

-- what is known of the drawings that inputs spell
pub record DrawingLaws : Type 0 where
  pub one : (bytes : List ℕ) (drawing other : Contents) → AreBytes bytes → Spelled drawing bytes → Spelled other bytes → drawing ≡ other
  pub passes : (bytes : List ℕ) (drawing : Contents) → AreBytes bytes → Spelled drawing bytes → first_fault ALL_LINES bytes ≡ None
  pub spelled : (bytes : List ℕ) → AreBytes bytes → first_fault ALL_LINES bytes ≡ None → Spelled (drawing_at bytes) bytes
  pub valid : (bytes : List ℕ) (drawing : Contents) → AreBytes bytes → length bytes ≤ MOST_BYTES → Spelled drawing bytes → IsValid drawing

-- what is known of canonical files
pub record FileLaws : Type 0 where
  pub spells : CanonicalSpells
  pub counted : CanonicalIsCounted
  pub no_other : CanonicalSpellsNoOther

-- a command that reads is answered to as to an input within the limit
pub of_input : (command : Command) (bytes : List ℕ) → IsInput bytes → IsTrue (reads command) → outcome_of (Some command) bytes ≡ outcome_within command bytes
of_input command bytes input is =
    sym (outcome_of_reading (Some command) command bytes refl is) ∙ sym (outcome_of_few command bytes (outcome_within command bytes) input.within refl)

-- each of these words names its command
pub show_said : (bytes : List ℕ) → IsInput bytes → said (codes "show") bytes ≡ outcome_within Show bytes
unfolding command_of reading_of READERS row_of
show_said bytes input = of_input Show bytes input refl

pub rewrite_said : (bytes : List ℕ) → IsInput bytes → said (codes "rewrite") bytes ≡ outcome_within Rewrite bytes
unfolding command_of reading_of READERS row_of
rewrite_said bytes input = of_input Rewrite bytes input refl

pub audit_said : (bytes : List ℕ) → IsInput bytes → said (codes "audit") bytes ≡ outcome_within Audit bytes
unfolding command_of reading_of READERS row_of
audit_said bytes input = of_input Audit bytes input refl

pub recover_said : (bytes : List ℕ) → IsInput bytes → said (codes "recover") bytes ≡ outcome_within Recover bytes
unfolding command_of reading_of READERS row_of
recover_said bytes input = of_input Recover bytes input refl

-- where none of a command's lines fails, or one does, its answer is this
pub passed : (command : Command) (bytes : List ℕ) → first_fault (lines_of command) bytes ≡ None → outcome_within command bytes ≡ (row_of command).answer bytes
unfolding outcome_within
passed command bytes holds = ap (λ (first : Option Refusal). refused_or first ((row_of command).answer bytes)) holds

pub refused : (command : Command) (bytes : List ℕ) (refusal : Refusal) → first_fault (lines_of command) bytes ≡ Some refusal
    → outcome_within command bytes ≡ refused_or (Some refusal) ((row_of command).answer bytes)
unfolding outcome_within
refused command bytes refusal fails = ap (λ (first : Option Refusal). refused_or first ((row_of command).answer bytes)) fails

-- an input that spells no drawing fails a line
pub first_failing : DrawingLaws → (bytes : List ℕ) → IsInput bytes → SpellsNone bytes → (refusal : Refusal) × (first_fault ALL_LINES bytes ≡ Some refusal)
first_failing laws bytes input none = of_first (first_fault ALL_LINES bytes) refl
  where
    of_first : (first : Option Refusal) → first_fault ALL_LINES bytes ≡ first → (refusal : Refusal) × (first_fault ALL_LINES bytes ≡ Some refusal)
    of_first (Some refusal) is = (refusal, is)
    of_first None is = absurd (none (drawing_at bytes) (laws.spelled bytes input.are is))

-- `show`, `rewrite` and `audit` refuse it
pub no_drawing_is_refused : DrawingLaws → NoDrawingIsRefused
unfolding row_of
no_drawing_is_refused laws bytes input none =
    let fails = first_failing laws bytes input none in (
      record { refusal = fails.0; first = fails.1; answers = show_said bytes input ∙ refused Show bytes fails.0 fails.1 },
      record { refusal = fails.0; first = fails.1; answers = rewrite_said bytes input ∙ refused Rewrite bytes fails.0 fails.1 },
      record { refusal = fails.0; first = fails.1; answers = audit_said bytes input ∙ refused Audit bytes fails.0 fails.1 },
    )

-- the drawing that an input spells is the one by its places
pub read_is : DrawingLaws → (drawing : Contents) (bytes : List ℕ) → AreBytes bytes → Spelled drawing bytes → drawing_at bytes ≡ drawing
read_is laws drawing bytes are spelled = laws.one bytes (drawing_at bytes) drawing are (laws.spelled bytes are (laws.passes bytes drawing are spelled)) spelled

-- `show` prints its text
pub show_prints_drawing : DrawingLaws → ShowPrintsDrawing
unfolding row_of
show_prints_drawing laws drawing bytes input spelled =
    show_said bytes input ∙ passed Show bytes (laws.passes bytes drawing input.are spelled) ∙ ap (λ one. printed (show_text one)) (read_is laws drawing bytes input.are spelled)

-- `rewrite` answers its file, whatever its size
rewrite_is_written : DrawingLaws → (drawing : Contents) (bytes : List ℕ) → IsInput bytes → Spelled drawing bytes → said (codes "rewrite") bytes ≡ written drawing
unfolding row_of
rewrite_is_written laws drawing bytes input spelled =
    rewrite_said bytes input ∙ passed Rewrite bytes (laws.passes bytes drawing input.are spelled) ∙ ap written (read_is laws drawing bytes input.are spelled)

-- a file within the limit, and one that isn't
pub carried_within : (carried : Carried) (drawing : Contents) (note : List ℕ) (status : Status) → size_with carried drawing ≤ MOST_BYTES
    → filed_with carried drawing note status ≡ record { output = canonical_with carried drawing; note = note; status = status }
unfolding filed_with
carried_within carried drawing note status small =
    let size = size_with carried drawing in
    let within : nat_lt MOST_BYTES size ≡ false = grind (arith, nat_tests) in
    ap (λ test. if test then noted (too_large_note size) (TooLarge size) else record { output = canonical_with carried drawing; note = note; status = status }) within

pub carried_large : (carried : Carried) (drawing : Contents) (note : List ℕ) (status : Status) → MOST_BYTES < size_with carried drawing
    → filed_with carried drawing note status ≡ noted (too_large_note (size_with carried drawing)) (TooLarge (size_with carried drawing))
unfolding filed_with
carried_large carried drawing note status large =
    let size = size_with carried drawing in
    let over : nat_lt MOST_BYTES size ≡ true = grind (arith, nat_tests) in
    ap (λ test. if test then noted (too_large_note size) (TooLarge size) else record { output = canonical_with carried drawing; note = note; status = status }) over

-- one without a picture
pub filed_within : (drawing : Contents) (note : List ℕ) (status : Status) → size_of drawing ≤ MOST_BYTES → filed drawing note status ≡ record { output = canonical drawing; note = note; status = status }
filed_within = carried_within NO_PICTURE

pub filed_large : (drawing : Contents) (note : List ℕ) (status : Status) → MOST_BYTES < size_of drawing → filed drawing note status ≡ noted (too_large_note (size_of drawing)) (TooLarge (size_of drawing))
filed_large = carried_large NO_PICTURE

-- the canonical file of a valid drawing is rewritten as it is
pub written_rewrites : DrawingLaws → FileLaws → (drawing : Contents) → IsValid drawing → size_of drawing ≤ MOST_BYTES → Rewrites drawing (record { output = canonical drawing; note = []; status = Done })
written_rewrites laws files drawing valid small =
    let spells : Spelled drawing (canonical drawing) = files.spells drawing valid small in
    let counted = files.counted drawing valid small in
    let input : IsInput (canonical drawing) = record { are = counted.1; within = subst (λ size. size ≤ MOST_BYTES) (sym counted.0) small } in
    record {
      answers = refl;
      spells = spells;
      no_other = λ other also. files.no_other drawing other valid small also;
      once = rewrite_is_written laws drawing (canonical drawing) input spells ∙ filed_within drawing [] Done small;
    }

-- so `rewrite` writes a file of which all this holds
pub rewrite_writes_drawing : DrawingLaws → FileLaws → RewriteWritesDrawing
rewrite_writes_drawing laws files drawing bytes input spelled small =
    let valid = laws.valid bytes drawing input.are input.within spelled in
    subst (λ (answer : Outcome). Rewrites drawing answer)
    (sym (rewrite_is_written laws drawing bytes input spelled ∙ filed_within drawing [] Done small)) (written_rewrites laws files drawing valid small)

-- and of a larger one reports its size
pub rewrite_reports_size : DrawingLaws → RewriteReportsSize
rewrite_reports_size laws drawing bytes input spelled large = rewrite_is_written laws drawing bytes input spelled ∙ filed_large drawing [] Done large

-- an answer that prints findings
printed_so : (drawing : Contents) (found : List Finding) (answer : Outcome) → found ≡ findings drawing.objects → answer ≡ record { output = audit_text found; note = []; status = verdict_status found }
    → answer ≡ record { output = audit_text (findings drawing.objects); note = []; status = answer.status }
printed_so drawing found answer are is =
    is ∙ ap (λ (all : List Finding). record { output = audit_text all; note = []; status = verdict_status found }) are
    ∙ ap (λ (status : Status). record { output = audit_text (findings drawing.objects); note = []; status = status }) (sym (ap (λ (a : Outcome). a.status) is))

-- the text of findings is not the verdict on none: it begins with another letter
begins_otherwise : (finding : Finding) (more : List Finding) → audit_text (finding ∷ more) ≡ line (codes "audit yes") → ⊥
unfolding audit_text finding_line
begins_otherwise finding more same =
    let letters : 102 ≡ 97 = ap (λ (text : List ℕ). get_or text 0 0) same in
    omega (arith, letters)

-- a verdict over findings, of which there are none exactly where a drawing is sound
verdict_reports : (drawing : Contents) (found : List Finding) (answer : Outcome) → found ≡ findings drawing.objects → answer ≡ record { output = audit_text found; note = []; status = verdict_status found }
    → (found ≡ []) ↔ IsSound drawing.objects → ReportsSound drawing answer
unfolding audit_text verdict
verdict_reports drawing [] answer found is sound = record {
  sound = (λ done. sound.0 refl, λ holds. ap (λ (a : Outcome). a.status) is);
  unsound = λ fails. absurd (fails (sound.0 refl));
  prints = printed_so drawing [] answer found is;
  yes = (λ prints. sound.0 refl, λ holds. ap (λ (a : Outcome). a.output) is);
}
verdict_reports drawing (finding ∷ more) answer found is sound = record {
  sound = (λ done. absurd (differ (sym done ∙ ap (λ (a : Outcome). a.status) is)), λ holds. absurd (some (sound.1 holds)));
  unsound = λ fails. ap (λ (a : Outcome). a.status) is;
  prints = printed_so drawing (finding ∷ more) answer found is;
  yes = (λ prints. absurd (begins_otherwise finding more (sym (ap (λ (a : Outcome). a.output) is) ∙ prints)), λ holds. absurd (some (sound.1 holds)));
}
  where
    differ : Done ≡ Found → ⊥
    differ same = absurd cc

    some : finding ∷ more ≡ [] → ⊥
    some same = absurd cc

-- `audit` reports whether the drawing is sound
pub audit_reports_sound : DrawingLaws → ValidIsAuditable → NothingIsFoundIfSound → AuditReportsSound
unfolding row_of audited
audit_reports_sound laws auditable sound drawing bytes input spelled =
    let valid = laws.valid bytes drawing input.are input.within spelled in
    let is : said (codes "audit") bytes ≡ audited drawing =
    audit_said bytes input ∙ passed Audit bytes (laws.passes bytes drawing input.are spelled) ∙ ap audited (read_is laws drawing bytes input.are spelled) in
    verdict_reports drawing (findings drawing.objects) (said (codes "audit") bytes) refl is (sound drawing.objects (auditable drawing valid).ascending)

-- `recover` tries no line
pub recover_is : (bytes : List ℕ) → IsInput bytes → said (codes "recover") bytes ≡ recovered_outcome (recovered bytes)
unfolding row_of
recover_is bytes input = recover_said bytes input ∙ passed Recover bytes refl

-- of what is recovered whole it answers the file
pub recover_rewrites_drawing : DrawingLaws → SpelledIsAnswered → RecoverRewritesDrawing
unfolding recovered_outcome
recover_rewrites_drawing laws answered drawing bytes input spelled =
    recover_is bytes input ∙ ap recovered_outcome (answered drawing bytes spelled input.are) ∙ sym (rewrite_is_written laws drawing bytes input spelled)

-- and of what is recovered of a damaged input, the file and the note
pub damaged_is : (value : RecoveredValue) (refusal : Refusal) → value.refusal ≡ Some refusal
    → recovered_outcome value ≡ filed value.drawing (recovery_note refusal value.losses value.kept) Found
unfolding recovered_outcome
damaged_is value refusal is = ap (λ first. filed value.drawing (recovery_notes first value.losses value.kept) (recovery_status first)) is

pub recover_writes_frames : DrawingLaws → FileLaws → RecoveredIsValid → DamagedIsAnswered → RecoverWritesFrames
recover_writes_frames laws files valid damaged bytes input none =
    let fails = first_failing laws bytes input none in
    let reported = damaged bytes fails.0 fails.1 in
    let value = recovered bytes in
    let refuses : value.refusal ≡ Some fails.0 = ap (λ (one : RecoveredValue). one.refusal) reported.0 ∙ reported.1 in
    let is : said (codes "recover") bytes ≡ filed value.drawing (recovery_note fails.0 value.losses value.kept) Found = recover_is bytes input ∙ damaged_is value fails.0 refuses in
    let rewrites = written_rewrites laws files value.drawing ((valid bytes input.are).valid input.within) in
    let output : size_of value.drawing ≤ MOST_BYTES → (said (codes "recover") bytes).output ≡ canonical value.drawing =
    λ small. ap (λ (a : Outcome). a.output) (is ∙ filed_within value.drawing (recovery_note fails.0 value.losses value.kept) Found small) in
    record {
      value = value;
      recovers = refl;
      valid = valid bytes input.are;
      refusal = fails.0;
      first = fails.1;
      writes = λ small. is ∙ filed_within value.drawing _ Found small;
      spells = λ small. subst (λ (file : List ℕ). Spelled value.drawing file) (sym (output small)) (rewrites small).spells;
      once = λ small.
          subst (λ (file : List ℕ). said (codes "rewrite") file ≡ record { output = file; note = []; status = Done }) (sym (output small)) (rewrites small).once;
      large = λ large. is ∙ filed_large value.drawing _ Found large;
    }
