-- What a status means of the input.
use Rattle.std.proofs.Common.{◌≡◌, refl, sym, ap, ◌∙◌, subst, ℕ, ◌+◌, ◌≤◌, ◌<◌, List, [], length, codes, Option, Some, None, true, false, arith, inl, inr, append-nil, ◌++◌}
use Rattle.std.proofs.lemmas.Bool.Decides.{nat_tests}
use Rattle.std.specs.Prelude.{Bool, ◌⊎◌, IsTrue, nat_lt, if◌then◌else◌}
use Rattle.std.specs.Io.KnownBytes.{Consumes}
use Rattle.dwg_audit.specs.Auditable.{CanBeAudited, ValidIsAuditable}
use Rattle.dwg_base.specs.Bytes.{AreBytes}
use Rattle.dwg_base.specs.Devices.{Came, MOST_BYTES}
use Rattle.dwg_base.specs.Refusals.{RefusalRow, first_fault}
use Rattle.dwg_base.specs.Refusal.{Refusal}
use Rattle.dwg_cert.specs.AcceptTests.{is_accepted}
use Rattle.dwg_cert.specs.CertificateLaws.{HasCertificate}
use Rattle.dwg_cert.specs.CertificateLines.{CERTIFICATE_LINES}
use Rattle.dwg_cert.specs.Certified.{certificate_of}
use Rattle.dwg_cert.specs.WrittenForm.{BeginsWithCertificate}
use Rattle.dwg_cert.specs.declared.entry.Entry.{Entry}
use Rattle.dwg_file.specs.Canonical.{NO_PICTURE, canonical_with, size_of, size_with}
use Rattle.dwg_file.specs.Contents.{Contents}
use Rattle.dwg_file.specs.DrawingAt.{drawing_at}
use Rattle.dwg_file.specs.FileLines.{ALL_LINES}
use Rattle.dwg_file.specs.Spelled.{Spelled}
use Rattle.dwg_graph.specs.Sound.{IsSound}
use Rattle.dwg_messages.specs.RecoveryNote.{recovery_note}
use Rattle.dwg_recover.specs.Recovering.{RecoveredValue, recovered}
use Rattle.dwg_recover.specs.Reported.{DamagedIsAnswered}
use Rattle.dwg_sections.specs.HeaderLines.{header_at}
use Rattle.dwg_text.specs.Notes.{too_large_note, too_long_note}
use Rattle.dwg_commands.specs.declared.outcome.Outcome.{Outcome}
use Rattle.dwg_commands.specs.declared.status.Status.{Status}
use Rattle.dwg_commands.specs.declared.status.Status.TheVariants.{Done, Found, Refused, TooLarge, TooLong}
use Rattle.dwg_commands.specs.declared.words.Command.{Command}
use Rattle.dwg_commands.specs.declared.words.Command.TheVariants.{Sections, Classes, Show, Rewrite, Audit, Recover, Appdata, Certify, Accept, Carry}
use Rattle.dwg_commands.specs.Answered.{filed, filed_with, noted}
use Rattle.dwg_commands.specs.Commands.{lines_of, reads, row_of}
use Rattle.dwg_commands.specs.Outcome.{outcome, outcome_of, outcome_within}
use Rattle.dwg_commands.specs.OutcomeLaws.{AcceptReportsAccepted, AppdataReportsItems, AuditReportsSound, IsInput, RecoverRewritesDrawing, ReportsAccepted, RewriteReportsSize, RewriteWritesDrawing, Rewrites, SoundIsCertified, SpellsNone, UnsoundIsNoted, said}
use Rattle.dwg_commands.specs.Meaning.{AcceptedIsAudited, CertifyEndsAsAudit, HoldsAccepted, HoldsOther, Means, MeansDone, MeansFound, RecoverDoneIsSpelled, SpellsSome, SpellsSound, SpellsUnsound, StatusesMean}
use Rattle.dwg_commands.specs.Run.{Feeds, IsDrained, IsDrainedSource}
use Rattle.dwg_commands.specs.Words.{IsReading, command_of}
use Rattle.dwg_commands.proofs.CertificateLaws.{FormLaws, accept_said, certify_said, input_after, tried_there}
use Rattle.dwg_commands.proofs.CertificateOutcomes.{AcceptanceLaws, accepted_where_sound}
use Rattle.dwg_commands.proofs.Faults.{refused_first}
use Rattle.dwg_commands.proofs.ItemLaws.{appdata_said}
use Rattle.dwg_commands.proofs.OutcomeLaws.{DrawingLaws, audit_said, damaged_is, of_input, recover_is, recover_said, refused}
use Rattle.dwg_commands.proofs.Outcomes.{outcome_of_many, outcome_of_reading}
use Rattle.dwg_commands.proofs.SectionLemmas.{PartLaws, passing_has_classes}

-- what is known of the answers
pub record AnswerLaws : Type 0 where
  pub parts : PartLaws
  pub drawings : DrawingLaws
  pub auditable : ValidIsAuditable
  pub acceptance : AcceptanceLaws
  pub forms : FormLaws
  pub damaged : DamagedIsAnswered
  pub rewrite : RewriteWritesDrawing
  pub large : RewriteReportsSize
  pub recover : RecoverRewritesDrawing
  pub audit : AuditReportsSound
  pub certify : SoundIsCertified
  pub unsound : UnsoundIsNoted
  pub accept : AcceptReportsAccepted
  pub items : AppdataReportsItems

-- statuses differ
done_is_not_found : Done ≡ Found → ⊥
done_is_not_found same = absurd cc

-- a status that isn't a refusal, nor that of an input that is too long
record IsAnswered (status : Status) : Type 0 where
  refused : (refusal : Refusal) → status ≡ Refused refusal → ⊥
  long : status ≡ TooLong → ⊥

done_is_answered : IsAnswered Done
done_is_answered = record { refused = λ refusal same. absurd cc; long = λ same. absurd cc }

found_is_answered : IsAnswered Found
found_is_answered = record { refused = λ refusal same. absurd cc; long = λ same. absurd cc }

-- where a command doesn't refuse an input, none of its lines fails
no_line_fails : (command : Command) (bytes : List ℕ) (status : Status) → IsAnswered status → (outcome_within command bytes).status ≡ status → first_fault (lines_of command) bytes ≡ None
no_line_fails command bytes status answered ends = of_first (first_fault (lines_of command) bytes) refl
  where
    of_first : (first : Option Refusal) → first_fault (lines_of command) bytes ≡ first → first_fault (lines_of command) bytes ≡ None
    of_first None is = is
    of_first (Some refusal) is = absurd (answered.refused refusal (sym ends ∙ ap (λ (a : Outcome). a.status) (refused command bytes refusal is)))

-- an input that a command which reads answers so is within the limit
input_where : (command : Command) (bytes : List ℕ) (status : Status) → IsTrue (reads command) → AreBytes bytes → IsAnswered status → (outcome_of (Some command) bytes).status ≡ status → IsInput bytes
input_where command bytes status is are answered ends = record { are = are; within = of_test (nat_lt MOST_BYTES (length bytes)) refl }
  where
    of_test : (test : Bool) → nat_lt MOST_BYTES (length bytes) ≡ test → length bytes ≤ MOST_BYTES
    of_test false few = grind (arith, nat_tests)
    of_test true many =
        let more : MOST_BYTES < length bytes = grind (arith, nat_tests) in
        let long : outcome_of (Some command) bytes ≡ noted too_long_note TooLong =
        sym (outcome_of_reading (Some command) command bytes refl is) ∙ sym (outcome_of_many command bytes (noted too_long_note TooLong) more refl) in
        absurd (answered.long (sym ends ∙ ap (λ (a : Outcome). a.status) long))

-- and where it tries all lines, that input spells a drawing
spelled_where : DrawingLaws → (command : Command) (bytes : List ℕ) (status : Status) → lines_of command ≡ ALL_LINES → IsInput bytes → IsAnswered status → (outcome_within command bytes).status ≡ status
    → Spelled (drawing_at bytes) bytes
spelled_where laws command bytes status tries input answered ends =
    laws.spelled bytes input.are
    (ap (λ (lines : List RefusalRow). first_fault lines bytes) (sym tries) ∙ no_line_fails command bytes status answered ends)

-- the references of a drawing hold together, or they don't
sound_or_not : AnswerLaws → (drawing : Contents) (bytes : List ℕ) → IsInput bytes → Spelled drawing bytes → IsSound drawing.objects ⊎ (IsSound drawing.objects → ⊥)
sound_or_not laws drawing bytes input spelled = of_test (is_accepted drawing.objects (certificate_of drawing.objects)) refl
  where
    can : CanBeAudited drawing.objects
    can = laws.auditable drawing (laws.drawings.valid bytes drawing input.are input.within spelled)

    differ : true ≡ false → ⊥
    differ same = absurd cc

    of_test : (test : Bool) → is_accepted drawing.objects (certificate_of drawing.objects) ≡ test → IsSound drawing.objects ⊎ (IsSound drawing.objects → ⊥)
    of_test true is =
        inl (laws.acceptance.sound drawing.objects (certificate_of drawing.objects) can.ascending
        ((laws.acceptance.reported drawing.objects (certificate_of drawing.objects) can.ascending).0 is))
    of_test false is = inr (λ sound. differ (sym (accepted_where_sound laws.acceptance drawing.objects can.ascending sound) ∙ is))

-- `certify` and `audit` refuse alike
refuse_alike : (bytes : List ℕ) → IsInput bytes → (refusal : Refusal) → first_fault ALL_LINES bytes ≡ Some refusal → (said (codes "certify") bytes).status ≡ (said (codes "audit") bytes).status
unfolding row_of
refuse_alike bytes input refusal is =
    ap (λ (a : Outcome). a.status) (certify_said bytes input ∙ refused Certify bytes refusal is)
    ∙ sym (ap (λ (a : Outcome). a.status) (audit_said bytes input ∙ refused Audit bytes refusal is))

-- so they end alike
pub certify_ends_as_audit : AnswerLaws → CertifyEndsAsAudit
certify_ends_as_audit laws bytes input = of_first (first_fault ALL_LINES bytes) refl
  where
    of_drawing : (drawing : Contents) → Spelled drawing bytes → IsSound drawing.objects ⊎ (IsSound drawing.objects → ⊥) → (said (codes "certify") bytes).status ≡ (said (codes "audit") bytes).status
    of_drawing drawing spelled (inl sound) =
        ap (λ (a : Outcome). a.status) (laws.certify drawing bytes input spelled sound) ∙ sym ((laws.audit drawing bytes input spelled).sound.1 sound)
    of_drawing drawing spelled (inr unsound) =
        ap (λ (a : Outcome). a.status) (laws.unsound drawing bytes input spelled unsound) ∙ sym ((laws.audit drawing bytes input spelled).unsound unsound)

    of_first : (first : Option Refusal) → first_fault ALL_LINES bytes ≡ first → (said (codes "certify") bytes).status ≡ (said (codes "audit") bytes).status
    of_first (Some refusal) is = refuse_alike bytes input refusal is
    of_first None is =
        let spelled = laws.drawings.spelled bytes input.are is in
        of_drawing (drawing_at bytes) spelled (sound_or_not laws (drawing_at bytes) bytes input spelled)

-- what `audit` means
audit_done_means : AnswerLaws → (bytes : List ℕ) → IsInput bytes → (said (codes "audit") bytes).status ≡ Done → SpellsSound bytes
unfolding row_of
audit_done_means laws bytes input done =
    let spelled = spelled_where laws.drawings Audit bytes Done refl input done_is_answered (sym (ap (λ (a : Outcome). a.status) (audit_said bytes input)) ∙ done) in
    (drawing_at bytes, spelled, (laws.audit (drawing_at bytes) bytes input spelled).sound.0 done)

audit_found_means : AnswerLaws → (bytes : List ℕ) → IsInput bytes → (said (codes "audit") bytes).status ≡ Found → SpellsUnsound bytes
unfolding row_of
audit_found_means laws bytes input found =
    let spelled = spelled_where laws.drawings Audit bytes Found refl input found_is_answered (sym (ap (λ (a : Outcome). a.status) (audit_said bytes input)) ∙ found) in
    (drawing_at bytes, spelled, λ sound. done_is_not_found (sym ((laws.audit (drawing_at bytes) bytes input spelled).sound.1 sound) ∙ found))

-- what `accept` reads of an input that it doesn't refuse, and that it reports of that
record IsRead (bytes : List ℕ) : Type 0 where
  cert : List Entry
  rest : List ℕ
  drawing : Contents
  begins : BeginsWithCertificate bytes cert rest
  spelled : Spelled drawing rest
  reports : ReportsAccepted drawing cert (said (codes "accept") bytes)

accept_reads : AnswerLaws → (bytes : List ℕ) (status : Status) → IsInput bytes → IsAnswered status → (said (codes "accept") bytes).status ≡ status → IsRead bytes
accept_reads laws bytes status input answered ends = of_first (first_fault CERTIFICATE_LINES bytes) refl
  where
    passes : first_fault (lines_of Accept) bytes ≡ None
    passes = no_line_fails Accept bytes status answered (sym (ap (λ (a : Outcome). a.status) (accept_said bytes input)) ∙ ends)

    differ : (refusal : Refusal) → first_fault (lines_of Accept) bytes ≡ Some refusal → ⊥
    differ refusal fails = let both : None ≡ Some refusal = sym passes ∙ fails in absurd cc

    of_begun : (cert : List Entry) (rest : List ℕ) → BeginsWithCertificate bytes cert rest → IsRead bytes
    of_begun cert rest begins =
        let spelled = laws.drawings.spelled rest (input_after bytes cert rest input begins).are (sym (tried_there laws.forms bytes cert rest begins) ∙ passes) in
        record {
          cert = cert;
          rest = rest;
          drawing = drawing_at rest;
          begins = begins;
          spelled = spelled;
          reports = laws.accept bytes cert (drawing_at rest) rest input begins spelled;
        }

    of_first : (first : Option Refusal) → first_fault CERTIFICATE_LINES bytes ≡ first → IsRead bytes
    of_first (Some refusal) is = absurd (differ refusal (refused_first bytes refusal is))
    of_first None is =
        let has : HasCertificate bytes = (laws.forms.exact bytes input.are).0 is in
        of_begun has.0 has.1 has.2

-- what `accept` means
accept_done_means : AnswerLaws → (bytes : List ℕ) → IsInput bytes → (said (codes "accept") bytes).status ≡ Done → HoldsAccepted bytes
accept_done_means laws bytes input done =
    let read = accept_reads laws bytes Done input done_is_answered done in
    record {
      cert = read.cert;
      rest = read.rest;
      drawing = read.drawing;
      begins = read.begins;
      spelled = read.spelled;
      accepts = read.reports.accepted.0 done;
      sound = read.reports.sound done;
    }

accept_found_means : AnswerLaws → (bytes : List ℕ) → IsInput bytes → (said (codes "accept") bytes).status ≡ Found → HoldsOther bytes
accept_found_means laws bytes input found =
    let read = accept_reads laws bytes Found input found_is_answered found in
    record {
      cert = read.cert;
      rest = read.rest;
      drawing = read.drawing;
      begins = read.begins;
      spelled = read.spelled;
      differs = λ accepts. done_is_not_found (sym (read.reports.accepted.1 accepts) ∙ found);
    }

-- what `appdata` means
appdata_done_means : AnswerLaws → (bytes : List ℕ) → IsInput bytes → (said (codes "appdata") bytes).status ≡ Done → MeansDone Appdata bytes
unfolding row_of
appdata_done_means laws bytes input done =
    let spelled = spelled_where laws.drawings Appdata bytes Done refl input done_is_answered (sym (ap (λ (a : Outcome). a.status) (appdata_said bytes input)) ∙ done) in
    (drawing_at bytes, spelled, (laws.items (drawing_at bytes) bytes input spelled).met.0 done)

appdata_found_means : AnswerLaws → (bytes : List ℕ) → IsInput bytes → (said (codes "appdata") bytes).status ≡ Found → MeansFound Appdata bytes
unfolding row_of
appdata_found_means laws bytes input found =
    let spelled = spelled_where laws.drawings Appdata bytes Found refl input found_is_answered (sym (ap (λ (a : Outcome). a.status) (appdata_said bytes input)) ∙ found) in
    (drawing_at bytes, spelled, λ met. done_is_not_found (sym ((laws.items (drawing_at bytes) bytes input spelled).met.1 met) ∙ found))

-- so what it accepts `audit` ends with Done
pub accepted_is_audited : AnswerLaws → AcceptedIsAudited
accepted_is_audited laws bytes input done =
    let holds = accept_done_means laws bytes input done in
    let there = input_after bytes holds.cert holds.rest input holds.begins in
    (holds.cert, holds.rest, holds.begins, (laws.audit holds.drawing holds.rest there holds.spelled).sound.1 holds.sound)

-- a file that is noted as found isn't Done
filed_is_not_done : (drawing : Contents) (note : List ℕ) → (filed drawing note Found).status ≡ Done → ⊥
unfolding filed_with
filed_is_not_done drawing note = of_test (nat_lt MOST_BYTES (size_with NO_PICTURE drawing))
  where
    of_test : (test : Bool)
        → (if test then noted (too_large_note (size_with NO_PICTURE drawing)) (TooLarge (size_with NO_PICTURE drawing)) else record { output = canonical_with NO_PICTURE drawing; note = note; status = Found }).status ≡ Done → ⊥
    of_test true same = let both : TooLarge (size_with NO_PICTURE drawing) ≡ Done = same in absurd cc
    of_test false same = let both : Found ≡ Done = same in absurd cc

-- what `recover` does
pub recover_done_is_spelled : AnswerLaws → RecoverDoneIsSpelled
recover_done_is_spelled laws bytes input done = of_first (first_fault ALL_LINES bytes) refl
  where
    large_differs : (drawing : Contents) → Spelled drawing bytes → MOST_BYTES < size_of drawing → ⊥
    large_differs drawing spelled large =
        let both : Done ≡ TooLarge (size_of drawing) = sym done ∙ ap (λ (a : Outcome). a.status) (laws.recover drawing bytes input spelled ∙ laws.large drawing bytes input spelled large) in
        absurd cc

    small : (drawing : Contents) → Spelled drawing bytes → (test : Bool) → nat_lt MOST_BYTES (size_of drawing) ≡ test → size_of drawing ≤ MOST_BYTES
    small drawing spelled false is = grind (arith, nat_tests)
    small drawing spelled true is = let over : MOST_BYTES < size_of drawing = grind (arith, nat_tests) in absurd (large_differs drawing spelled over)

    of_drawing : (drawing : Contents) → Spelled drawing bytes → (one : Contents) × Spelled one bytes × Rewrites one (said (codes "recover") bytes)
    of_drawing drawing spelled =
        let writes = laws.rewrite drawing bytes input spelled (small drawing spelled (nat_lt MOST_BYTES (size_of drawing)) refl) in
        (drawing, spelled, subst (λ (answer : Outcome). Rewrites drawing answer) (sym (laws.recover drawing bytes input spelled)) writes)

    of_refusal : (refusal : Refusal) → first_fault ALL_LINES bytes ≡ Some refusal → ⊥
    of_refusal refusal is =
        let reported = laws.damaged bytes refusal is in
        let value = recovered bytes in
        let refuses : value.refusal ≡ Some refusal = ap (λ (one : RecoveredValue). one.refusal) reported.0 ∙ reported.1 in
        let files : said (codes "recover") bytes ≡ filed value.drawing (recovery_note refusal value.losses value.kept) Found = recover_is bytes input ∙ damaged_is value refusal refuses in
        filed_is_not_done value.drawing (recovery_note refusal value.losses value.kept) (sym (ap (λ (a : Outcome). a.status) files) ∙ done)

    of_first : (first : Option Refusal) → first_fault ALL_LINES bytes ≡ first → (drawing : Contents) × Spelled drawing bytes × Rewrites drawing (said (codes "recover") bytes)
    of_first (Some refusal) is = absurd (of_refusal refusal is)
    of_first None is = of_drawing (drawing_at bytes) (laws.drawings.spelled bytes input.are is)

-- and what Found of it means: whatever an input spells is rewritten or too large
recover_found_means : AnswerLaws → (bytes : List ℕ) → IsInput bytes → (said (codes "recover") bytes).status ≡ Found → SpellsNone bytes
recover_found_means laws bytes input found drawing spelled = of_test (nat_lt MOST_BYTES (size_of drawing)) refl
  where
    answers : (said (codes "recover") bytes).status ≡ (said (codes "rewrite") bytes).status
    answers = ap (λ (a : Outcome). a.status) (laws.recover drawing bytes input spelled)

    of_test : (test : Bool) → nat_lt MOST_BYTES (size_of drawing) ≡ test → ⊥
    of_test false few =
        let within : size_of drawing ≤ MOST_BYTES = grind (arith, nat_tests) in
        done_is_not_found (sym (ap (λ (a : Outcome). a.status) (laws.rewrite drawing bytes input spelled within).answers) ∙ sym answers ∙ found)
    of_test true many =
        let over : MOST_BYTES < size_of drawing = grind (arith, nat_tests) in
        let both : TooLarge (size_of drawing) ≡ Found = sym (ap (λ (a : Outcome). a.status) (laws.large drawing bytes input spelled over)) ∙ sym answers ∙ found in
        absurd cc

-- what is said by a word ends as its command does
said_ends : (command : Command) (bytes : List ℕ) (status : Status) (answer : Outcome) → IsInput bytes → IsTrue (reads command) → answer ≡ outcome_within command bytes
    → (outcome_of (Some command) bytes).status ≡ status → answer.status ≡ status
said_ends command bytes status answer input is same ends = ap (λ (a : Outcome). a.status) (same ∙ sym (of_input command bytes input is)) ∙ ends

-- what Done means of a command that tries all lines
all_lines_done : DrawingLaws → (command : Command) (bytes : List ℕ) → IsTrue (reads command) → lines_of command ≡ ALL_LINES → AreBytes bytes → (outcome_of (Some command) bytes).status ≡ Done → SpellsSome bytes
all_lines_done laws command bytes is tries are done =
    let input = input_where command bytes Done is are done_is_answered done in
    (drawing_at bytes, spelled_where laws command bytes Done tries input done_is_answered (said_ends command bytes Done (outcome_within command bytes) input is refl done))

-- and of each
done_means : AnswerLaws → RecoverDoneIsSpelled → (command : Command) (bytes : List ℕ) → (IsTrue (reads command) → AreBytes bytes) → (outcome_of (Some command) bytes).status ≡ Done → MeansDone command bytes
unfolding row_of
done_means laws recovers Sections bytes are done =
    let input = input_where Sections bytes Done refl (are refl) done_is_answered done in
    let passes = no_line_fails Sections bytes Done done_is_answered (said_ends Sections bytes Done (outcome_within Sections bytes) input refl refl done) in
    (header_at bytes, laws.parts.begins bytes (are refl) passes)
done_means laws recovers Classes bytes are done =
    let input = input_where Classes bytes Done refl (are refl) done_is_answered done in
    passing_has_classes laws.parts bytes input
    (no_line_fails Classes bytes Done done_is_answered (said_ends Classes bytes Done (outcome_within Classes bytes) input refl refl done))
done_means laws recovers Show bytes are done = all_lines_done laws.drawings Show bytes refl refl (are refl) done
done_means laws recovers Rewrite bytes are done = all_lines_done laws.drawings Rewrite bytes refl refl (are refl) done
done_means laws recovers Appdata bytes are done =
    let input = input_where Appdata bytes Done refl (are refl) done_is_answered done in
    appdata_done_means laws bytes input (said_ends Appdata bytes Done (said (codes "appdata") bytes) input refl (appdata_said bytes input) done)
done_means laws recovers Carry bytes are done = all_lines_done laws.drawings Carry bytes refl refl (are refl) done
done_means laws recovers Audit bytes are done =
    let input = input_where Audit bytes Done refl (are refl) done_is_answered done in
    audit_done_means laws bytes input (said_ends Audit bytes Done (said (codes "audit") bytes) input refl (audit_said bytes input) done)
done_means laws recovers Certify bytes are done =
    let input = input_where Certify bytes Done refl (are refl) done_is_answered done in
    audit_done_means laws bytes input (sym (certify_ends_as_audit laws bytes input) ∙ said_ends Certify bytes Done (said (codes "certify") bytes) input refl (certify_said bytes input) done)
done_means laws recovers Accept bytes are done =
    let input = input_where Accept bytes Done refl (are refl) done_is_answered done in
    accept_done_means laws bytes input (said_ends Accept bytes Done (said (codes "accept") bytes) input refl (accept_said bytes input) done)
done_means laws recovers Recover bytes are done =
    let input = input_where Recover bytes Done refl (are refl) done_is_answered done in
    let spells = recovers bytes input (said_ends Recover bytes Done (said (codes "recover") bytes) input refl (recover_said bytes input) done) in
    (spells.0, spells.1)
done_means laws recovers command bytes are done = tt

-- and Found
found_means : AnswerLaws → (command : Command) (bytes : List ℕ) → (IsTrue (reads command) → AreBytes bytes) → (outcome_of (Some command) bytes).status ≡ Found → MeansFound command bytes
unfolding row_of
found_means laws Audit bytes are found =
    let input = input_where Audit bytes Found refl (are refl) found_is_answered found in
    audit_found_means laws bytes input (said_ends Audit bytes Found (said (codes "audit") bytes) input refl (audit_said bytes input) found)
found_means laws Certify bytes are found =
    let input = input_where Certify bytes Found refl (are refl) found_is_answered found in
    audit_found_means laws bytes input (sym (certify_ends_as_audit laws bytes input) ∙ said_ends Certify bytes Found (said (codes "certify") bytes) input refl (certify_said bytes input) found)
found_means laws Accept bytes are found =
    let input = input_where Accept bytes Found refl (are refl) found_is_answered found in
    accept_found_means laws bytes input (said_ends Accept bytes Found (said (codes "accept") bytes) input refl (accept_said bytes input) found)
found_means laws Appdata bytes are found =
    let input = input_where Appdata bytes Found refl (are refl) found_is_answered found in
    appdata_found_means laws bytes input (said_ends Appdata bytes Found (said (codes "appdata") bytes) input refl (appdata_said bytes input) found)
found_means laws Recover bytes are found =
    let input = input_where Recover bytes Found refl (are refl) found_is_answered found in
    recover_found_means laws bytes input (said_ends Recover bytes Found (said (codes "recover") bytes) input refl (recover_said bytes input) found)
found_means laws command bytes are found = tt

-- what a status means, by what Done and Found do
by_status : (status : Status) (command : Command) (bytes : List ℕ) → (status ≡ Done → MeansDone command bytes) → (status ≡ Found → MeansFound command bytes) → Means status command bytes
by_status Done command bytes done found = done refl
by_status Found command bytes done found = found refl
by_status status command bytes done found = tt

pub statuses_mean : AnswerLaws → StatusesMean
statuses_mean laws command bytes are =
    by_status (outcome_of (Some command) bytes).status command bytes (done_means laws (recover_done_is_spelled laws) command bytes are) (found_means laws command bytes are)

-- a status that means something ends a command that read its input to the end
by_drained : (status : Status) (command : Command) (bytes : List ℕ) → (IsDrained status → Means status command bytes) → Means status command bytes
by_drained Done command bytes means = means tt
by_drained Found command bytes means = means tt
by_drained status command bytes means = tt

-- what a source reported and gave to its end are bytes
reported_are_bytes : (old new : Option (List ℕ)) (came bytes : List ℕ) → Consumes old new came → AreBytes came → IsDrainedSource old new → old ≡ Some bytes → AreBytes bytes
reported_are_bytes None new came bytes gave are drained reported = absurd cc
reported_are_bytes (Some left) None came bytes gave are drained reported = absurd gave
reported_are_bytes (Some left) (Some rest) came bytes gave are drained reported =
    let same : bytes ≡ left = cc in
    let end : rest ≡ [] = cc in
    subst AreBytes (sym (same ∙ gave ∙ ap (λ (after : List ℕ). came ++ after) end ∙ append-nil came)) are

-- so the status of an answer means that of the bytes that the input reported
pub answer_means : StatusesMean → (words : List (List ℕ)) (old new : Option (List ℕ)) (answer : Outcome) → ((bytes : List ℕ) → Feeds (command_of words) old bytes → answer ≡ outcome words bytes)
    → Came old new (λ came. (length came ≤ MOST_BYTES + 1) × (answer ≡ outcome words came)) → (IsDrained answer.status → IsReading (command_of words) → IsDrainedSource old new)
    → (bytes : List ℕ) → old ≡ Some bytes → (command : Command) → command_of words ≡ Some command → Means answer.status command bytes
answer_means mean words old new answer answered (came, gave, are, holds) drained bytes reported command names = by_drained answer.status command bytes of_drained
  where
    is : answer ≡ outcome_of (Some command) bytes
    is = answered bytes (λ reading. reported) ∙ ap (λ (one : Option Command). outcome_of one bytes) names

    of_drained : IsDrained answer.status → Means answer.status command bytes
    of_drained done =
        subst (λ (status : Status). Means status command bytes) (sym (ap (λ (a : Outcome). a.status) is))
        (mean command bytes (λ reads. reported_are_bytes old new came bytes gave are (drained done (subst IsReading (sym names) reads)) reported))
