-- What the defined outcomes are, by their causes.
use Rattle.std.proofs.Common.{◌≡◌, refl, ℕ, ◌+◌, ◌≤◌, ◌<◌, List, [], ◌∷◌, ◌++◌, length, Some, None, sym, ap, ◌∙◌, arith, true, false, append-nil, length-append}
use Rattle.std.proofs.lemmas.Bool.Decides.{nat_tests}
use Rattle.std.specs.Prelude.{Bool, Option, Result, Ok, Err, IfOk, IsTrue, nat_lt, if◌then◌else◌}
use Rattle.std.specs.Io.KnownBytes.{Consumes, IsAtEnd}
use Rattle.dwg_appitems.specs.AppFindings.{app_findings}
use Rattle.dwg_audit.specs.Findings.{findings}
use Rattle.dwg_base.specs.Devices.{Came, MOST_BYTES}
use Rattle.dwg_base.specs.Refusal.{Refusal}
use Rattle.dwg_base.specs.Refusals.{first_fault}
use Rattle.dwg_cert.specs.AcceptTests.{is_accepted}
use Rattle.dwg_cert.specs.Certified.{certificate_of}
use Rattle.dwg_cert.specs.WrittenForm.{certificate_bytes}
use Rattle.dwg_cert.specs.declared.entry.Entry.{Entry}
use Rattle.dwg_text.specs.Notes.{usage_note, unsound_note, too_long_note, too_large_note}
use Rattle.dwg_commands.specs.declared.words.Command.{Command}
use Rattle.dwg_commands.specs.declared.words.Command.TheVariants.{Rewrite, Audit, Recover, Appdata, Certify, Accept, Carry, Make, Drill}
use Rattle.dwg_commands.specs.declared.status.Status.{Status}
use Rattle.dwg_commands.specs.declared.status.Status.TheVariants.{Done, Found, Usage, TooLong, TooLarge}
use Rattle.dwg_commands.specs.declared.outcome.Outcome.{Outcome}
use Rattle.dwg_commands.specs.declared.job.Job.{Job}
use Rattle.dwg_file.specs.Contents.{Contents}
use Rattle.dwg_file.specs.DrawingAt.{drawing_at}
use Rattle.dwg_file.specs.Canonical.{Carried, NO_PICTURE, size_of, size_with, canonical_with}
use Rattle.dwg_commands.specs.CertifiedInput.{cert_in, drawing_bytes}
use Rattle.dwg_commands.specs.Commands.{lines_of, reads, row_of}
use Rattle.dwg_commands.specs.Answered.{noted, printed, carried_in, carrying_note, content_in, filed_with, certified, acceptance, accepted, audited, items_reported, verdict_status, recovery_notes, recovery_status, recovered_outcome}
use Rattle.dwg_commands.specs.Outcome.{refused_or, outcome_within, outcome_of_input, outcome_of}
use Rattle.dwg_recover.specs.Recovering.{RecoveredValue, recovered}
use Rattle.dwg_commands.specs.Jobs.{asked}
use Rattle.dwg_commands.specs.Run.{Feeds, IsDrained}
use Rattle.dwg_commands.proofs.CommandsRead.{names_reading}

-- a refusal, and an answer after no refusal, come of an input that was read to its end
refused_or_is_drained : (first : Option Refusal) (answer : Outcome) → IsDrained answer.status → IsDrained (refused_or first answer).status
refused_or_is_drained (Some refusal) answer drained = tt
refused_or_is_drained None answer drained = drained

-- so does the file of a drawing, with a status that does
filed_is_drained : (carried : Carried) (drawing : Contents) (note : List ℕ) (status : Status) → IsDrained status → IsDrained (filed_with carried drawing note status).status
unfolding filed_with
filed_is_drained carried drawing note status drained = of_test (nat_lt MOST_BYTES (size_with carried drawing))
  where
    of_test : (test : Bool)
        → IsDrained (if test then noted (too_large_note (size_with carried drawing)) (TooLarge (size_with carried drawing)) else record { output = canonical_with carried drawing; note = note; status = status }).status
    of_test true = tt
    of_test false = drained

-- and what is recovered
recovered_is_drained : (value : RecoveredValue) → IsDrained (recovered_outcome value).status
unfolding recovered_outcome
recovered_is_drained value = filed_is_drained NO_PICTURE value.drawing (recovery_notes value.refusal value.losses value.kept) (recovery_status value.refusal) (of_refusal value.refusal)
  where
    of_refusal : (refusal : Option Refusal) → IsDrained (recovery_status refusal)
    of_refusal None = tt
    of_refusal (Some refusal) = tt

-- and what audits say, by what they found
verdict_is_drained : {A : Type 0} (found : List A) → IsDrained (verdict_status found)
verdict_is_drained {A} [] = tt
verdict_is_drained {A} (finding ∷ more) = tt

audited_is_drained : (drawing : Contents) → IsDrained (audited drawing).status
unfolding audited
audited_is_drained drawing = verdict_is_drained (findings drawing.objects)

items_are_drained : (drawing : Contents) → IsDrained (items_reported drawing).status
unfolding items_reported
items_are_drained drawing = verdict_is_drained (app_findings drawing.objects)

-- and what is said of a drawing's certificate
certified_is_drained : (drawing : Contents) → IsDrained (certified drawing).status
unfolding certified
certified_is_drained drawing = of_test (is_accepted drawing.objects (certificate_of drawing.objects))
  where
    of_test : (test : Bool) → IsDrained (if test then printed (certificate_bytes (certificate_of drawing.objects)) else noted unsound_note Found).status
    of_test true = tt
    of_test false = tt

-- and of one before a drawing
accepted_is_drained : (drawing : Contents) (cert : List Entry) → IsDrained (accepted drawing cert).status
unfolding accepted
accepted_is_drained drawing cert = of_test (is_accepted drawing.objects cert)
  where
    of_test : (test : Bool) → IsDrained (acceptance test).status
    of_test true = tt
    of_test false = tt

-- and so does what a command that reads answers to an input within the limit, most often a text
answer_is_drained : (command : Command) (bytes : List ℕ) → IsTrue (reads command) → IsDrained ((row_of command).answer bytes).status
unfolding row_of
answer_is_drained Rewrite bytes is = filed_is_drained NO_PICTURE (drawing_at bytes) [] Done tt
answer_is_drained Audit bytes is = audited_is_drained (drawing_at bytes)
answer_is_drained Recover bytes is = recovered_is_drained (recovered bytes)
answer_is_drained Appdata bytes is = items_are_drained (drawing_at bytes)
answer_is_drained Certify bytes is = certified_is_drained (drawing_at bytes)
answer_is_drained Accept bytes is = accepted_is_drained (drawing_at (drawing_bytes bytes)) (cert_in bytes)
answer_is_drained Carry bytes is = filed_is_drained (carried_in bytes) (drawing_at bytes) (carrying_note (content_in bytes)) Done tt
answer_is_drained (Make n seed) bytes is = let both : false ≡ true = is in absurd cc
answer_is_drained (Drill n) bytes is = let both : false ≡ true = is in absurd cc
answer_is_drained command bytes is = tt

pub outcome_is_drained : (command : Command) (bytes : List ℕ) → IsTrue (reads command) → IsDrained (outcome_within command bytes).status
unfolding outcome_within
outcome_is_drained command bytes is = refused_or_is_drained (first_fault (lines_of command) bytes) ((row_of command).answer bytes) (answer_is_drained command bytes is)

-- a source that reported its bytes and is at its end gave them all
reported_whole : (old new : Option (List ℕ)) (run bytes : List ℕ) → Consumes old new run → IsAtEnd new → old ≡ Some bytes → bytes ≡ run
reported_whole None new run bytes gave end reported = absurd cc
reported_whole (Some left) None run bytes gave end reported = absurd gave
reported_whole (Some left) (Some rest) run bytes gave end reported =
    let same : bytes ≡ left = cc in
    same ∙ gave ∙ ap (λ after. run ++ after) end ∙ append-nil run

-- a source that gave more bytes than the limit reported as many
reported_more : (old new : Option (List ℕ)) (gone bytes : List ℕ) → Consumes old new gone → length gone ≡ MOST_BYTES + 1 → old ≡ Some bytes → MOST_BYTES < length bytes
reported_more None new gone bytes gave long reported = absurd cc
reported_more (Some left) None gone bytes gave long reported = absurd gave
reported_more (Some left) (Some rest) gone bytes gave long reported =
    let same : bytes ≡ left = cc in
    omega (arith, long, ap length (same ∙ gave), length-append gone rest)

-- bytes within the limit are answered by the command
pub outcome_of_few : (command : Command) (run : List ℕ) (answer : Outcome) → length run ≤ MOST_BYTES → answer ≡ outcome_within command run → answer ≡ outcome_of_input command run
unfolding outcome_of_input
outcome_of_few command run answer within is =
    let short : nat_lt MOST_BYTES (length run) ≡ false = grind (arith, nat_tests) in
    rw short is

-- more bytes than the limit are too long
pub outcome_of_many : (command : Command) (bytes : List ℕ) (answer : Outcome) → MOST_BYTES < length bytes → answer ≡ noted too_long_note TooLong → answer ≡ outcome_of_input command bytes
unfolding outcome_of_input
outcome_of_many command bytes answer more is =
    let over : nat_lt MOST_BYTES (length bytes) ≡ true = grind (arith, nat_tests) in
    rw over is

-- what a source reported is answered by its command, where it was read to its end, within the limit
pub answered_within : (command : Command) (old new : Option (List ℕ)) (run bytes : List ℕ) (answer : Outcome) → Consumes old new run → IsAtEnd new → length run ≤ MOST_BYTES
    → answer ≡ outcome_within command run → old ≡ Some bytes → answer ≡ outcome_of_input command bytes
answered_within command old new run bytes answer gave end within is reported =
    outcome_of_few command run answer within is ∙ ap (outcome_of_input command) (sym (reported_whole old new run bytes gave end reported))

-- what a source reported is too long, where it gave more than the limit
pub answered_too_long : (command : Command) (old new : Option (List ℕ)) (gone bytes : List ℕ) (answer : Outcome) → Consumes old new gone → length gone ≡ MOST_BYTES + 1
    → answer ≡ noted too_long_note TooLong → old ≡ Some bytes → answer ≡ outcome_of_input command bytes
answered_too_long command old new gone bytes answer gave long is reported = outcome_of_many command bytes answer (reported_more old new gone bytes gave long reported) is

-- words of no command get the usage note, whatever the input
pub outcome_of_no_command : (named : Option Command) (bytes : List ℕ) → named ≡ None → noted usage_note Usage ≡ outcome_of named bytes
unfolding outcome_of
outcome_of_no_command named bytes none = rw none refl

-- words of a command that reads are answered by what it reads
pub outcome_of_reading : (named : Option Command) (command : Command) (bytes : List ℕ) → named ≡ Some command → IsTrue (reads command) → outcome_of_input command bytes ≡ outcome_of named bytes
unfolding outcome_of
outcome_of_reading named command bytes names is =
    sym (ap (λ (test : Bool). if test then outcome_of_input command bytes else outcome_within command bytes) is) ∙ ap (λ (one : Option Command). outcome_of one bytes) (sym names)

-- what a job asks of any input that its command gets, it asks of the words that name the command
pub answered_by : {E : Type 0} (named : Option Command) (command : Command) (result : Result Job E) (left : Option (List ℕ)) → named ≡ Some command → IsTrue (reads command)
    → IfOk result (λ job. (bytes : List ℕ) → left ≡ Some bytes → asked job ≡ outcome_of_input command bytes)
    → IfOk result (λ job. (bytes : List ℕ) → Feeds named left bytes → asked job ≡ outcome_of named bytes)
answered_by {E} named command (Ok job) left names is answered = λ bytes feeds.
    answered bytes (feeds (names_reading named command names is)) ∙ outcome_of_reading named command bytes names is
answered_by {E} named command (Err stop) left names is answered = tt

-- and so of the bytes that came
pub came_by : {E : Type 0} (named : Option Command) (command : Command) (result : Result Job E) (left left' : Option (List ℕ)) → named ≡ Some command → IsTrue (reads command)
    → IfOk result (λ job. Came left left' (λ came. (length came ≤ MOST_BYTES + 1) × (asked job ≡ outcome_of_input command came)))
    → IfOk result (λ job. Came left left' (λ came. (length came ≤ MOST_BYTES + 1) × (asked job ≡ outcome_of named came)))
came_by {E} named command (Ok job) left left' names reading (came, gave, are, (few, is)) = (came, gave, are, (few, is ∙ outcome_of_reading named command came names reading))
came_by {E} named command (Err stop) left left' names reading came = tt
