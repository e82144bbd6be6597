-- What a run that stopped left on output and notes.
use Rattle.std.proofs.Common.{◌≡◌, ◌∙◌, ap, subst, sym, inl, inr}
use Rattle.std.specs.Prelude.{ℕ, ◌≤◌, ◌+◌, List, Option, Some, length}
use Rattle.dwg_base.specs.Devices.{Came, MOST_BYTES}
use Rattle.dwg_commands.specs.Meaning.{Means, StatusesMean}
use Rattle.dwg_commands.specs.Outcome.{outcome, outcome_of}
use Rattle.dwg_commands.specs.Words.{command_of}
use Rattle.dwg_commands.specs.declared.words.Command.{Command}
use Rattle.dwg_commands.specs.declared.status.Status.{Status}
use Rattle.dwg_commands.specs.declared.status.Status.TheVariants.{Done, Found, Usage, Refused, ReadFault, WriteFault, NoMemory, TooLong, TooLarge}
use Rattle.dwg_commands.specs.declared.outcome.Outcome.{Outcome}
use Rattle.dwg_commands.specs.Run.{IsSettled, IsStopped, DeliversPrefix, Sent, Sinks}

-- a status that is settled isn't one at which the run stopped
settled_goes_on : (status : Status) → IsSettled status → IsStopped status → ⊥
settled_goes_on Done settled stopped = stopped
settled_goes_on Found settled stopped = stopped
settled_goes_on Usage settled stopped = stopped
settled_goes_on (Refused refusal) settled stopped = stopped
settled_goes_on ReadFault settled stopped = settled
settled_goes_on WriteFault settled stopped = settled
settled_goes_on NoMemory settled stopped = settled
settled_goes_on TooLong settled stopped = stopped
settled_goes_on (TooLarge size) settled stopped = stopped

-- a run that stopped as it sent its answer left a prefix of what was reported
pub stopped_is_cut : (answer reported : Outcome) (status : Status) (before after : Sinks) → answer ≡ reported → IsSettled answer.status → Sent answer status before after → IsStopped status
    → DeliversPrefix reported before.output after.output before.notes after.notes
stopped_is_cut answer reported status before after is settled sent stopped =
    elim sent.1 [
      | inl whole ↦ absurd (settled_goes_on status (subst IsSettled (sym whole.0) settled) stopped)
      | inr broken ↦ subst (λ (one : Outcome). DeliversPrefix one before.output after.output before.notes after.notes) is broken.1
    ]

-- one that is settled sent its whole answer
pub settled_is_whole : (answer : Outcome) (status : Status) (before after : Sinks) → IsSettled status → Sent answer status before after → answer.status ≡ status
settled_is_whole answer status before after settled sent =
    elim sent.1 [
      | inl whole ↦ sym whole.0
      | inr broken ↦ absurd (settled_goes_on status settled broken.0)
    ]

-- the status of an answer means that of the bytes that came, whatever was reported of them
pub status_means_of_came : StatusesMean → (words : List (List ℕ)) (old new : Option (List ℕ)) (answer : Outcome) (status : Status) → answer.status ≡ status
    → Came old new (λ came. (length came ≤ MOST_BYTES + 1) × (answer ≡ outcome words came))
    → Came old new (λ came. (command : Command) → command_of words ≡ Some command → Means status command came)
status_means_of_came mean words old new answer status ends (came, gave, are, holds) = (came, gave, are, of_command)
  where
    of_command : (command : Command) → command_of words ≡ Some command → Means status command came
    of_command command names =
        let is : answer ≡ outcome_of (Some command) came = holds.1 ∙ ap (λ (one : Option Command). outcome_of one came) names in
        subst (λ (one : Status). Means one command came) (sym (ap (λ (one : Outcome). one.status) is) ∙ ends) (mean command came (λ reads. are))
