-- What a run of the program does to its three devices. A rule of this project.
use Rattle.std.specs.Prelude.{◌≡◌, ⊤, ℕ, List, [], Option, Some, ◌⊎◌, ◌+◌, ◌≤◌, length, IfSome}
use Rattle.std.specs.Io.KnownBytes.{Appends}
use Rattle.dwg_base.specs.Devices.{Rose, AppendsPrefix, MOST_BYTES}
use Rattle.dwg_text.specs.Notes.{read_fault_note}
use Rattle.dwg_commands.specs.declared.words.Command.{Command}
use Rattle.dwg_commands.specs.declared.status.Status.{Status}
use Rattle.dwg_commands.specs.declared.status.Status.TheVariants.{Done, Found, Usage, Refused, ReadFault, WriteFault, NoMemory, TooLong, TooLarge}
use Rattle.dwg_commands.specs.declared.outcome.Outcome.{Outcome}
use Rattle.dwg_commands.specs.Words.{IsReading}
use Rattle.dwg_commands.specs.Outcome.{outcome}

-- the bytes are those that the input reports, where the command reads; a command that doesn't read needs no reporting
abbrev pub Feeds : Option Command → Option (List ℕ) → List ℕ → Type 0
Feeds command reported bytes = IsReading command → reported ≡ Some bytes

-- neither a device nor memory failed
abbrev pub IsSettled : Status → Type 0
IsSettled Done = ⊤
IsSettled Found = ⊤
IsSettled Usage = ⊤
IsSettled (Refused refusal) = ⊤
IsSettled ReadFault = ⊥
IsSettled WriteFault = ⊥
IsSettled NoMemory = ⊥
IsSettled TooLong = ⊤
IsSettled (TooLarge size) = ⊤

-- a write failed, or memory was wanted
abbrev pub IsStopped : Status → Type 0
IsStopped Done = ⊥
IsStopped Found = ⊥
IsStopped Usage = ⊥
IsStopped (Refused refusal) = ⊥
IsStopped ReadFault = ⊥
IsStopped WriteFault = ⊤
IsStopped NoMemory = ⊤
IsStopped TooLong = ⊥
IsStopped (TooLarge size) = ⊥

-- a device or memory failed
abbrev pub IsFailed : Status → Type 0
IsFailed status = (status ≡ ReadFault) ⊎ IsStopped status

-- a command that reads has read its input to the end
abbrev pub IsDrained : Status → Type 0
IsDrained Done = ⊤
IsDrained Found = ⊤
IsDrained Usage = ⊥
IsDrained (Refused refusal) = ⊤
IsDrained ReadFault = ⊥
IsDrained WriteFault = ⊥
IsDrained NoMemory = ⊥
IsDrained TooLong = ⊥
IsDrained (TooLarge size) = ⊤

-- where the source reported its bytes, it reports that none are left
abbrev pub IsDrainedSource : Option (List ℕ) → Option (List ℕ) → Type 0
IsDrainedSource old new = IfSome old (λ _. new ≡ Some [])

-- output and notes took the whole answer
pub record Delivers (answer : Outcome) (output output' notes notes' : Option (List ℕ)) : Type 0 where
  pub printed : Appends output output' answer.output
  pub noted : Appends notes notes' answer.note

-- the output took a prefix of the answer's, and the notes a prefix of its note, which is nothing unless the output is whole
abbrev pub DeliversPrefix : Outcome → Option (List ℕ) → Option (List ℕ) → Option (List ℕ) → Option (List ℕ) → Type 0
DeliversPrefix answer output output' notes notes' =
    (AppendsPrefix output output' answer.output × Appends notes notes' [])
    ⊎ (Appends output output' answer.output × AppendsPrefix notes notes' answer.note)

-- the input of a command that reads failed: nothing went to the output, and a prefix of the note on that to the notes
pub record StopsAtFault (command : Option Command) (before now : ℕ) (output output' notes notes' : Option (List ℕ)) : Type 0 where
  pub reading : IsReading command
  pub fault : Rose before now
  pub printed : Appends output output' []
  pub noted : AppendsPrefix notes notes' read_fault_note

-- the run answered to the bytes that came, which are at most one more than the limit, as is defined for them
pub record AnswersTo (words : List (List ℕ)) (came : List ℕ) (status : Status) (output output' notes notes' : Option (List ℕ)) : Type 0 where
  pub within : length came ≤ MOST_BYTES + 1
  pub ends : status ≡ (outcome words came).status
  pub sends : Delivers (outcome words came) output output' notes notes'

-- what output and notes report at one moment: the bytes that each took, and its count of faults
pub record Sinks : Type 0 where
  pub output : Option (List ℕ)
  pub output_faults : ℕ
  pub notes : Option (List ℕ)
  pub note_faults : ℕ

-- two sinks, by the functions that say what each reports
abbrev pub sinks : {W N : Type 0} → (W → Option (List ℕ)) → (W → ℕ) → W → (N → Option (List ℕ)) → (N → ℕ) → N → Sinks
sinks taken faults output notes_taken note_faults notes = record {
  output = taken output;
  output_faults = faults output;
  notes = notes_taken notes;
  note_faults = note_faults notes;
}

-- how an answer that is sent ends: its status, where both sinks took it; else at a write fault, where one of them failed, or out of memory; and counts of faults never fall
abbrev pub Sent : Outcome → Status → Sinks → Sinks → Type 0
Sent answer status before after = NeverFall × (IsWhole ⊎ IsBroken)
  where
    NeverFall : Type 0
    NeverFall = (before.output_faults ≤ after.output_faults) × (before.note_faults ≤ after.note_faults)

    IsWhole : Type 0
    IsWhole =
        (status ≡ answer.status) × Delivers answer before.output after.output before.notes after.notes
        × (after.output_faults ≡ before.output_faults) × (after.note_faults ≡ before.note_faults)

    IsBroken : Type 0
    IsBroken =
        IsStopped status × DeliversPrefix answer before.output after.output before.notes after.notes
        × (status ≡ WriteFault → Rose before.output_faults after.output_faults ⊎ Rose before.note_faults after.note_faults)
        × (status ≡ NoMemory → (after.output_faults ≡ before.output_faults) × (after.note_faults ≡ before.note_faults))
