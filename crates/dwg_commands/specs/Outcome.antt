-- What the program answers to its words and its input. A rule of this project.
use Rattle.std.specs.Prelude.{ℕ, List, Option, Some, None, length, nat_lt, if◌then◌else◌}
use Rattle.dwg_base.specs.Devices.{MOST_BYTES}
use Rattle.dwg_base.specs.Refusals.{first_fault}
use Rattle.dwg_base.specs.Refusal.{Refusal}
use Rattle.dwg_text.specs.Notes.{usage_note, refusal_note, too_long_note}
use Rattle.dwg_commands.specs.declared.words.Command.{Command}
use Rattle.dwg_commands.specs.declared.status.Status.TheVariants.{Usage, Refused, TooLong}
use Rattle.dwg_commands.specs.declared.outcome.Outcome.{Outcome}
use Rattle.dwg_commands.specs.Answered.{noted}
use Rattle.dwg_commands.specs.Commands.{row_of, reads, lines_of}
use Rattle.dwg_commands.specs.Words.{command_of}

-- the first refusal of the command's lines, where there is one, and otherwise its answer
abbrev pub refused_or : Option Refusal → Outcome → Outcome
refused_or (Some refusal) answer = noted (refusal_note refusal) (Refused refusal)
refused_or None answer = answer

-- what a command answers to an input within the limit
unfoldable pub outcome_within : Command → List ℕ → Outcome
outcome_within command bytes = refused_or (first_fault (lines_of command) bytes) ((row_of command).answer bytes)

-- what one that reads answers to any input
unfoldable pub outcome_of_input : Command → List ℕ → Outcome
outcome_of_input command bytes = if nat_lt MOST_BYTES (length bytes) then noted too_long_note TooLong else outcome_within command bytes

-- what a command answers: one that reads nothing answers the same, however long the input is
unfoldable pub outcome_of : Option Command → List ℕ → Outcome
outcome_of None bytes = noted usage_note Usage
outcome_of (Some command) bytes = if reads command then outcome_of_input command bytes else outcome_within command bytes

-- what the program answers: output bytes, note bytes and status
abbrev pub outcome : List (List ℕ) → List ℕ → Outcome
outcome words bytes = outcome_of (command_of words) bytes
