-- What the program is asked, and which answer that asks for. A rule of this project.
use Rattle.std.specs.Prelude.{⊤, ◌≤◌, length}
use Rattle.dwg_base.specs.Devices.{MOST_BYTES}
use Rattle.dwg_commands.specs.declared.outcome.Outcome.{Outcome}
use Rattle.dwg_commands.specs.declared.job.Job.{Job}
use Rattle.dwg_commands.specs.declared.job.Job.TheVariants as jobs
use Rattle.dwg_commands.specs.declared.status.Status.TheVariants.{Usage, TooLong}
use Rattle.dwg_commands.specs.Answered.{noted}
use Rattle.dwg_commands.specs.Outcome.{outcome_within}
use Rattle.dwg_text.specs.Notes.{usage_note, too_long_note}

-- the answer that is asked for
abbrev pub asked : Job → Outcome
asked jobs.Usage = noted usage_note Usage
asked jobs.TooLong = noted too_long_note TooLong
asked (jobs.Run command bytes) = outcome_within command bytes

-- the bytes that are read are within the limit
abbrev pub IsWithin : Job → Type 0
IsWithin jobs.Usage = ⊤
IsWithin jobs.TooLong = ⊤
IsWithin (jobs.Run command bytes) = length bytes ≤ MOST_BYTES
