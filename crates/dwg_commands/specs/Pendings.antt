-- Which outcome is sent of what is made of one before it is sent. A rule of this project.
use Rattle.std.specs.Prelude.{ℕ, List, []}
use Rattle.dwg_base.specs.Refusals.{RefusalRow, Reports, first_fault}
use Rattle.dwg_base.specs.declared.refusal.Fault.{Fault}
use Rattle.dwg_file.specs.Contents.{contents_of}
use Rattle.dwg_commands.specs.declared.outcome.Outcome.{Outcome}
use Rattle.dwg_commands.specs.declared.pending.Noting.{Noting}
use Rattle.dwg_commands.specs.declared.pending.Noting.TheVariants as notings
use Rattle.dwg_commands.specs.declared.pending.Pending.{Pending}
use Rattle.dwg_commands.specs.declared.pending.Pending.TheVariants.{Whole, Fixed, Text, File}
use Rattle.dwg_commands.specs.declared.status.Status.{Status}
use Rattle.dwg_commands.specs.declared.status.Status.TheVariants.{Done, Found}
use Rattle.dwg_commands.specs.declared.words.Command.{Command}
use Rattle.dwg_commands.specs.Answered.{filed_with}
use Rattle.dwg_commands.specs.Commands.{lines_of}
use Rattle.dwg_commands.specs.PrintedOutputs.{text_of, text_status}

-- what is noted of a canonical file, and how the run ends then
abbrev pub note_of : Noting → List ℕ
note_of (notings.Fixed note) = note.now
note_of (notings.Recovery note) = note

abbrev pub ends_by : Noting → Status
ends_by (notings.Fixed note) = Done
ends_by (notings.Recovery note) = Found

-- the outcome that stands behind what is pending
abbrev pub comes_to : Pending → Outcome
comes_to (Whole outcome) = outcome
comes_to (Fixed output note status) = record { output = output.now; note = note.now; status = status }
comes_to (Text text) = record { output = text_of text; note = []; status = text_status text }
comes_to (File drawing carried noting) = filed_with carried (contents_of drawing) (note_of noting) (ends_by noting)

-- a fault reports the first of these lines that fails
abbrev pub IsRefusedBy : List RefusalRow → List ℕ → Fault → Type 0
IsRefusedBy lines bytes fault = Reports fault (first_fault lines bytes)

-- the lines are those that a command tries
abbrev pub IsRefused : Command → List ℕ → Fault → Type 0
IsRefused command bytes fault = IsRefusedBy (lines_of command) bytes fault
