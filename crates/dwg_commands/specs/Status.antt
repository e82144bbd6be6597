-- The exit status that reports how a run ended. A rule of this project.
use Rattle.std.specs.Prelude.{ℕ}
use Rattle.dwg_commands.specs.declared.status.Status.{Status}
use Rattle.dwg_commands.specs.declared.status.Status.TheVariants.{Done, Found, Usage, Refused, ReadFault, WriteFault, NoMemory, TooLong, TooLarge}

abbrev pub code_of : Status → ℕ
code_of Done = 0
code_of Found = 1
code_of Usage = 2
code_of (Refused refusal) = 3
code_of ReadFault = 4
code_of WriteFault = 5
code_of NoMemory = 6
code_of TooLong = 7
code_of (TooLarge size) = 8
