-- How a call of the library ends, and what it leaves with the caller. A rule of this project.
use Rattle.std.specs.Prelude.{◌≡◌, ◌<◌, ◌⊎◌, ℕ, List, length, take}
use Rattle.dwg_commands.specs.declared.outcome.Outcome.{Outcome}
use Rattle.dwg_commands.specs.declared.status.Status.TheVariants.{WriteFault, NoMemory}
use Rattle.dwg_commands.specs.Run.{IsSettled}
use Rattle.dwg_commands.specs.Status.{code_of}

-- what a call leaves: its status, both buffers, and how many bytes it says that the answer has for each
pub record Left : Type 0 where
  pub status : ℕ
  pub output : List ℕ
  pub written : ℕ
  pub notes : List ℕ
  pub noted : ℕ

-- the numbers are those of the answer's bytes, all of them
abbrev pub HasSizes : Outcome → Left → Type 0
HasSizes answer left = (left.written ≡ length answer.output) × (left.noted ≡ length answer.note)

-- the status of a write that failed, where a buffer has room for fewer bytes than that
abbrev pub IsTooSmall : Left → Type 0
IsTooSmall left = (left.status ≡ code_of WriteFault) × ((length left.output < left.written) ⊎ (length left.notes < left.noted))

-- the answer's own status, where both buffers begin with all of its bytes
abbrev pub IsAnswered : Outcome → Left → Type 0
IsAnswered answer left =
    IsSettled answer.status × (left.status ≡ code_of answer.status)
    × (take left.written left.output ≡ answer.output) × (take left.noted left.notes ≡ answer.note)

-- a call answers in one of three ways: out of memory, of which nothing more is said; a buffer is too small, and the numbers say how large both must be; or the whole answer
abbrev pub Answers : Outcome → Left → Type 0
Answers answer left = (left.status ≡ code_of NoMemory) ⊎ (HasSizes answer left × (IsTooSmall left ⊎ IsAnswered answer left))
