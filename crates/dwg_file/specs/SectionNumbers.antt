-- Unknown sections of an input, and when two of them differ. A rule of this project.
use Rattle.std.proofs.Common.{ℕ, ◌≤◌, length}
use Rattle.std.specs.Prelude.{◌≢◌}
use Rattle.dwg_file.specs.Contents.{OtherValue}
use Rattle.dwg_file.specs.Valid.{IsOther}

-- an unknown section of an input of no more than so many bytes
pub record IsSection (most : ℕ) (other : OtherValue) : Type 0 where
  pub is : IsOther other
  pub few : length other.bytes ≤ most

-- sections have distinct numbers
abbrev pub Differ : OtherValue → OtherValue → Type 0
Differ one other = one.number ≢ other.number
