-- A refusal as contracts see it: the number of its line in the table of refusals, its index and its place. A rule of this project.
use Rattle.std.specs.Prelude.{ℕ}

pub record Refusal : Type 0 where
  pub line : ℕ
  pub index : ℕ
  pub place : ℕ

-- the last line of the table: its lines are numbered from 1
abbrev pub LAST_LINE : ℕ
LAST_LINE = 37
