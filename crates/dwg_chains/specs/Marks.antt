-- Marks of places. A rule of this project.
use Rattle.std.specs.Prelude.{ℕ, Bool, not, List, count_by}

-- how many places aren't marked
abbrev pub count_unmarked : List Bool → ℕ
count_unmarked marks = count_by not marks
