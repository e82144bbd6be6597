use Rattle.std.proofs.Common.{◌≡◌, take, false}
use Rattle.std.specs.Prelude.{◌==◌}
use Rattle.std.specs.List.{list_any}
use Rattle.dwg_sections.specs.HeaderLines.{numbers_at}
use Rattle.dwg_sections.proofs.locator_lines.lacks.Given as goal

-- none of the numbers that were looked at is the number
abbrev pub invariant-locators : goal.invariant-locators
invariant-locators l = list_any (λ other. other == l.number) (take l.index (numbers_at l.bytes)) ≡ false
