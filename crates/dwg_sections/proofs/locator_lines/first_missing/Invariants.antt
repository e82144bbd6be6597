use Rattle.std.proofs.Common.{◌≡◌, ◌-◌}
use Rattle.std.specs.Prelude.{find}
use Rattle.std.specs.List.{range_with_len}
use Rattle.dwg_sections.specs.HeaderLines.{numbers_at, is_missing}
use Rattle.dwg_sections.proofs.locator_lines.first_missing.Given as goal

-- what is left to look at gives what all gives
abbrev pub invariant-numbers : goal.invariant-numbers
invariant-numbers l =
    find (is_missing (numbers_at l.bytes)) (range_with_len l.number (3 - l.number))
    ≡ find (is_missing (numbers_at l.bytes)) (range_with_len 0 3)
