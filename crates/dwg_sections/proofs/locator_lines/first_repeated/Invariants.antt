use Rattle.std.proofs.Common.{◌≡◌, ◌-◌}
use Rattle.std.specs.Prelude.{find}
use Rattle.std.specs.List.{range_with_len}
use Rattle.dwg_sections.specs.HeaderLines.{numbers_at, stands_earlier}
use Rattle.dwg_sections.proofs.locator_lines.first_repeated.Given as goal

-- what is left to look at gives what all gives
abbrev pub invariant-locators : goal.invariant-locators
invariant-locators l =
    find (stands_earlier (numbers_at l.bytes)) (range_with_len l.index (l.count - l.index))
    ≡ find (stands_earlier (numbers_at l.bytes)) (range_with_len 0 l.count)
