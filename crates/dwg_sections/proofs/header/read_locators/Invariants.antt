use Rattle.std.proofs.Common.{◌≡◌, ◌+◌, ◌-◌, ◌*◌, ◌++◌}
use Rattle.dwg_sections.specs.HeaderLines.{locators_at}
use Rattle.dwg_sections.proofs.header.read_locators.Given as goal

-- the locators that are read and those that are left are all
abbrev pub invariant-locators : goal.invariant-locators
invariant-locators l = l.locators ++ locators_at (l.count - l.i) l.bytes (25 + 9 * l.i) ≡ locators_at l.count l.bytes 25
