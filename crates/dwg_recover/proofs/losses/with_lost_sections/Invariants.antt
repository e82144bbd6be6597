use Rattle.std.proofs.Common.{◌≡◌, ◌++◌, drop}
use Rattle.dwg_recover.specs.Sections.{lost_sections}
use Rattle.dwg_recover.proofs.losses.with_lost_sections.Given as goal

-- what was put and what is left give the whole
abbrev pub invariant-locators : goal.invariant-locators
invariant-locators l = l.losses ++ lost_sections l.bytes (drop l.locator-index l.locators) ≡ l.fn.losses ++ lost_sections l.bytes l.locators
