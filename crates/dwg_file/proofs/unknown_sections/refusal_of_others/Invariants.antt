use Rattle.std.proofs.Common.{◌≡◌, drop}
use Rattle.dwg_file.specs.FileLines.{first_cut}
use Rattle.dwg_file.proofs.unknown_sections.refusal_of_others.Given as goal

-- what is left gives the whole
abbrev pub invariant-locators : goal.invariant-locators
invariant-locators l = first_cut l.bytes l.index (drop l.index l.locators) ≡ first_cut l.bytes 0 l.locators
