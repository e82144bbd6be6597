use Rattle.std.proofs.Common.{sym, ◌∙◌, arith}
use Rattle.dwg_sections.specs.HeaderLines.{numbers_at}
use Rattle.dwg_sections.proofs.LocatorNumbers.{not_missing, missing_of_all}
use Rattle.dwg_sections.proofs.LocatorStep.{numbers_counted}
use Rattle.dwg_sections.proofs.locator_lines.lacks.Goals as goal

pub returns-then-from-number : goal.returns-then-from-number
returns-then-from-number c =
    not_missing (numbers_at c.args.bytes.now) c.args.number c.locators.index _ (omega (arith, numbers_counted c.args.bytes.now)) c.number_at.ensures
    (sym c.from.ensures ∙ c.if-from-number.true)

pub returns : goal.returns
returns c = missing_of_all (numbers_at c.args.bytes.now) c.args.number c.locators.index (omega (arith, numbers_counted c.args.bytes.now)) c.locators.invariant
