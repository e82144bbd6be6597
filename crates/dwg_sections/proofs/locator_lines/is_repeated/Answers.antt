use Rattle.std.proofs.Common.{sym, ◌∙◌, arith}
use Rattle.dwg_sections.specs.HeaderLines.{numbers_at}
use Rattle.dwg_sections.proofs.LocatorNumbers.{is_earlier}
use Rattle.dwg_sections.proofs.LocatorStep.{numbers_counted}
use Rattle.dwg_sections.proofs.locator_lines.is_repeated.Goals as goal

pub returns-then-number_at-number : goal.returns-then-number_at-number
returns-then-number_at-number c =
    sym (is_earlier (numbers_at c.args.bytes.now) c.earlier_ones.earlier c.args.index (omega arith) (omega (arith, numbers_counted c.args.bytes.now))
    (sym c.number_at.ensures ∙ c.if-number_at-number.true ∙ c.number_at-number.ensures))
