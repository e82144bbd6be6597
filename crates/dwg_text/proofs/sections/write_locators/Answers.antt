use Rattle.std.proofs.Common.{subst}
use Rattle.dwg_text.specs.Sections.{section_line}
use Rattle.dwg_text.specs.Writing.{WritesText}
use Rattle.dwg_text.proofs.Elements.{more_plain}
use Rattle.dwg_text.proofs.Writing.{◌▷◌}
use Rattle.dwg_text.proofs.sections.write_locators.Goals as goal

pub locators-preserved : goal.locators-preserved
locators-preserved g c =
    subst (WritesText _ _ _ _ _ _) (more_plain section_line c.args.locators.now c.locators.index (record { number = 0; place = 0; size = 0 }) c.locators-test.true)
    (c.locators.invariant ▷ c.write_section_line.ensures)
