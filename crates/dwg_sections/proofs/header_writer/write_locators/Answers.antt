use Rattle.std.proofs.Common.{refl, arith}
use Rattle.dwg_sections.proofs.HeaderWriting.{no_locator_written, one_locator_written}
use Rattle.dwg_sections.proofs.header_writer.write_locators.Goals as goal

pub locators-init : goal.locators-init
locators-init c = record {
  written = no_locator_written _ c.args.locators.now;
  spare = omega arith;
}

pub locators-preserved : goal.locators-preserved
locators-preserved c = record {
  written = one_locator_written _ _ _ c.args.locators.now c.locators.locator-index _ _ c.locators-test.true refl c.locators.invariant.written c.write_locator.ensures;
  spare = omega (arith, c.locators.invariant.spare, c.write_locator.ensures.spare);
}
