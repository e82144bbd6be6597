use Rattle.std.proofs.Common.{refl}
use Rattle.dwg_file.proofs.OthersAlong.{sections_on}
use Rattle.dwg_file.proofs.unknown_sections.whole_others.Goals as goal

pub locators-preserved : goal.locators-preserved
locators-preserved c =
    record {
      whole =
          sections_on c.args.bytes.now c.locators.index c.args.locators.now _ (record { number = 0; place = 0; size = 0 }) _ _ _ c.locators-test.true refl c.in_ok-others.ensures.value c.locators.invariant.whole;
      lent = c.in_ok-others.ensures.lent c.locators.invariant.lent;
    }
