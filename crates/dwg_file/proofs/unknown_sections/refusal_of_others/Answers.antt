use Rattle.std.proofs.Common.{sym, ◌∙◌, ap, refl}
use Rattle.std.specs.Prelude.{Some}
use Rattle.dwg_file.proofs.OthersAlong.{cut_here, cut_after, none_cut}
use Rattle.dwg_file.proofs.unknown_sections.refusal_of_others.Goals as goal

pub returns-then-is_cut : goal.returns-then-is_cut
returns-then-is_cut c = record {
  first =
      rw c.new.ensures (ap (λ place. Some (record { line = 33; index = c.locators.index; place = place })) c.from.ensures
      ∙ cut_here c.args.bytes.now c.locators.index c.args.locators.now _ (record { number = 0; place = 0; size = 0 }) _ c.locators-test.true refl (sym c.is_cut.ensures ∙ c.if-is_cut.true) c.locators.invariant);
}

pub locators-preserved : goal.locators-preserved
locators-preserved c =
    cut_after c.args.bytes.now c.locators.index c.args.locators.now _ (record { number = 0; place = 0; size = 0 }) _ c.locators-test.true refl (sym c.is_cut.ensures ∙ c.if-is_cut.false) c.locators.invariant

pub returns : goal.returns
returns c = record { first = none_cut c.args.bytes.now c.locators.index c.args.locators.now _ c.locators-test.false c.locators.invariant }
