use Rattle.std.proofs.Common.{subst}
use Rattle.std.specs.Prelude.{IsTrue}
use Rattle.std.specs.List.{list_all}
use Rattle.dwg_cert.proofs.Checking.{passes_there}
use Rattle.dwg_cert.specs.Checked.{Checked, are_met}
use Rattle.dwg_cert.proofs.checker.Checker.known_slots.Goals as goal

pub returns : goal.returns
returns c x stands =
    passes_there (are_met c.args.self.now.objects) c.args.self.now.objects c.args.place x
    (subst (λ (shown : Checked). IsTrue (list_all (are_met shown.objects) shown.objects)) c.self.view_is c.self.invariant.met) stands
