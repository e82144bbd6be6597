use Rattle.std.proofs.Common.{subst}
use Rattle.std.specs.Prelude.{◌≡◌}
use Rattle.dwg_cert.proofs.MemberCounts.{owner_in_table}
use Rattle.dwg_cert.specs.Checked.{Checked}
use Rattle.dwg_graph.specs.Owners.{spaces}
use Rattle.dwg_graph.specs.Placed.{owner_table}
use Rattle.dwg_cert.proofs.checker.Checker.owner.Goals as goal

pub returns : goal.returns
returns c x stands =
    owner_in_table c.args.self.now.objects (spaces c.args.self.now.objects) c.self.inside.owners.now c.args.place x c.reported_at.result
    (subst (λ (shown : Checked). c.self.inside.owners.now ≡ owner_table shown.objects (spaces shown.objects)) c.self.view_is c.self.invariant.owned) stands c.reported_at.ensures
