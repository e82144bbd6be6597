use Rattle.std.proofs.Common.{sym, ◌∙◌, ap, false, Option}
use Rattle.std.specs.Option.{option_map_or}
use Rattle.dwg_cert.proofs.Checking.{tested_seen}
use Rattle.dwg_cert.specs.Checked.{Checked}
use Rattle.dwg_graph.specs.Graph.{is_member, object_at}
use Rattle.dwg_graph.specs.Owners.{spaces}
use Rattle.dwg_graph.specs.declared.owner.SpaceHandles.{SpaceHandles}
use Rattle.dwg_object.specs.Objects.{value_of}
use Rattle.dwg_cert.proofs.checker.Checker.is_member_of.Goals as goal

pub returns : goal.returns
returns c handle at =
    tested_seen _ _ _ (is_member c.self.inside.known (value_of c.args.block.now)) handle _ _ (sym c.self.view_is) at c.is_member_there.ensures
    ∙ ap (λ (known : Option SpaceHandles). option_map_or (is_member known (value_of c.args.block.now)) (object_at c.args.self.now.objects handle) false)
    (c.self.invariant.knows ∙ ap (λ (shown : Checked). spaces shown.objects) c.self.view_is)
