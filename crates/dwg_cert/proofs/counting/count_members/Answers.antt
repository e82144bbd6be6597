use Rattle.std.proofs.Common.{subst, map, Option, arith}
use Rattle.std.proofs.lemmas.List.{length-map}
use Rattle.dwg_cert.proofs.MemberCounts.{all_members}
use Rattle.dwg_cert.specs.Checked.{CountsMembers}
use Rattle.dwg_graph.specs.declared.owner.SpaceHandles.{SpaceHandles}
use Rattle.dwg_object.specs.Objects.{value_of}
use Rattle.dwg_cert.proofs.counting.count_members.Goals as goal

pub returns : goal.returns
returns c =
    let objects = map value_of c.args.objects.now in
    all_members objects c.objects.place c.objects.counts.items (omega (arith, length-map c.args.objects.now value_of, c.objects-test.false))
    (subst (λ (known : Option SpaceHandles). CountsMembers objects known c.objects.place c.objects.counts.items) c.requires.known c.objects.invariant)
