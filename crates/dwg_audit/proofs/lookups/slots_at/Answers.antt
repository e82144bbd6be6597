use Rattle.std.proofs.Common.{ap, ◌∙◌, length, map}
use Rattle.dwg_audit.proofs.Slicing.{part_is}
use Rattle.dwg_audit.specs.Lookups.{part_of}
use Rattle.dwg_object.specs.Objects.{value_of}
use Rattle.dwg_audit.proofs.lookups.slots_at.Goals as goal

pub part_at-requires-clause-along : goal.part_at-requires-clause-along
part_at-requires-clause-along c = ap length c.as_slice.ensures ∙ ap length c.requires.table.slots

pub returns : goal.returns
returns c x at =
    c.part_at.ensures
    ∙ ap (part_of (map value_of c.args.objects.now) c.args.place) (c.as_slice.ensures ∙ c.requires.table.slots)
    ∙ part_is (map value_of c.args.objects.now) c.args.place x at
