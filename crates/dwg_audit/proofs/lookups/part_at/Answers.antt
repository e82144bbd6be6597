use Rattle.std.proofs.Common.{◌∙◌, map, arith}
use Rattle.dwg_audit.proofs.Slicing.{bounds_there, bounds_ordered, bounds_within, part_reported}
use Rattle.dwg_object.specs.Objects.{value_of}
use Rattle.dwg_audit.proofs.lookups.part_at.Goals as goal

pub part-requires : goal.part-requires
part-requires g c =
    let are = bounds_there c.args.objects.now c.args.table.now.starts.items c.args.place c.start_at-from.result c.start_at-to.result c.requires.table.starts c.requires.within
    c.start_at-from.ensures c.start_at-to.ensures in
    record {
      ordered = bounds_ordered (map value_of c.args.objects.now) c.args.place c.start_at-from.result c.start_at-to.result are;
      within = omega (arith, bounds_within (map value_of c.args.objects.now) c.args.place c.start_at-from.result c.start_at-to.result are, c.requires.along);
    }

pub returns : goal.returns
returns g c =
    let are = bounds_there c.args.objects.now c.args.table.now.starts.items c.args.place c.start_at-from.result c.start_at-to.result c.requires.table.starts c.requires.within
    c.start_at-from.ensures c.start_at-to.ensures in
    c.part.ensures ∙ part_reported (map value_of c.args.objects.now) c.args.place c.start_at-from.result c.start_at-to.result c.args.items.now are
