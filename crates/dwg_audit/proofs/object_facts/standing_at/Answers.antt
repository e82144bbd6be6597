use Rattle.std.proofs.Common.{rules, map}
use Rattle.dwg_audit.proofs.Standings.{stands}
use Rattle.dwg_object.specs.Objects.{value_of}
use Rattle.dwg_audit.proofs.object_facts.standing_at.Goals as goal

pub returns : goal.returns
returns c =
    stands (map value_of c.args.objects.now) c.args.tables.now c.args.place c.number.result c.number-2.result c.number-3.result c.count.result c.count-2.result c.mark.result c.is_some.result
    c.requires.ascend c.requires.tables (search rules) (search rules) (search rules) (search rules) (search rules) (search rules) (search rules)
