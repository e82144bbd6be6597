use Rattle.std.proofs.Common.{rules}
use Rattle.dwg_audit.proofs.Slicing.{gathers_more}
use Rattle.dwg_object.specs.Objects.{value_of}
use Rattle.dwg_audit.proofs.lookups.with_object.Goals as goal

pub returns : goal.returns
returns c objects are =
    gathers_more objects c.args.known.now (value_of c.args.object.now) c.args.gathered _ are (search rules) (search rules) (search rules) (search rules)
