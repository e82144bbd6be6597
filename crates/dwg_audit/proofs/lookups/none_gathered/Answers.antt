use Rattle.std.proofs.Common.{rules}
use Rattle.dwg_audit.proofs.Slicing.{gathers_none}
use Rattle.dwg_audit.proofs.lookups.none_gathered.Goals as goal

pub returns : goal.returns
returns c known = gathers_none known _ (search rules) (search rules) (search rules) (search rules)
