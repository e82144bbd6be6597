use Rattle.std.proofs.Common.{rules}
use Rattle.dwg_cert.proofs.Checking.{owner_held}
use Rattle.dwg_object.specs.Objects.{value_of}
use Rattle.dwg_cert.proofs.checker.Checker.holds_together.Goals as goal

pub is_resolved-requires-clause-held : goal.is_resolved-requires-clause-held
is_resolved-requires-clause-held c = owner_held c.slot_laws.ensures.owner (value_of c.args.object.now) (search rules)
