use Rattle.dwg_more.specs.MoreLaws.{bodies_are_free}
use Rattle.dwg_more.proofs.laws.more_laws.Goals as goal

pub returns : goal.returns
returns c = search bodies_are_free
