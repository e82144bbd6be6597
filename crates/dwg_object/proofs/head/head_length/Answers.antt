use Rattle.dwg_object.proofs.HeadReading.{head_long}
use Rattle.dwg_object.proofs.head.head_length.Goals as goal

pub returns-clause-length : goal.returns-clause-length
returns-clause-length c = head_long c.args.version c.args.number c.args.own _ _ _ c.length.ensures.length c.size_bits.ensures.length c.own_bits.ensures.length
