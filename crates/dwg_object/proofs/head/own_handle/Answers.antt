use Rattle.dwg_bits.specs.Bits.{bits}
use Rattle.dwg_object.proofs.HeadLemmas.{head_begins}
use Rattle.dwg_object.proofs.head.own_handle.Goals as goal

pub returns-in-None-clause-none : goal.returns-in-None-clause-none
returns-in-None-clause-none c number own begins = c.in-None.ensures.none _ (head_begins (bits c.args.body.now) number own begins)
