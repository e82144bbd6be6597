use Rattle.dwg_object.proofs.HeadLemmas.{head_begins}
use Rattle.dwg_object.proofs.reading.read_body_hinted.Goals as goal

pub returns-in_default-clause-none : goal.returns-in_default-clause-none
returns-in_default-clause-none c = λ same number own begins. c.in_default.ensures.none _ (head_begins _ number own begins)
