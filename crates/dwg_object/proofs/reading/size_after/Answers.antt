use Rattle.dwg_object.proofs.FormReading.{rest_between, size_spelled, size_unspelled}
use Rattle.dwg_object.proofs.HeadReading.{head_within}
use Rattle.dwg_object.proofs.reading.size_after.Goals as goal

pub new-cursor-requires-clause-ordered : goal.new-cursor-requires-clause-ordered
new-cursor-requires-clause-ordered c = head_within c.args.body.now _ _ c.requires.head

pub returns-in-Some-clause-some : goal.returns-in-Some-clause-some
returns-in-Some-clause-some c =
    size_spelled _ _ c.in-Some.size _ _ _ (rest_between c.new-cursor.result c.args.body.now _ _ c.new-cursor.ensures.bytes c.new-cursor.ensures.place c.new-cursor.ensures.end) c.in-Some.ensures.reads

pub returns-in-None-clause-none : goal.returns-in-None-clause-none
returns-in-None-clause-none c =
    size_unspelled _ _ _ _ _ (rest_between c.new-cursor.result c.args.body.now _ _ c.new-cursor.ensures.bytes c.new-cursor.ensures.place c.new-cursor.ensures.end) c.in-None.ensures.reads
