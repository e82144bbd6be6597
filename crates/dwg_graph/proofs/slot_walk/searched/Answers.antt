use Rattle.std.proofs.Common.{refl, ap, ◌∙◌, arith}
use Rattle.std.proofs.lemmas.Option.{slice_get_read}
use Rattle.dwg_graph.proofs.Passing.{listed_after, listed_within}
use Rattle.dwg_graph.proofs.slot_walk.searched.Goals as goal

pub returns-then-count-place : goal.returns-then-count-place
returns-then-count-place g c = listed_after g.T.Refers.refers c.args.field c.args.place c.args.items.now (omega (arith, c.if-count-place.true))

pub returns : goal.returns
returns g c =
    listed_within g.T.Refers.refers c.args.field c.args.place c.args.items.now c.index-items-place.result c.result.inside.target
    (slice_get_read c.args.items.now _ c.args.place c.index-items-place.result refl c.if-count-place.false c.index-items-place.is)
    (ap (λ r. r.target) (c.result.view_is ∙ c.reference.ensures))
