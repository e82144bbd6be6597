use Rattle.std.proofs.Common.{◌∙◌, ap}
use Rattle.std.specs.Prelude.{◌||◌, nat_eq}
use Rattle.std.specs.Ordering.{nat_cmp}
use Rattle.std.specs.BTreeSet as set
use Rattle.dwg_recover.proofs.Noting.{noted_more}
use Rattle.dwg_recover.proofs.kept.KeptFrames.keep.Goals as goal

pub invariant_of-result : goal.invariant_of-result
invariant_of-result c =
    noted_more c.self.inside.frames.items c.push.new.self.items c.args.frame c.self.inside.taken c.in_ok-taken.taken c.self.inside.handles c.in_ok-handles.handles c.self.inside.pairs
    c.in_ok-pairs.pairs c.self.inside.end c.later-end.result c.self.invariant c.requires.some c.in_ok-push.ensures.items c.in_ok-taken.ensures
    (λ other. c.in_ok-handles.ensures other ∙ ap (λ handle. nat_eq handle other || set.contains nat_cmp c.self.inside.handles other) c.value.ensures.value) c.in_ok-pairs.ensures c.later-end.ensures
