use Rattle.std.proofs.Common.{◌∙◌, map}
use Rattle.dwg_graph.proofs.Sufficing.{claimed_by_counts}
use Rattle.dwg_object.specs.Objects.{value_of}
use Rattle.dwg_graph.proofs.claims.is_claimed.Goals as goal

pub returns : goal.returns
returns c =
    c.suffices_at.ensures
    ∙ claimed_by_counts (map value_of c.args.objects.now) c.args.known.now (value_of c.args.object.now) c.args.owner c.args.counts.now.all c.args.counts.now.own c.requires.owner
    c.requires.all c.requires.own
