use Rattle.std.proofs.Common.{◌∙◌}
use Rattle.dwg_codes.proofs.TagReading.{tagged_length}
use Rattle.dwg_codes.proofs.tagged.length_tagged.Goals as goal

pub returns-clause-length : goal.returns-clause-length
returns-clause-length g c =
    let tag = c.tag-tag in
    tagged_length (g.C.Tagged.by c.args.context.now) _ _ tag.result _ _ _ (c.from.ensures ∙ c.WIDTH.ensures) tag.ensures.pick c.length_after.ensures.length
