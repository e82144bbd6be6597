use Rattle.std.proofs.Common.{◌≡◌, ◌+◌, length, arith}
use Rattle.dwg_object.specs.Written.{prefix_bits, refs_bits}
use Rattle.dwg_object.proofs.FrameWriting.{object_counted}
use Rattle.dwg_object.proofs.WrittenLemmas.{prefix_long, refs_long}
use Rattle.dwg_object.proofs.writing.object_lengths.Goals as goal

pub returns-clause-bytes : goal.returns-clause-bytes
returns-clause-bytes g c =
    let own = g.P.Part.main c.args.version c.args.handle c.args.own.now in
    let own_refs = g.P.Part.refs c.args.version c.args.handle c.args.own.now in
    let refs : c.lengths-shared.result.refs + c.lengths-owned.result.refs ≡ length (refs_bits c.args.version c.args.handle c.args.common.now own_refs) =
    omega (arith, refs_long c.args.version c.args.handle c.args.common.now own_refs, c.lengths-shared.ensures.refs, c.lengths-owned.ensures.refs) in
    let prefix : c.head_length.result + c.lengths-shared.result.main + c.lengths-owned.result.main ≡ length (prefix_bits c.args.version c.args.number c.args.handle c.args.common.now own) =
    omega (arith, prefix_long c.args.version c.args.number c.args.handle c.args.common.now own, c.lengths-shared.ensures.main, c.lengths-owned.ensures.main, c.head_length.ensures.length) in
    omega (arith, c.div_ceil.ensures, object_counted c.args.version c.args.number c.args.handle c.args.common.now own own_refs _ _ prefix refs)
