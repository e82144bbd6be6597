use Rattle.std.proofs.Common.{List, Bool, arith}
use Rattle.dwg_bits.proofs.SinkLemmas.{extends_by_both}
use Rattle.dwg_grammar.specs.ModularCodes.{ms}
use Rattle.dwg_object.specs.Written.{prefix_bits, refs_bits, object_bits, object_bytes}
use Rattle.dwg_object.proofs.WrittenLemmas.{object_long}
use Rattle.dwg_object.proofs.FrameWriting.{object_whole, object_written, fill_long, sized_written, aligned_after, room_after_size}
use Rattle.dwg_object.proofs.writing.write_sized_parts.Goals as goal

pub pad-requires : goal.pad-requires
pad-requires g c =
    let letters : List Bool = object_bits c.args.version c.args.number c.args.handle c.args.common.now (g.P.Part.main c.args.version c.args.handle c.args.own.now) (g.P.Part.refs c.args.version c.args.handle c.args.own.now) in
    let aligned = aligned_after _ _ (ms.short c.object_lengths-lengths.result.bytes) c.requires.aligned c.write_ms.ensures in
    let both = extends_by_both _ _ _ (prefix_bits c.args.version c.args.number c.args.handle c.args.common.now (g.P.Part.main c.args.version c.args.handle c.args.own.now)) (refs_bits c.args.version c.args.handle c.args.common.now (g.P.Part.refs c.args.version c.args.handle c.args.own.now)) c.write_prefix.ensures c.write_references.ensures in
    let left = room_after_size _ _ _ (object_bytes c.args.version c.args.number c.args.handle c.args.common.now (g.P.Part.main c.args.version c.args.handle c.args.own.now) (g.P.Part.refs c.args.version c.args.handle c.args.own.now)) c.object_lengths-lengths.ensures.bytes c.requires.room c.write_ms.ensures in
    omega (arith, left, object_whole c.args.version c.args.number c.args.handle c.args.common.now (g.P.Part.main c.args.version c.args.handle c.args.own.now) (g.P.Part.refs c.args.version c.args.handle c.args.own.now), object_long c.args.version c.args.number c.args.handle c.args.common.now (g.P.Part.main c.args.version c.args.handle c.args.own.now) (g.P.Part.refs c.args.version c.args.handle c.args.own.now), both.spare, fill_long _ _ letters aligned both)

pub returns-clause-written : goal.returns-clause-written
returns-clause-written g c =
    let aligned = aligned_after _ _ (ms.short c.object_lengths-lengths.result.bytes) c.requires.aligned c.write_ms.ensures in
    let content = object_bytes c.args.version c.args.number c.args.handle c.args.common.now (g.P.Part.main c.args.version c.args.handle c.args.own.now) (g.P.Part.refs c.args.version c.args.handle c.args.own.now) in
    sized_written _ _ _ c.object_lengths-lengths.result.bytes content c.object_lengths-lengths.ensures.bytes c.write_ms.ensures
    (object_written _ _ _ _ c.args.version c.args.number c.args.handle c.args.common.now (g.P.Part.main c.args.version c.args.handle c.args.own.now) (g.P.Part.refs c.args.version c.args.handle c.args.own.now) aligned c.write_prefix.ensures c.write_references.ensures c.pad.ensures)
