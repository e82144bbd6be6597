use Rattle.std.proofs.Common.{rules, arith, w64}
use Rattle.std.proofs.lemmas.Int.{to_z-of_z}
use mir.Val.{SFits}
use Rattle.dwg_objmap.proofs.PairWriting.{move_has_room, pair_extends}
use Rattle.dwg_objmap.proofs.page_writing.write_pair.Goals as goal

pub write_signed_mc-requires-clause-room : goal.write_signed_mc-requires-clause-room
write_signed_mc-requires-clause-room c =
    let fits : SFits w64 c.move_between.result = search rules in
    simp to_z-of_z
    (move_has_room c.args.sink.now c.write_mc.new.sink c.args.before.now c.args.pair.now _ c.move_between.result c.requires.room (omega (arith, c.value.ensures.value, c.value-2.ensures.value))
    c.write_mc.ensures c.move_between.ensures)

pub returns : goal.returns
returns c =
    let fits : SFits w64 c.move_between.result = search rules in
    pair_extends c.args.sink.now c.write_mc.new.sink c.write_signed_mc.new.sink c.args.before.now c.args.pair.now _ c.move_between.result
    (omega (arith, c.value.ensures.value, c.value-2.ensures.value)) c.write_mc.ensures c.move_between.ensures (simp to_z-of_z at c.write_signed_mc.ensures)
