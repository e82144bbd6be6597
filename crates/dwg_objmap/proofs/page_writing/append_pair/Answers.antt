use Rattle.std.proofs.Common.{◌∙◌, ap, ◌++◌, length, ℕ, List, arith}
use Rattle.dwg_objmap.proofs.PageFilling.{pair_has_room, pair_is_whole, pair_spelled, pair_room_stays}
use Rattle.dwg_objmap.proofs.page_writing.append_pair.Goals as goal

pub write_pair-requires-clause-room : goal.write_pair-requires-clause-room
write_pair-requires-clause-room c =
    pair_has_room c.args.spelled.now c.clear.new.self c.args.before.now c.args.pair.now c.requires.before c.requires.pair c.requires.above c.requires.room c.clear.ensures.room

pub as_bytes-requires : goal.as_bytes-requires
as_bytes-requires c = pair_is_whole c.clear.new.self c.write_pair.new.sink c.args.before.now c.args.pair.now c.clear.ensures.empty c.write_pair.ensures

pub append_bytes-requires : goal.append_bytes-requires
append_bytes-requires c =
    let is = pair_spelled c.clear.new.self c.write_pair.new.sink c.args.before.now c.args.pair.now c.as_bytes.result.now c.bytes_with_range.result.now c.requires.before c.requires.pair c.requires.above
    c.clear.ensures.empty c.write_pair.ensures c.bytes_with_range.ensures.same c.bytes_with_range.ensures.bytes c.as_bytes.ensures in
    record { room = omega (arith, c.requires.fits, ap length is) }

pub returns-clause-both : goal.returns-clause-both
returns-clause-both c =
    let is = pair_spelled c.clear.new.self c.write_pair.new.sink c.args.before.now c.args.pair.now c.as_bytes.result.now c.bytes_with_range.result.now c.requires.before c.requires.pair c.requires.above
    c.clear.ensures.empty c.write_pair.ensures c.bytes_with_range.ensures.same c.bytes_with_range.ensures.bytes c.as_bytes.ensures in
    c.append_bytes.ensures.both ∙ ap (λ (short : List ℕ). c.args.page.now.items ++ short) is

pub returns-clause-room : goal.returns-clause-room
returns-clause-room c =
    pair_room_stays c.args.spelled.now c.clear.new.self c.write_pair.new.sink c.args.before.now c.args.pair.now c.requires.room c.clear.ensures.room c.clear.ensures.empty c.write_pair.ensures
