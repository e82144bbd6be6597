use Rattle.std.proofs.Common.{◌≡◌, ◌∙◌, ap, subst, ◌+◌, ◌<◌, length, length-append, rules, arith}
use Rattle.std.specs.Io.KnownBytes.{Appends}
use Rattle.dwg_base.specs.Devices.{AppendsPrefix}
use Rattle.dwg_objmap.specs.Pairs.{pair_after}
use Rattle.dwg_objmap.proofs.Putting.{none_given, page_given, page_put, page_begun, first_fits}
use Rattle.dwg_objmap.proofs.page_writing.PageWriter.put.Goals as goal

pub returns-then-has_room-clause-bytes : goal.returns-then-has_room-clause-bytes
returns-then-has_room-clause-bytes g c =
    none_given c.self.inside.page.items c.self.inside.last c.args.pair c.self.inside.ended c.has_room.result c.args.self.now _ c.self.view_is (rw c.as_slice.ensures.value at c.has_room.ensures) c.if-has_room.true

pub returns-then-has_room-clause-page : goal.returns-then-has_room-clause-page
returns-then-has_room-clause-page g c =
    page_put c.self.inside.page.items c.append_pair.new.page.items c.self.inside.last c.written_from-before.result c.args.pair c.self.inside.ended c.has_room.result c.args.self.now c.self.view_is c.requires.open
    c.self.invariant.0.least (rw c.as_slice.ensures.value at c.has_room.ensures) c.if-has_room.true (rw c.as_slice-then-has_room.ensures.value at c.written_from-before.ensures) c.append_pair.ensures.both

pub returns-in-Err-clause-bytes : goal.returns-in-Err-clause-bytes
returns-in-Err-clause-bytes g c =
    subst (AppendsPrefix (g.W.Sink.taken c.args.sink.now) (g.W.Sink.taken c.send_page.new.sink))
    (page_given c.self.inside.page.items c.self.inside.last c.args.pair c.self.inside.ended c.has_room.result c.args.self.now c.self.view_is (rw c.as_slice.ensures.value at c.has_room.ensures) c.if-has_room.false) c.in-Err.ensures.bytes

pub append_pair-requires-2-clause-fits : goal.append_pair-requires-2-clause-fits
append_pair-requires-2-clause-fits g c =
    let above : 0 < c.args.pair.handle = omega (arith, c.requires.handle) in
    let fits = first_fits c.send_page.new.page.items c.origin.result c.args.pair c.in-Ok.ensures.size c.origin.ensures (search rules) above in
    omega (arith, fits, c.self.invariant.0.room, c.in-Ok.ensures.capacity)

pub invariant_of-self-2 : goal.invariant_of-self-2
invariant_of-self-2 g c =
    let above : 0 < c.args.pair.handle = omega (arith, c.requires.handle) in
    let fits = first_fits c.send_page.new.page.items c.origin.result c.args.pair c.in-Ok.ensures.size c.origin.ensures (search rules) above in
    let size : length c.append_pair-2.new.page.items ≡ length c.send_page.new.page.items + length ((pair_after c.origin.result).short c.args.pair) =
    ap length c.append_pair-2.ensures.both ∙ length-append c.send_page.new.page.items ((pair_after c.origin.result).short c.args.pair) in (
      record {
        least = omega (arith, size, c.in-Ok.ensures.size);
        most = omega (arith, size, fits);
        room = omega (arith, c.self.invariant.0.room, c.in-Ok.ensures.capacity, c.append_pair-2.ensures.capacity);
      },
      c.append_pair-2.ensures.room,
      search rules,
    )

pub returns-clause-bytes : goal.returns-clause-bytes
returns-clause-bytes g c =
    subst (Appends (g.W.Sink.taken c.args.sink.now) (g.W.Sink.taken c.send_page.new.sink))
    (page_given c.self.inside.page.items c.self.inside.last c.args.pair c.self.inside.ended c.has_room.result c.args.self.now c.self.view_is (rw c.as_slice.ensures.value at c.has_room.ensures) c.if-has_room.false) c.in-Ok.ensures.bytes

pub returns-clause-page : goal.returns-clause-page
returns-clause-page g c =
    page_begun c.self.inside.page.items c.send_page.new.page.items c.append_pair-2.new.page.items c.self.inside.last c.origin.result c.args.pair c.self.inside.ended c.has_room.result c.args.self.now
    c.self.view_is c.requires.open (rw c.as_slice.ensures.value at c.has_room.ensures) c.if-has_room.false c.in-Ok.ensures.size c.in-Ok.ensures.none c.origin.ensures c.append_pair-2.ensures.both
