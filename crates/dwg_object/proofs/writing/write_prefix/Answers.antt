use Rattle.std.proofs.Common.{arith}
use Rattle.dwg_object.proofs.FrameWriting.{prefix_written}
use Rattle.dwg_object.proofs.WrittenLemmas.{prefix_long, head_long_written, sized_fits, sized_long}
use Rattle.dwg_object.proofs.writing.write_prefix.Goals as goal

pub write_main-requires-clause-fits : goal.write_main-requires-clause-fits
write_main-requires-clause-fits g c = sized_fits c.args.version c.args.size c.args.handle c.args.common.now c.requires.common

pub write_main-requires-clause-room : goal.write_main-requires-clause-room
write_main-requires-clause-room g c =
    omega (
      arith,
      c.requires.room,
      c.write_head.ensures.spare,
      prefix_long c.args.version c.args.number c.args.handle c.args.common.now (g.P.Part.main c.args.version c.args.handle c.args.own.now),
      head_long_written c.args.version c.args.number c.args.handle c.args.size,
      sized_long c.args.version c.args.size c.args.handle c.args.common.now,
    )

pub write_main-requires-2-clause-room : goal.write_main-requires-2-clause-room
write_main-requires-2-clause-room g c =
    omega (
      arith,
      c.requires.room,
      c.write_head.ensures.spare,
      c.write_main.ensures.spare,
      prefix_long c.args.version c.args.number c.args.handle c.args.common.now (g.P.Part.main c.args.version c.args.handle c.args.own.now),
      head_long_written c.args.version c.args.number c.args.handle c.args.size,
      sized_long c.args.version c.args.size c.args.handle c.args.common.now,
    )

pub returns : goal.returns
returns g c =
    prefix_written _ _ _ _ c.args.version c.args.number c.args.size c.args.handle c.args.common.now (g.P.Part.main c.args.version c.args.handle c.args.own.now) c.requires.size c.write_head.ensures c.write_main.ensures c.write_main-2.ensures
