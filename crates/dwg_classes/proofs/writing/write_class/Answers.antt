use Rattle.std.proofs.Common.{arith}
use Rattle.dwg_classes.proofs.ClassWriting.{length_of_class, class_written}
use Rattle.dwg_classes.proofs.writing.write_class.Goals as goal

pub write-requires-clause-room : goal.write-requires-clause-room
write-requires-clause-room c = omega (arith, length_of_class c.args.class.now, c.requires.room)

pub write-requires-2-clause-room : goal.write-requires-2-clause-room
write-requires-2-clause-room c = omega (arith, length_of_class c.args.class.now, c.requires.room, c.write.ensures.spare)

pub write_name-requires-clause-room : goal.write_name-requires-clause-room
write_name-requires-clause-room c = omega (arith, length_of_class c.args.class.now, c.requires.room, c.write.ensures.spare, c.write-2.ensures.spare)

pub write_name-requires-2-clause-room : goal.write_name-requires-2-clause-room
write_name-requires-2-clause-room c = omega (arith, length_of_class c.args.class.now, c.requires.room, c.write.ensures.spare, c.write-2.ensures.spare, c.write_name.ensures.spare)

pub write_name-requires-3-clause-room : goal.write_name-requires-3-clause-room
write_name-requires-3-clause-room c = omega (arith, length_of_class c.args.class.now, c.requires.room, c.write.ensures.spare, c.write-2.ensures.spare, c.write_name.ensures.spare, c.write_name-2.ensures.spare)

pub write-requires-3-clause-room : goal.write-requires-3-clause-room
write-requires-3-clause-room c = omega (arith, length_of_class c.args.class.now, c.requires.room, c.write.ensures.spare, c.write-2.ensures.spare, c.write_name.ensures.spare, c.write_name-2.ensures.spare, c.write_name-3.ensures.spare)

pub write-requires-4-clause-room : goal.write-requires-4-clause-room
write-requires-4-clause-room c = omega (arith, length_of_class c.args.class.now, c.requires.room, c.write.ensures.spare, c.write-2.ensures.spare, c.write_name.ensures.spare, c.write_name-2.ensures.spare, c.write_name-3.ensures.spare, c.write-3.ensures.spare)

pub returns : goal.returns
returns c =
    class_written c.args.class.now _ _ _ _ _ _ _ _ c.write.ensures c.write-2.ensures c.write_name.ensures c.write_name-2.ensures c.write_name-3.ensures c.write-3.ensures c.write-4.ensures
