use Rattle.std.proofs.Common.{arith}
use Rattle.dwg_file.proofs.PlanContent.{content_padded, bits_of_padded}
use Rattle.dwg_file.proofs.part_sending.send_classes.Goals as goal

pub write_classes-requires-clause-few : goal.write_classes-requires-clause-few
write_classes-requires-clause-few g c = let padded = content_padded c.args.classes.now in omega (arith, padded.enough, c.requires.few)

pub write_classes-requires-clause-room : goal.write_classes-requires-clause-room
write_classes-requires-clause-room g c = omega (arith, bits_of_padded c.args.classes.now, c.clear.ensures.room, c.requires.room)
