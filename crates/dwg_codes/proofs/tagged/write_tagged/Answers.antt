use Rattle.dwg_codes.proofs.TagReading.{tag_room}
use Rattle.dwg_codes.proofs.tagged.write_tagged.Goals as goal

pub push-requires-clause-room : goal.push-requires-clause-room
push-requires-clause-room g c = tag_room _ g.C.Tagged.WIDTH _ _ _ c.WIDTH.ensures c.requires.room
