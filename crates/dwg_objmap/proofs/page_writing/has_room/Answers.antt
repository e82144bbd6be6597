use Rattle.dwg_objmap.proofs.PageFilling.{room_reported}
use Rattle.dwg_objmap.proofs.page_writing.has_room.Goals as goal

pub returns : goal.returns
returns c = room_reported c.args.page.now c.args.last.now c.written_from.result c.args.pair.now c.pair_bytes.result c.requires.size c.written_from.ensures c.pair_bytes.ensures.length
