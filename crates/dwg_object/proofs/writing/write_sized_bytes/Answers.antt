use Rattle.std.proofs.Common.{refl}
use Rattle.dwg_object.proofs.FrameWriting.{sized_written}
use Rattle.dwg_object.proofs.writing.write_sized_bytes.Goals as goal

pub returns : goal.returns
returns c = sized_written _ _ _ _ c.args.bytes.now refl c.write_ms.ensures c.push_bytes.ensures
