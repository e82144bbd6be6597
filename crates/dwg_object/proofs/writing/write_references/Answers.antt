use Rattle.dwg_object.proofs.FrameWriting.{refs_written}
use Rattle.dwg_object.proofs.writing.write_references.Goals as goal

pub returns : goal.returns
returns g c = refs_written _ _ _ c.args.version c.args.handle c.args.common.now (g.P.Part.refs c.args.version c.args.handle c.args.own.now) c.write_refs.ensures c.write_refs-2.ensures
