use Rattle.dwg_recover.proofs.WholeRecovery.{whole_value}
use Rattle.dwg_file.specs.Contents.{contents_of}
use Rattle.dwg_recover.proofs.recovery.recover_whole.Goals as goal

pub returns : goal.returns
returns c = record { recovered = whole_value c.args.bytes.now (contents_of c.args.read.drawing) _ _ c.requires.drawing c.new.ensures c.in_ok-kept.ensures }
