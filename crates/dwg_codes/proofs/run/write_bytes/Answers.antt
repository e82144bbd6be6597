use Rattle.dwg_codes.proofs.RunReading.{run_written}
use Rattle.dwg_codes.proofs.run.write_bytes.Goals as goal

pub returns : goal.returns
returns c = run_written _ _ c.args.bytes.now c.push_bytes.ensures
