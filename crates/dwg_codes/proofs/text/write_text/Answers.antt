use Rattle.dwg_codes.proofs.TextReading.{tv_written}
use Rattle.dwg_codes.proofs.text.write_text.Goals as goal

pub returns : goal.returns
returns c = tv_written _ _ _ c.args.text.now c.write.ensures c.write_bytes.ensures
