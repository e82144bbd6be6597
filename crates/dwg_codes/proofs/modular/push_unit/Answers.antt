use Rattle.dwg_codes.proofs.ShortReading.{unit_written}
use Rattle.dwg_codes.proofs.modular.push_unit.Goals as goal

pub returns : goal.returns
returns c = unit_written _ _ _ c.args.group c.requires.value c.push.ensures c.push-2.ensures
