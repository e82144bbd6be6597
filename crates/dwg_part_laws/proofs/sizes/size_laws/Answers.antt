use Rattle.dwg_common.proofs.SizeLemmas.{one_size}
use Rattle.dwg_part_laws.proofs.sizes.size_laws.Goals as goal

pub returns-clause-one : goal.returns-clause-one
returns-clause-one c = one_size
