use Rattle.std.proofs.Common.{refl}
use Rattle.dwg_objmap.specs.Writing.{map_after, map_bytes}
use Rattle.dwg_objmap.proofs.FillingLemmas.{map_is_filled, map_is_written}
use Rattle.dwg_objmap.proofs.FillingOnly.{only_filling}
use Rattle.dwg_objmap.proofs.laws.map_writing_laws.Goals as goal

pub returns : goal.returns
unfolding map_after map_bytes
returns c = record {
  written = map_is_written;
  filled = map_is_filled;
  only = only_filling;
  begins = λ pairs. refl;
  goes_on = λ page pair pairs. refl;
  ends = λ page. refl;
}
