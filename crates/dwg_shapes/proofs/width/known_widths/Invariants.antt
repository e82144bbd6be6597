use Rattle.std.proofs.Common.{drop}
use Rattle.dwg_shapes.specs.LwPolylines.{width_pair}
use Rattle.dwg_shapes.proofs.Known.{IsKnownSoFar}
use Rattle.dwg_shapes.proofs.width.known_widths.Given as goal

-- the widths so far are known
abbrev pub invariant-widths : goal.invariant-widths
invariant-widths l = IsKnownSoFar width_pair.IsValue l.widths (drop l.width-index l.widths)
