use Rattle.std.proofs.Common.{drop}
use Rattle.dwg_file.specs.Contents.{OtherValue, other_value}
use Rattle.dwg_file.proofs.PlanLoops.{AreCounted}
use Rattle.dwg_file.proofs.frame_layout.others_length.Given as goal

-- what is counted so far and what is left give the whole
abbrev pub invariant-others : goal.invariant-others
invariant-others l = AreCounted other_value (λ (other : OtherValue). other.bytes) l.others (drop l.other-index l.others) 0 l.length
