use Rattle.std.proofs.Common.{◌≡◌, ◌++◌, drop}
use Rattle.std.specs.Prelude.{map}
use Rattle.dwg_file.specs.Canonical.{others_located}
use Rattle.dwg_file.specs.Contents.{OtherValue, other_value}
use Rattle.dwg_file.proofs.PlanLoops.{AreCounted}
use Rattle.dwg_file.proofs.file_layout.locate_others.Given as goal

-- what is located so far and what is left give the whole
abbrev pub invariant-others : goal.invariant-others
invariant-others l = record {
  counted : AreCounted other_value (λ (other : OtherValue). other.bytes) l.others (drop l.other-index l.others) l.from l.place;
  whole : l.locators ++ others_located l.place (map other_value (drop l.other-index l.others)) ≡ l.fn.locators ++ others_located l.from (map other_value l.others);
}
