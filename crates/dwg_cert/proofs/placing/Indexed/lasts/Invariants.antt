use Rattle.std.proofs.Common.{◌≡◌, ◌++◌, drop, map}
use Rattle.dwg_cert.specs.Drawn.{is_last}
use Rattle.dwg_object.specs.Objects.{value_of}
use Rattle.dwg_cert.proofs.placing.Indexed.lasts.Given as goal

-- what is marked so far and what is left give the table
abbrev pub invariant-objects : goal.invariant-objects
invariant-objects l = l.marks.items ++ map (is_last l.self) (map value_of (drop l.place l.object-items)) ≡ map (is_last l.self) l.self
