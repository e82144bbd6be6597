use Rattle.std.proofs.Common.{◌≡◌, ◌++◌, drop, map}
use Rattle.dwg_cert.specs.Drawn.{drawn, drawn_entry}
use Rattle.dwg_object.specs.Objects.{value_of}
use Rattle.dwg_cert.proofs.certifying.entries.Given as goal

-- the entries so far and those of what is left are all
abbrev pub invariant-objects : goal.invariant-objects
invariant-objects l = l.entries.items ++ map (drawn_entry l.drawing) (map value_of (drop l.place l.object-items)) ≡ drawn l.drawing
