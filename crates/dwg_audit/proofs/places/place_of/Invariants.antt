use Rattle.std.proofs.Common.{◌≡◌, drop}
use Rattle.std.specs.Prelude.{find}
use Rattle.dwg_audit.specs.Lookups.{is_of}
use Rattle.dwg_audit.proofs.places.place_of.Given as goal

-- none of the slots before is of the field
abbrev pub invariant-slots : goal.invariant-slots
invariant-slots l = find (is_of l.field) (drop l.i l.held) ≡ find (is_of l.field) l.held
