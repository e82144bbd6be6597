use Rattle.std.proofs.Common.{◌≡◌, drop, map}
use Rattle.dwg_cert.specs.AcceptTests.{are_handles}
use Rattle.dwg_object.specs.Objects.{value_of}
use Rattle.dwg_cert.proofs.accepting.are_handles.Given as goal

-- what is left reports whether all are the same
abbrev pub invariant-entries : goal.invariant-entries
invariant-entries l = are_handles (drop l.i l.entries) (drop l.i (map value_of l.objects)) ≡ are_handles l.entries (map value_of l.objects)
