use Rattle.std.proofs.Common.{◌≡◌, drop}
use Rattle.std.specs.List.{list_all}
use Rattle.dwg_cert.specs.AcceptTests.{is_right}
use Rattle.dwg_cert.proofs.accepting.are_right.Given as goal

-- what is left reports whether all are right
abbrev pub invariant-objects : goal.invariant-objects
invariant-objects l = list_all (is_right l.checker.objects l.checker.cert) (drop l.place l.checker.objects) ≡ list_all (is_right l.checker.objects l.checker.cert) l.checker.objects
