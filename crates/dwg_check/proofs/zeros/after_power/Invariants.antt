use Rattle.std.proofs.Common.{◌≡◌, [], drop, get_or}
use Rattle.std.specs.Prelude.{bit_xor}
use Rattle.dwg_check.proofs.AppliedRows.{applied}
use Rattle.dwg_check.specs.declared.zeros.TheConstants.{POWERS}
use Rattle.dwg_check.proofs.zeros.after_power.Given as goal

-- the bits taken and what the row makes of those that are left give what it makes of all
abbrev pub invariant-bits : goal.invariant-bits
invariant-bits l = bit_xor l.after (applied (drop l.bit (get_or POWERS l.power [])) l.rest) ≡ applied (get_or POWERS l.power []) l.fn.word
