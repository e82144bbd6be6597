use Rattle.std.proofs.Common.{◌≡◌, ◌++◌, drop}
use Rattle.dwg_recover.proofs.losses.with_losses.Given as goal

-- what was put and what is left give the whole
abbrev pub invariant-losses : goal.invariant-losses
invariant-losses l = l.losses ++ drop l.loss-index l.others ≡ l.fn.losses ++ l.others
