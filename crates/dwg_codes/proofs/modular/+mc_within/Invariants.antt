use Rattle.dwg_codes.proofs.modular.+mc_within.Given as goal

abbrev pub decreases-mc_within : goal.decreases-mc_within
decreases-mc_within l = l.more
