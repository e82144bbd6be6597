use Rattle.dwg_codes.proofs.modular.+write_mc_within.Given as goal

abbrev pub decreases-write_mc_within : goal.decreases-write_mc_within
decreases-write_mc_within l = l.more
