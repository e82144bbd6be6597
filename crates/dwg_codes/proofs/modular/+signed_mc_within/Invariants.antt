use Rattle.dwg_codes.proofs.modular.+signed_mc_within.Given as goal

abbrev pub decreases-signed_mc_within : goal.decreases-signed_mc_within
decreases-signed_mc_within l = l.more
