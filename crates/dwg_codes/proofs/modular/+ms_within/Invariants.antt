use Rattle.dwg_codes.proofs.modular.+ms_within.Given as goal

abbrev pub decreases-ms_within : goal.decreases-ms_within
decreases-ms_within l = l.more
