use Rattle.dwg_codes.proofs.modular.+write_ms_within.Given as goal

abbrev pub decreases-write_ms_within : goal.decreases-write_ms_within
decreases-write_ms_within l = l.more
