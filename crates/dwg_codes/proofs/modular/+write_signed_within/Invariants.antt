use Rattle.dwg_codes.proofs.modular.+write_signed_within.Given as goal

abbrev pub decreases-write_signed_within : goal.decreases-write_signed_within
decreases-write_signed_within l = l.more
