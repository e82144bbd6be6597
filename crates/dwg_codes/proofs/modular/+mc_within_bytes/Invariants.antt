use Rattle.dwg_codes.proofs.modular.+mc_within_bytes.Given as goal

abbrev pub decreases-mc_within_bytes : goal.decreases-mc_within_bytes
decreases-mc_within_bytes l = l.more
