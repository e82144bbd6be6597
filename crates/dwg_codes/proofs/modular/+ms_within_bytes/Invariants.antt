use Rattle.dwg_codes.proofs.modular.+ms_within_bytes.Given as goal

abbrev pub decreases-ms_within_bytes : goal.decreases-ms_within_bytes
decreases-ms_within_bytes l = l.more
