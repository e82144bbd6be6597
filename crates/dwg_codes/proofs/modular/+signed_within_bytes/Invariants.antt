use Rattle.dwg_codes.proofs.modular.+signed_within_bytes.Given as goal

abbrev pub decreases-signed_within_bytes : goal.decreases-signed_within_bytes
decreases-signed_within_bytes l = l.more
