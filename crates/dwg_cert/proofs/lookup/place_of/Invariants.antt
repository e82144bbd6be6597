use Rattle.dwg_cert.proofs.lookup.place_of.Given as goal

abbrev pub ghosts-place_counted : goal.ghosts-place_counted
ghosts-place_counted a = record { name = a.blank.name; parts = a.blank.parts }
