use Rattle.dwg_recover.proofs.input_recovery.recover_input.Given as goal

abbrev pub ghosts-recover_counted : goal.ghosts-recover_counted
ghosts-recover_counted a = record { name = a.blank.name; parts = a.blank.parts }
