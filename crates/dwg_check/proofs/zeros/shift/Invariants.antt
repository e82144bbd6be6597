use Rattle.dwg_check.proofs.zeros.shift.Given as goal

abbrev pub ghosts-shift_counted : goal.ghosts-shift_counted
ghosts-shift_counted a = record { name = a.blank.name; parts = a.blank.parts }
