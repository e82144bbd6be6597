use Rattle.dwg_audit.proofs.drawing_audit.audit_drawing.Given as goal

abbrev pub ghosts-audit_counted : goal.ghosts-audit_counted
ghosts-audit_counted a = record { name = a.blank.name; parts = a.blank.parts }
