use Rattle.dwg_file.proofs.CanonicalLaws.{canonical_spells, canonical_is_counted, canonical_spells_no_other, canonical_reports_drawing, canonical_is_read, rewriting_is_done_once}
use Rattle.dwg_file.proofs.written_laws.canonical_laws.Goals as goal

pub returns-clause-spells : goal.returns-clause-spells
returns-clause-spells c = canonical_spells

pub returns-clause-no_other : goal.returns-clause-no_other
returns-clause-no_other c = canonical_spells_no_other c.drawing_laws.ensures.one

pub returns-clause-reports : goal.returns-clause-reports
returns-clause-reports c = canonical_reports_drawing c.drawing_laws.ensures.one

pub returns-clause-counted : goal.returns-clause-counted
returns-clause-counted c = canonical_is_counted

pub returns-clause-read : goal.returns-clause-read
returns-clause-read c = canonical_is_read c.drawing_laws.ensures.one c.drawing_laws.ensures.passes c.drawing_laws.ensures.spelled

pub returns-clause-once : goal.returns-clause-once
returns-clause-once c =
    rewriting_is_done_once c.drawing_laws.ensures.one c.drawing_laws.ensures.passes c.drawing_laws.ensures.spelled c.drawing_laws.ensures.valid
