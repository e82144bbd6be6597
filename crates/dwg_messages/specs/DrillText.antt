-- The text of a drill. A rule of this project.
use Rattle.std.specs.Prelude.{ℕ, List, ◌++◌, ◌-◌, codes, decimal, length, replicate, Option, Some, None}
use Rattle.dwg_base.specs.Refusal.{Refusal}
use Rattle.dwg_drill.specs.declared.report.DrillReport.{DrillReport}
use Rattle.dwg_text.specs.Lines.{line}
use Rattle.dwg_text.specs.Notes.{refusal_words}
use Rattle.dwg_text.specs.Values.{upper_digits}

-- a check word: four upper-case hexadecimal digits
unfoldable pub check_text : ℕ → List ℕ
check_text word = replicate (4 - length (upper_digits word)) 48 ++ upper_digits word

-- the first fault of a changed file: which part, where, and why; a word where there is none
unfoldable pub fault_text : Option Refusal → List ℕ
fault_text None = codes "none"
fault_text (Some refusal) = refusal_words refusal

-- what a drill reports
unfoldable pub drill_text : DrillReport → List ℕ
drill_text report =
    line (codes "drill " ++ decimal report.entities)
    ++ line (codes "objects " ++ decimal report.objects)
    ++ line (codes "bytes " ++ decimal report.size)
    ++ line (codes "check " ++ check_text report.check)
    ++ line (codes "changed " ++ decimal report.middle ++ codes " " ++ fault_text report.fault)
    ++ line (codes "findings " ++ decimal report.findings)
