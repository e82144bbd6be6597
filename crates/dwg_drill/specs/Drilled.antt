-- What a drill finds out: a drawing is made, its canonical file is read again and audited, and read once more with its middle byte changed. A rule of this project.
use Rattle.std.specs.Prelude.{ℕ, ◌/◌, ◌-◌, List, length}
use Rattle.std.specs.List.{slice_set, slice_index_or}
use Rattle.dwg_audit.specs.Findings.{findings}
use Rattle.dwg_base.specs.Refusals.{first_fault}
use Rattle.dwg_check.specs.CheckWord.{CHECK_SEED, check_word}
use Rattle.dwg_file.specs.Canonical.{canonical}
use Rattle.dwg_file.specs.Contents.{Contents}
use Rattle.dwg_file.specs.FileLines.{ALL_LINES}
use Rattle.dwg_make.specs.Made.{made}
use Rattle.dwg_drill.specs.declared.report.DrillReport.{DrillReport}

-- the seed of a drill's drawing
abbrev pub DRILL_SEED : ℕ
DRILL_SEED = 1

-- the place of the byte that is changed
abbrev pub middle_of : List ℕ → ℕ
middle_of file = length file / 2

-- a file whose middle byte is its complement
abbrev pub changed : List ℕ → List ℕ
changed file = slice_set file (middle_of file) (255 - slice_index_or file (middle_of file) 0)

-- what a drill over a drawing finds out
abbrev pub drilled_of : ℕ → Contents → DrillReport
drilled_of entities drawing = record {
  entities = entities;
  objects = length drawing.objects;
  size = length (canonical drawing);
  check = check_word CHECK_SEED (canonical drawing);
  middle = middle_of (canonical drawing);
  fault = first_fault ALL_LINES (changed (canonical drawing));
  findings = length (findings drawing.objects);
}

-- what a drill of so many entities finds out
unfoldable pub drilled : ℕ → DrillReport
drilled entities = drilled_of entities (made entities DRILL_SEED)
