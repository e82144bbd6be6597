-- The canonical file of a valid drawing can be drilled over.
use Rattle.std.proofs.Common.{◌≡◌, sym, ap₂, ◌∙◌, subst, ℕ, ◌<◌, ◌≤◌, List, length, None, arith}
use Rattle.dwg_audit.specs.Findings.{findings}
use Rattle.dwg_base.specs.Devices.{MOST_BYTES}
use Rattle.dwg_base.specs.Refusals.{first_fault}
use Rattle.dwg_check.specs.CheckWord.{CHECK_SEED, check_word}
use Rattle.dwg_drill.specs.Drilled.{DRILL_SEED, changed, drilled, middle_of}
use Rattle.dwg_file.specs.Canonical.{canonical, size_of}
use Rattle.dwg_file.specs.CanonicalLaws.{CanonicalIsCounted, CanonicalIsRead}
use Rattle.dwg_file.specs.Contents.{Contents}
use Rattle.dwg_file.specs.DrawingAt.{drawing_at}
use Rattle.dwg_file.specs.FileLines.{ALL_LINES}
use Rattle.dwg_file.specs.Valid.{IsValid}
use Rattle.dwg_make.specs.Made.{made}
use Rattle.dwg_drill.specs.declared.report.DrillReport.{DrillReport}

-- what a drill asks of a file, which is that of a drawing
pub record CanBeDrilled (drawing : Contents) (file : List ℕ) : Type 0 where
  pub few : length file ≤ MOST_BYTES
  pub some : 0 < length file
  pub passes : first_fault ALL_LINES file ≡ None
  pub read : drawing_at file ≡ drawing

-- so a canonical file does
pub can_be_drilled : CanonicalIsCounted → CanonicalIsRead → (drawing : Contents) (file : List ℕ) → IsValid drawing → size_of drawing ≤ MOST_BYTES → file ≡ canonical drawing
    → CanBeDrilled drawing file
can_be_drilled counted reads drawing file is small same =
    let long : length (canonical drawing) ≡ size_of drawing = (counted drawing is small).0 in
    let read = reads drawing is small in
    subst (CanBeDrilled drawing) (sym same) (record { few = omega (arith, long); some = omega (arith, long); passes = read.0; read = read.1 })

-- what a drill reports of a file and the drawing that is read of it
abbrev pub reported_of : ℕ → Contents → List ℕ → DrillReport
reported_of entities drawing file = record {
  entities = entities;
  objects = length drawing.objects;
  size = length file;
  check = check_word CHECK_SEED file;
  middle = middle_of file;
  fault = first_fault ALL_LINES (changed file);
  findings = length (findings drawing.objects);
}

-- of the canonical file of a made drawing it is what a drill finds out
pub reported_is_drilled : (entities : ℕ) (file : List ℕ) (report : DrillReport) → report ≡ reported_of entities (drawing_at file) file → drawing_at file ≡ made entities DRILL_SEED
    → file ≡ canonical (made entities DRILL_SEED) → report ≡ drilled entities
unfolding drilled
reported_is_drilled entities file report reported read same = reported ∙ ap₂ (reported_of entities) read same
