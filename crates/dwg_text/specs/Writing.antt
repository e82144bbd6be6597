-- What a writer and the sink below it do as a text is written to the writer. A rule of this project.
use Rattle.std.specs.Prelude.{◌≡◌, ℕ, ◌≤◌, List, [], ◌++◌, Option, Some, None, string_bytes}
use Rattle.std.specs.Io.KnownBytes.{Appends}
use Rattle.dwg_base.specs.Devices.{Rose, LAST_COUNT, AppendsPrefix}
use Rattle.dwg_text.specs.declared.text_writer.TextWriter.{TextWriter}
use Rattle.dwg_text.specs.declared.text_writer.ShowFault.{ShowFault}
use Rattle.dwg_text.specs.declared.text_writer.ShowFault.TheVariants as causes

-- a count of faults that rose
pub record Rises (before now : ℕ) : Type 0 where
  pub never_falls : before ≤ now
  pub stands : before ≡ LAST_COUNT → now ≡ LAST_COUNT
  pub rose : Rose before now

-- what a fault says of the sink's count of faults: a write fault comes only where it rose; out of memory leaves it as it was
abbrev pub IsCause : ShowFault → ℕ → ℕ → Type 0
IsCause causes.NoMemory before now = now ≡ before
IsCause causes.WriteFault before now = Rises before now

-- what stood in the writer and the text are what was sent and what stands in the writer now
pub record Goes (piece piece' : List ℕ) (taken taken' : Option (List ℕ)) (faults faults' : ℕ) (text : List ℕ) : Type 0 where
  pub sent : List ℕ
  pub sends : Appends taken taken' sent
  pub whole : piece ++ text ≡ sent ++ piece'
  pub quiet : faults' ≡ faults

-- by the fault of the writer before and after: without one the text goes on, with a new one the sink took a prefix of it, and after one nothing is sent
unfoldable pub WritesTextBy : Option ShowFault → Option ShowFault → List ℕ → List ℕ → Option (List ℕ) → Option (List ℕ) → ℕ → ℕ → List ℕ → Type 0
WritesTextBy None None piece piece' taken taken' faults faults' text = Goes piece piece' taken taken' faults faults' text
WritesTextBy None (Some fault) piece piece' taken taken' faults faults' text = AppendsPrefix taken taken' (piece ++ text) × IsCause fault faults faults'
WritesTextBy (Some fault) None piece piece' taken taken' faults faults' text = ⊥
WritesTextBy (Some fault) (Some fault') piece piece' taken taken' faults faults' text = (fault' ≡ fault) × Appends taken taken' [] × (faults' ≡ faults)

-- the writer sent the text to the sink, or keeps the last of it for later
pub record WritesText (writer writer' : TextWriter) (taken taken' : Option (List ℕ)) (faults faults' : ℕ) (text : List ℕ) : Type 0 where
  pub written : WritesTextBy writer.fault writer'.fault (string_bytes writer.piece) (string_bytes writer'.piece) taken taken' faults faults' text
