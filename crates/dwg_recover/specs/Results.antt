-- What recovery answers, as a plain value. A rule of this project.
use Rattle.dwg_file.specs.Contents.{contents_of}
use Rattle.dwg_recover.specs.declared.recovery.Recovered.{Recovered}
use Rattle.dwg_recover.specs.Recovering.{RecoveredValue}

-- the plain value of what is recovered
abbrev pub recovered_value : Recovered → RecoveredValue
recovered_value value = record { drawing = contents_of value.drawing; refusal = value.refusal; losses = value.losses; kept = value.kept }
