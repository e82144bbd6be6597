-- What holds of what is recovered of a damaged input: its pairs are few, its frames share nothing, and its parts are read of it. A rule of this project.
use Rattle.std.proofs.Common.{ℕ, ◌≤◌, List, length}
use Rattle.dwg_base.specs.Bytes.{AreBytes}
use Rattle.dwg_base.specs.Devices.{MOST_BYTES}
use Rattle.dwg_file.specs.ValidLaws.{AreReadParts}
use Rattle.dwg_recover.specs.KeptFrames.{AreKept}
use Rattle.dwg_recover.specs.Recovering.{drawing_recovered, frames_kept, pairs_read}

-- the pairs that are read of an input are no more than it has bytes
abbrev pub PairsAreFew : Type 0
PairsAreFew = (bytes : List ℕ) → length (pairs_read bytes) ≤ length bytes

-- the frames that are kept of an input were found in it, and no two share a byte or a handle
abbrev pub FramesAreKept : Type 0
FramesAreKept = (bytes : List ℕ) → AreKept bytes (frames_kept bytes)

-- the parts of the drawing that is recovered of a damaged input are read of it
abbrev pub RecoveredPartsAreRead : Type 0
RecoveredPartsAreRead = (bytes : List ℕ) → AreBytes bytes → length bytes ≤ MOST_BYTES → AreReadParts (drawing_recovered bytes)
