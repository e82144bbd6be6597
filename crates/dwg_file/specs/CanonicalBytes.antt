-- Which bytes of the canonical file of a drawing an input has. A rule of this project.
use Rattle.std.proofs.Common.{◌≡◌, ℕ, List}
use Rattle.dwg_object.specs.FrameLines.{bytes_from}
use Rattle.dwg_file.specs.Canonical.{Carried, canonical_with}
use Rattle.dwg_file.specs.Contents.{Contents}

-- an input has the bytes of the canonical file of a drawing from a place up to another
abbrev pub HasPart : Carried → Contents → List ℕ → ℕ → ℕ → Type 0
HasPart carried drawing bytes from to = bytes_from bytes from to ≡ bytes_from (canonical_with carried drawing) from to
