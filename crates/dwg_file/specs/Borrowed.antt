-- What a drawing borrows of the input that it was read from. A rule of this project.
use Rattle.std.specs.List.{All}
use Rattle.dwg_object.specs.Objects.{IsBorrowedObject, IsLentPart}
use Rattle.dwg_file.specs.declared.drawing_parts.Other.{Other}
use Rattle.dwg_file.specs.declared.drawing_parts.Parts.{Parts}

-- an unknown section whose bytes are lent
abbrev pub IsBorrowedSection : Other → Type 0
IsBorrowedSection other = IsLentPart other.bytes

-- the header variables, the bytes of each unknown section, the free bits of each Plain object and the bytes of each Raw one are lent
pub record IsBorrowed (parts : Parts) : Type 0 where
  pub variables : IsLentPart parts.variables
  pub others : All IsBorrowedSection parts.others
  pub objects : All IsBorrowedObject parts.objects
