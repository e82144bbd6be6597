-- What an audit asks of objects, and that those of a valid drawing are such. A rule of this project.
use Rattle.std.specs.Prelude.{◌+◌, ◌<◌, ◌^◌, List, length}
use Rattle.std.specs.List.{AllByRecursion}
use Rattle.dwg_file.specs.Contents.{Contents}
use Rattle.dwg_file.specs.Valid.{IsValid}
use Rattle.dwg_graph.specs.Claimed.{reference_count}
use Rattle.dwg_graph.specs.Places.{Ascend, handles_of}
use Rattle.dwg_object.specs.Objects.{ObjectValue}
use Rattle.dwg_object.specs.Written.{IsWhole}

-- what an audit asks of objects: their handles ascend, they are whole, and they and their references are few
pub record CanBeAudited (objects : List ObjectValue) : Type 0 where
  pub ascending : Ascend (handles_of objects)
  pub whole : AllByRecursion IsWhole objects
  pub few : length objects + reference_count objects < 2 ^ 58

-- the objects of a valid drawing can be audited
abbrev pub ValidIsAuditable : Type 0
ValidIsAuditable = (drawing : Contents) → IsValid drawing → CanBeAudited drawing.objects
