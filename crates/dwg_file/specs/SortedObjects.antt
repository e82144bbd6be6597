-- Objects put in order of handle. A rule of this project.
use Rattle.std.proofs.Common.{List, [], ◌∷◌}
use Rattle.std.specs.Prelude.{nat_lt, if◌then◌else◌}
use Rattle.dwg_object.specs.Objects.{ObjectValue, handle_of}

-- an object among others, before the first with a greater handle
unfoldable pub inserted : ObjectValue → List ObjectValue → List ObjectValue
inserted object [] = object ∷ []
inserted object (first ∷ rest) = if nat_lt (handle_of object) (handle_of first) then object ∷ first ∷ rest else first ∷ inserted object rest

-- objects, each put in its place
unfoldable pub sorted : List ObjectValue → List ObjectValue
sorted [] = []
sorted (object ∷ objects) = inserted object (sorted objects)
