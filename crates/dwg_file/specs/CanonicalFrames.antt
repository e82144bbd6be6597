-- The frames of the canonical file of a drawing: those of its objects, one after the other. A rule of this project.
use Rattle.std.proofs.Common.{ℕ, ◌+◌, List, [], ◌∷◌, length}
use Rattle.dwg_base.specs.declared.version.Version.{Version}
use Rattle.dwg_object.specs.Written.{body_bytes}
use Rattle.dwg_object.specs.Frames.{frame_bytes}
use Rattle.dwg_object.specs.Objects.{ObjectValue, handle_of}
use Rattle.dwg_file.specs.Canonical.{Carried, NO_PICTURE, objects_place_with}
use Rattle.dwg_file.specs.Contents.{Contents}
use Rattle.dwg_file.specs.Spelled.{PairFrame}

-- the frames of objects that stand one after the other from a place
abbrev pub frames_from : Version → ℕ → List ObjectValue → List PairFrame
frames_from version place [] = []
frames_from version place (object ∷ objects) = record {
  pair = record { handle = handle_of object; place = place };
  body = body_bytes version object;
  end = place + length (frame_bytes version object);
  object = object;
} ∷ frames_from version (place + length (frame_bytes version object)) objects

-- the frames of the canonical file with a preview, in the order of its map
abbrev pub canonical_frames_with : Carried → Contents → List PairFrame
canonical_frames_with carried drawing = frames_from drawing.version (objects_place_with carried drawing) drawing.objects

-- and of the one of a drawing alone
abbrev pub canonical_frames : Contents → List PairFrame
canonical_frames drawing = canonical_frames_with NO_PICTURE drawing
