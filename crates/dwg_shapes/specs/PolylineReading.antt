-- What a reader of lightweight polylines has read, as the parts that the grammar gives.
use Rattle.dwg_shapes.specs.declared.lwpolyline.Start.{Start}
use Rattle.dwg_shapes.specs.LwPolylines.{StartParts}

-- what a lightweight polyline begins with
abbrev pub start_read : Start → StartParts
start_read start = (start.flag, (start.width, (start.elevation, (start.thickness, start.normal))))
