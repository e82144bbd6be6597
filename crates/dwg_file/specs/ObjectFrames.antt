-- The frames of objects as they are reported with the drawing that is read. A rule of this project.
use Rattle.dwg_file.specs.declared.frames.ObjectFrame.{ObjectFrame}
use Rattle.dwg_file.specs.FileLines.{FoundFrame}

-- the frame that was found of a pair: its own handle, its place and its end
abbrev pub frame_of : FoundFrame → ObjectFrame
frame_of found = record { handle = found.1.own; from = found.0.from; end = found.0.end }
