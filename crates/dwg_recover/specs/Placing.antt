-- Frames lie in the input, and were found there. A rule of this project.
use Rattle.std.specs.Prelude.{◌≡◌, ◌<◌, ◌≤◌, ℕ, List, Some}
use Rattle.dwg_object.specs.declared.span.Span.{Span}
use Rattle.dwg_recover.specs.declared.frame.Frame.{Frame}
use Rattle.dwg_recover.specs.Frames.{own_of_span, span_found}

-- a frame has bytes, and they end no later than at a place
pub record IsPlaced (most : ℕ) (frame : Frame) : Type 0 where
  pub some : frame.from < frame.end
  pub within : frame.end ≤ most

-- a frame is found in the input: a span at its place, whose check word is right and whose body has a head with its handle
pub record IsFound (bytes : List ℕ) (frame : Frame) : Type 0 where
  pub span : Span
  pub stands : span_found bytes frame.from ≡ Some span
  pub own : own_of_span bytes span ≡ Some frame.handle
  pub ends : frame.end ≡ span.end
