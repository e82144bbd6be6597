use Rattle.std.proofs.Common.{◌≡◌, ◌<◌}
use Rattle.std.specs.Prelude.{fold}
use Rattle.std.specs.List.{AllByRecursion}
use Rattle.dwg_recover.specs.declared.frame.Frame.{Frame}
use Rattle.dwg_recover.specs.Frames.{keep_mapped, mapped_of}
use Rattle.dwg_recover.proofs.candidates.keep_all.Given as goal

-- what is left, kept after those so far, gives the whole
abbrev pub invariant-frames : goal.invariant-frames
invariant-frames l =
    (fold keep_mapped l.kept l.frame-iterator.rest.items ≡ mapped_of l.fn.ordered.items) × AllByRecursion (λ (frame : Frame). frame.from < frame.end) l.frame-iterator.rest.items
