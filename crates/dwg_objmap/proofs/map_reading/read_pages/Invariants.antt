use Rattle.std.proofs.Common.{◌≡◌, ◌+◌, ◌-◌, [], length}
use Rattle.dwg_objmap.specs.MapLines.{pages_after}
use Rattle.dwg_objmap.proofs.map_reading.read_pages.Given as goal

-- what is left, after the pages that were read, gives the whole
abbrev pub invariant-pages : goal.invariant-pages
invariant-pages l = pages_after (length l.bytes + 1 - l.index) l.gathered l.at l.index l.bytes ≡ pages_after (length l.bytes + 1) [] l.place 0 l.bytes
