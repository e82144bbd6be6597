-- The length of a map, counted pair by pair. A rule of this project.
use Rattle.std.specs.Prelude.{ℕ, ◌+◌, List, [], ◌∷◌, length, nat_le, ◌==◌, if◌then◌else◌}
use Rattle.dwg_objmap.specs.declared.pair.Pair.{Pair}
use Rattle.dwg_objmap.specs.Pairs.{ORIGIN, pair_after}
use Rattle.dwg_objmap.specs.Writing.{MOST_PAGE}

-- from which pair the next one is written of a page whose pairs have so many bytes
abbrev pub reported_at : ℕ → Pair → Pair
reported_at size last = if size == 0 then ORIGIN else last

-- how many bytes a pair has in such a page
abbrev pub size_added : ℕ → Pair → Pair → ℕ
size_added size last pair = length ((pair_after (reported_at size last)).short pair)

-- how many bytes follow from such a page on
unfoldable pub length_after : ℕ → Pair → List Pair → ℕ
length_after size last [] = (if size == 0 then 0 else 4 + size) + 4
length_after size last (pair ∷ pairs) =
    if nat_le (2 + size + size_added size last pair) MOST_PAGE then length_after (size + size_added size last pair) pair pairs
    else 4 + size + length_after (length ((pair_after ORIGIN).short pair)) pair pairs
