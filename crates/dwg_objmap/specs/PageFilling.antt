-- How a writer holds the page that is being filled. A rule of this project.
use Rattle.std.specs.Prelude.{ℕ, ◌+◌, ◌*◌, ◌≤◌, List, drop, length, Bool}
use Rattle.dwg_bits.specs.Sink.{Written}
use Rattle.dwg_objmap.specs.declared.pair.Pair.{Pair}
use Rattle.dwg_objmap.specs.Writing.{MOST_PAGE, OpenPage}

-- the open page of its bytes, of which the first two are its size's, and of the last pair
abbrev pub page_of : List ℕ → Pair → Bool → OpenPage
page_of bytes last ended = record { body = drop 2 bytes; last = last; ended = ended }

-- bytes of a page as it goes out, in memory for so many: two for its size and then its pairs, no more than a page may have, and memory for all of these and for its check word
pub record IsPage (bytes : List ℕ) (capacity : ℕ) : Type 0 where
  pub least : 2 ≤ length bytes
  pub most : length bytes ≤ MOST_PAGE
  pub room : MOST_PAGE + 2 ≤ capacity

-- a sink has room for the bits of a pair
abbrev pub HasPairRoom : Written → Type 0
HasPairRoom spelled = 8 * 20 ≤ spelled.spare + length spelled.written
