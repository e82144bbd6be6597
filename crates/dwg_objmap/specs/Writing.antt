-- How the object map is written: which pairs go into which page. A rule of this project, over the map of the Open Design Specification, "Object map".
use Rattle.std.specs.Prelude.{◌≡◌, ◌≢◌, ⊤, ℕ, ◌+◌, ◌^◌, ◌<◌, ◌≤◌, Bool, false, List, [], ◌∷◌, ◌++◌, length, flat_map, nat_le, if◌then◌else◌}
use Rattle.dwg_grammar.specs.Combinators.{short_chain}
use Rattle.dwg_objmap.specs.declared.pair.Pair.{Pair}
use Rattle.dwg_objmap.specs.Pairs.{ORIGIN, pair_after}
use Rattle.dwg_objmap.specs.Pages.{page_bytes}

-- the largest size of a page that is written, its own two bytes counted
abbrev pub MOST_PAGE : ℕ
MOST_PAGE = 2032

-- the page that is being filled: the bytes of its pairs, the last pair that was put into the map, and whether the map has ended
pub record OpenPage : Type 0 where
  pub body : List ℕ
  pub last : Pair
  pub ended : Bool

-- a page without pairs, after none
abbrev pub FRESH : OpenPage
FRESH = record { body = []; last = ORIGIN; ended = false }

-- from which pair the next one of a page is written: the last put, or the origin where the page has none
abbrev pub reported_after : List ℕ → Pair → Pair
reported_after [] last = ORIGIN
reported_after (byte ∷ bytes) last = last

abbrev pub written_from : OpenPage → Pair
written_from page = reported_after page.body page.last

-- the bytes of a pair in the open page
abbrev pub added : OpenPage → Pair → List ℕ
added page pair = (pair_after (written_from page)).short pair

-- the page's size with a pair is no more than a page may have
abbrev pub has_room : OpenPage → Pair → Bool
has_room page pair = nat_le (2 + length page.body + length (added page pair)) MOST_PAGE

-- the bytes that a pair makes go out: the open page, where the pair doesn't go into it
unfoldable pub given : OpenPage → Pair → List ℕ
given page pair = if has_room page pair then [] else page_bytes page.body

-- the open page after a pair
unfoldable pub filled : OpenPage → Pair → OpenPage
filled page pair =
    if has_room page pair then record { body = page.body ++ added page pair; last = pair; ended = false }
    else record { body = (pair_after ORIGIN).short pair; last = pair; ended = false }

-- the bytes that end the map: the open page, if it has pairs, and the page without pairs
abbrev pub closing_body : List ℕ → List ℕ
closing_body [] = []
closing_body (byte ∷ bytes) = page_bytes (byte ∷ bytes)

unfoldable pub closing : OpenPage → List ℕ
closing page = closing_body page.body ++ page_bytes []

-- the bytes of the map from an open page on: each pair goes into the open page where there is room, and else a new page begins
unfoldable pub map_after : OpenPage → List Pair → List ℕ
map_after page [] = closing page
map_after page (pair ∷ pairs) = given page pair ++ map_after (filled page pair) pairs

-- the bytes of the map of these pairs
unfoldable pub map_bytes : List Pair → List ℕ
map_bytes pairs = map_after FRESH pairs

-- pairs in ascending order of positive handles after a handle, with places in range: what a map is written of
abbrev pub Ascend : ℕ → List Pair → Type 0
Ascend handle [] = ⊤
Ascend handle (pair ∷ pairs) = (handle < pair.handle) × (pair.handle < 2 ^ 63) × (pair.place < 2 ^ 63) × Ascend pair.handle pairs

-- the pairs of a page as they are written
abbrev pub body_of : List Pair → List ℕ
body_of pairs = short_chain pair_after (λ pair. pair) ORIGIN pairs

-- the next page, if there is one, begins with a pair for which the page has no room
abbrev pub HasNoRoom : List Pair → List (List Pair) → Type 0
HasNoRoom page [] = ⊤
HasNoRoom page (next ∷ pages) = (pair : Pair) × (others : List Pair) × (next ≡ pair ∷ others) × (MOST_PAGE < 2 + length (body_of (page ++ pair ∷ [])))

-- each page has pairs, is no larger than a page may be, and has no room for the first pair of the next one
abbrev pub AreFilled : List (List Pair) → Type 0
AreFilled [] = ⊤
AreFilled (page ∷ pages) = (page ≢ []) × (2 + length (body_of page) ≤ MOST_PAGE) × HasNoRoom page pages × AreFilled pages

-- bytes are pages of these pairs, filled one after the other, and the page that ends the map
pub record IsFilling (pairs : List Pair) (bytes : List ℕ) : Type 0 where
  pub pages : List (List Pair)
  pub all : pairs ≡ flat_map (λ (page : List Pair). page) pages
  pub filled : AreFilled pages
  pub whole : bytes ≡ flat_map (λ (page : List Pair). page_bytes (body_of page)) pages ++ page_bytes []
