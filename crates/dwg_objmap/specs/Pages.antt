-- Pages of the object map, and the map (Open Design Specification, "Object map"). That handles are positive and distinct, and the bounds, are rules of this project.
use Rattle.std.specs.Prelude.{◌≡◌, ◌≢◌, ℕ, ◌+◌, ◌^◌, ◌<◌, List, [], ◌∷◌, ◌++◌, length, map, slice_index, flat_map}
use Rattle.std.specs.List.{AllByRecursion}
use Rattle.std.specs.Int.{w16, to_be_bytes}
use Rattle.dwg_base.specs.Bytes.{StandsAt}
use Rattle.dwg_check.specs.CheckWord.{CHECK_SEED, check_word}
use Rattle.dwg_grammar.specs.Combinators.{SpellsChain}
use Rattle.dwg_objmap.specs.declared.pair.Pair.{Pair}
use Rattle.dwg_objmap.specs.Pairs.{ORIGIN, pair_after}

-- the pairs of a page, one after the other, each written from the one before
abbrev pub PairsSpell : List Pair → List ℕ → Type 0
PairsSpell pairs body = SpellsChain pair_after (λ pair. pair) ORIGIN pairs body

-- what the check word of a page is over: its size, which counts its own two bytes and the pairs, the most significant byte first; and the pairs
abbrev pub sized_pairs : List ℕ → List ℕ
sized_pairs body = to_be_bytes w16 (2 + length body) ++ body

-- a whole page: the size, the pairs, the check word, its most significant byte first
abbrev pub page_bytes : List ℕ → List ℕ
page_bytes body = sized_pairs body ++ to_be_bytes w16 (check_word CHECK_SEED (sized_pairs body))

-- a page of these pairs stands at a place of the input, and the next place is after it
pub record PageAt (bytes : List ℕ) (place : ℕ) (pairs : List Pair) (next : ℕ) : Type 0 where
  pub body : List ℕ
  pub spelled : PairsSpell pairs body
  pub size : 2 + length body < 2 ^ 16
  pub stands : StandsAt bytes place (page_bytes body)
  pub ends : next ≡ place + 4 + length body

-- pages that have pairs stand one after the other from a place, and the next place is after them
abbrev pub PagesAt : List ℕ → ℕ → List (List Pair) → ℕ → Type 0
PagesAt bytes place [] next = next ≡ place
PagesAt bytes place (pairs ∷ pages) next = (after : ℕ) × PageAt bytes place pairs after × (pairs ≢ []) × PagesAt bytes after pages next

-- the handles of pairs
abbrev pub handles_of : List Pair → List ℕ
handles_of pairs = map (λ (pair : Pair). pair.handle) pairs

-- handles are positive, and no two of them are the same
pub record AreHandles (handles : List ℕ) : Type 0 where
  pub positive : AllByRecursion (λ handle. 0 < handle) handles
  pub distinct : (i j : ℕ) → i < j → j < length handles → slice_index handles i ≢ slice_index handles j

-- the map from a place: pages one after the other, of which just the last has no pairs, and the pairs of all of them
pub record MapOf (bytes : List ℕ) (place : ℕ) (pairs : List Pair) : Type 0 where
  pub pages : List (List Pair)
  pub last : ℕ
  pub next : ℕ
  pub stand : PagesAt bytes place pages last
  pub end : PageAt bytes last [] next
  pub all : pairs ≡ flat_map (λ (page : List Pair). page) pages
  pub handles : AreHandles (handles_of pairs)
