-- The walk over the pages of the map, past those whose check word is wrong; the pairs and the losses of its pages; and that there is one walk. A rule of this project, over the map of the Open Design Specification, "Object map".
use Rattle.std.specs.Prelude.{◌≡◌, ◌≢◌, ◌⊎◌, ℕ, zero, suc, ◌+◌, List, [], ◌∷◌, length, flat_map, ◌==◌, Option, Some, None, if◌then◌else◌}
use Rattle.dwg_objmap.specs.declared.pair.Pair.{Pair}
use Rattle.dwg_objmap.specs.MapLines.{body_at}
use Rattle.dwg_objmap.specs.Walking.{page_holds_at, leading_pairs, size_of_page}
use Rattle.dwg_recover.specs.declared.loss.Loss.{Loss}
use Rattle.dwg_recover.specs.declared.loss.Loss.TheVariants.{Page, MapEnd}

-- the pages of a walk, by their places, and the place where the end of the map is lost, if it is
pub record Walk : Type 0 where
  pub pages : List ℕ
  pub lost : Option ℕ

-- pages stand one after the other from a place, up to the first of size 2, or up to a place where none stands
abbrev pub IsWalk : List ℕ → ℕ → List ℕ → Option ℕ → Type 0
IsWalk bytes place [] lost = (size_of_page bytes place ≡ None) × (lost ≡ Some place)
IsWalk bytes place (page ∷ pages) lost =
    (page ≡ place) × (size : ℕ) × (size_of_page bytes place ≡ Some size)
    × (((size ≡ 2) × (pages ≡ []) × (lost ≡ None)) ⊎ ((size ≢ 2) × IsWalk bytes (place + size + 2) pages lost))

-- a page before those of a walk
abbrev pub with_page : ℕ → Walk → Walk
with_page page walk = record { pages = page ∷ walk.pages; lost = walk.lost }

-- the walk from a place, by the size of the page there; others is the walk from the place after it
abbrev pub walk_of_size : ℕ → (ℕ → Walk) → Option ℕ → Walk
walk_of_size place others None = record { pages = []; lost = Some place }
walk_of_size place others (Some size) = if size == 2 then record { pages = place ∷ []; lost = None } else with_page place (others (place + size + 2))

-- the walk from a place over no more pages than the fuel
unfoldable pub walk_over : ℕ → List ℕ → ℕ → Walk
walk_over zero bytes place = record { pages = []; lost = None }
walk_over (suc fuel) bytes place = walk_of_size place (λ next. walk_over fuel bytes next) (size_of_page bytes place)

-- the walk from a place
unfoldable pub walk_from : List ℕ → ℕ → Walk
walk_from bytes place = walk_over (suc (length bytes)) bytes place

-- the pairs of a page whose check word is right; of another none are taken
abbrev pub pairs_at : List ℕ → ℕ → List Pair
pairs_at bytes page = if page_holds_at bytes page then leading_pairs (body_at bytes page) else []

-- the pairs of the pages of a walk, in map order
abbrev pub pairs_of : List ℕ → List ℕ → List Pair
pairs_of bytes pages = flat_map (pairs_at bytes) pages

-- the pages whose check word is wrong, each with its number in the walk
abbrev pub lost_pages : List ℕ → ℕ → List ℕ → List Loss
lost_pages bytes index [] = []
lost_pages bytes index (page ∷ pages) =
    if page_holds_at bytes page then lost_pages bytes (index + 1) pages else Page index page ∷ lost_pages bytes (index + 1) pages

-- the end of the map, where it is lost
abbrev pub lost_end : Option ℕ → List Loss
lost_end None = []
lost_end (Some place) = MapEnd place ∷ []

-- the walk from a place stands in the input
abbrev pub WalkStands : Type 0
WalkStands = (bytes : List ℕ) (place : ℕ) → IsWalk bytes place (walk_from bytes place).pages (walk_from bytes place).lost

-- and there is no other
abbrev pub WalkIsOne : Type 0
WalkIsOne =
    (bytes : List ℕ) (place : ℕ) (pages others : List ℕ) (lost other : Option ℕ) → IsWalk bytes place pages lost → IsWalk bytes place others other → (pages ≡ others) × (lost ≡ other)
