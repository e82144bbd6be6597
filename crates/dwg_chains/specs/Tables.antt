-- Tables of places: where each place leads, which are goals, and whose member each is. A rule of this project.
use Rattle.std.specs.Prelude.{◌≡◌, ◌==◌, ◌<◌, ℕ, Bool, false, List, Option, Some, None, unwrap_or}
use Rattle.std.specs.List.{slice_get}
use Rattle.std.specs.Option.{option_and_then, option_map_or}
use Rattle.dwg_chains.specs.Paths.{HasRank, HasChain}
use Rattle.dwg_chains.specs.declared.tables.ChainEnds.{ChainEnds}

-- where a place leads; a place after the end of the table leads nowhere
abbrev pub leads : List (Option ℕ) → ℕ → Option ℕ
leads table place = option_and_then (λ to. to) (slice_get table place)

-- whether a place is marked; a place after the end of the table isn't
abbrev pub marked : List Bool → ℕ → Bool
marked table place = unwrap_or (slice_get table place) false

-- whether a place is that one
abbrev pub is_at : Option ℕ → ℕ → Bool
is_at at place = option_map_or (λ that. that == place) at false

-- whether a place is a member of that home
abbrev pub lives_at : List (Option ℕ) → ℕ → ℕ → Bool
lives_at homes home place = is_at (leads homes place) home

-- a home has a chain of its members from one end to the other; without ends it has one exactly where it has no members
abbrev pub HasChainAt : List (Option ℕ) → List (Option ℕ) → ℕ → Option ChainEnds → Type 0
HasChainAt homes next home None = (place : ℕ) → lives_at homes home place ≡ false
HasChainAt homes next home (Some ends) = HasChain (leads next) (lives_at homes home) (is_at ends.first) (is_at ends.last)

-- each place that a table names is one of so many
abbrev pub AreWithin : ℕ → List (Option ℕ) → Type 0
AreWithin count table = (place to : ℕ) → leads table place ≡ Some to → to < count

-- what is said of the rank of a place: it has that rank, or none
abbrev pub RankIs : List (Option ℕ) → List Bool → ℕ → Option ℕ → Type 0
RankIs up goals place (Some rank) = HasRank (leads up) (marked goals) place rank
RankIs up goals place None = (rank : ℕ) → HasRank (leads up) (marked goals) place rank → ⊥

-- the ends that a table gives for a home
abbrev pub ends_at : List (Option ChainEnds) → ℕ → Option ChainEnds
ends_at ends home = option_and_then (λ those. those) (slice_get ends home)
