-- How many claims on an object, and how many of them by its owner, are those that are asked for. A rule of this project.
use Rattle.std.specs.Prelude.{◌==◌, ◌&&◌, ℕ, Bool, if◌then◌else◌}
use Rattle.dwg_graph.specs.Graph.{Claim}

-- a claim is by that holder
abbrev pub by_holder : ℕ → Claim → Bool
by_holder holder claim = claim.holder == holder

-- so many claims, so many of them by the owner, are those that are asked for: one, by the owner, where that is Typed, and none where it isn't
abbrev pub by_counts : Bool → ℕ → ℕ → Bool
by_counts typed all own = if typed then (all == 1) && (own == 1) else all == 0
