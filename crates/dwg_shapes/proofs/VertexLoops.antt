-- Points of a light polyline: known, counted and written one after the other.
use Rattle.std.proofs.Common.{◌≡◌, refl, ℕ, ◌+◌, ◌≤◌, Bool, List, [], ◌∷◌, ◌++◌, length, drop, Option, Some, None}
use Rattle.std.specs.List.{AllByRecursion}
use Rattle.dwg_bits.specs.Sink.{Written, Extends}
use Rattle.dwg_base.specs.declared.version.Version.{Version}
use Rattle.dwg_grammar.specs.Combinators.{IsChain, short_chain, chain}
use Rattle.dwg_grammar.specs.declared.points.Point2.{Point2}
use Rattle.dwg_shapes.specs.LwPolylines.{vertex, before_next, vertices}
use Rattle.dwg_grammar.specs.Points.{IsPoint2}
use Rattle.dwg_shapes.proofs.Known.{IsKnownSoFar, all_known}

-- the points that are left are values, and what is written of them, after a point
abbrev pub AreLeft : Version → Option Point2 → List Point2 → Type 0
AreLeft version before left = IsChain vertex (before_next version) before left

abbrev pub short_left : Version → Option Point2 → List Point2 → List Bool
short_left version before left = short_chain vertex (before_next version) before left

-- a point has a spelling after each
any_vertex : (before : Option Point2) (point : Point2) → IsPoint2 point → (vertex before).IsValue point
any_vertex None point is = (is.x, is.y)
any_vertex (Some last) point is = (is.x, is.y)

-- and so have many
any_vertices : (version : Version) (before : Option Point2) (points : List Point2) → AllByRecursion IsPoint2 points → AreLeft version before points
any_vertices version before [] all = tt
any_vertices version before (point ∷ points) all = (any_vertex before point all.0, any_vertices version (before_next version point) points all.1)

-- points that are known are values
pub vertices_known : (version : Version) (points : List Point2) (i : ℕ) → length points ≤ i → IsKnownSoFar IsPoint2 points (drop i points) → (vertices version (length points)).IsValue points
unfolding chain
vertices_known version points i past so_far = (refl, any_vertices version None points (all_known IsPoint2 points i past so_far))

-- points are counted up to those that are left: so many bits so far and theirs are all
pub record AreCounted (version : Version) (points : List Point2) (before : Option Point2) (left : List Point2) (count : ℕ) : Type 0 where
  pub are : AreLeft version before left
  pub bits : length ((vertices version (length points)).short points) ≡ count + length (short_left version before left)

-- points are written up to those that are left: the sink grew by so many bits, and these and what is written of those that are left are what is written of all
pub record AreWrittenSoFar (version : Version) (points : List Point2) (before : Option Point2) (left : List Point2) (old now : Written) : Type 0 where
  pub are : AreLeft version before left
  pub done : List Bool
  pub grown : Extends old now done
  pub whole : (vertices version (length points)).short points ≡ done ++ short_left version before left
