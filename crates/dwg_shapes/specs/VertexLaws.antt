-- The points of a lightweight polyline are a code, and lists that are there by their counts give these.
use Rattle.std.proofs.Common.{◌≡◌, ◌∙◌, ap, ℕ, Bool, List, [], ◌∷◌, Option, Some, None}
use Rattle.std.specs.Prelude.{⊤}
use Rattle.dwg_base.specs.declared.version.Version.{Version}
use Rattle.dwg_base.specs.declared.version.Version.TheVariants.{Ac1014, Ac1015}
use Rattle.dwg_grammar.specs.Combinators.{chain, IsChain}
use Rattle.dwg_grammar.proofs.CombinatorLemmas.{any_letters_closed}
use Rattle.dwg_grammar.specs.Grammar.{Grammar, IsCode, AnyLetters}
use Rattle.dwg_grammar.proofs.ListLemmas.{chain_is_code}
use Rattle.dwg_common.specs.LawSets.{codes}
use Rattle.dwg_grammar.specs.declared.points.Point2.{Point2}
use Rattle.dwg_shapes.specs.LwPolylines.{vertex, before_next, vertices, width_pair, items_where, count_of}
use Rattle.dwg_grammar.specs.Points.{IsPoint2, rd2}
use Rattle.dwg_grammar.proofs.PointLemmas.{rd2_is_code, dd2_is_code}

-- the point before lies in the range of its type, where there is one
abbrev pub IsBefore : Option Point2 → Type 0
IsBefore None = ⊤
IsBefore (Some before) = IsPoint2 before

-- a point is a code after each point
vertex_is_code : (before : Option Point2) → IsBefore before → IsCode AnyLetters (vertex before)
vertex_is_code None is = rd2_is_code
vertex_is_code (Some before) is = dd2_is_code before is

-- and leads to a point that may stand before another
vertex_value : (before : Option Point2) (point : Point2) → (vertex before).IsValue point → IsPoint2 point
vertex_value None point fits = record { x = fits.0; y = fits.1 }
vertex_value (Some before) point fits = record { x = fits.0; y = fits.1 }

next_value : (version : Version) (point : Point2) → IsPoint2 point → IsBefore (before_next version point)
next_value Ac1014 point is = tt
next_value Ac1015 point is = is

-- so many points are a code
pub vertices_is_code : (version : Version) (count : ℕ) → IsCode AnyLetters (vertices version count)
vertices_is_code version count =
    chain_is_code AnyLetters vertex (before_next version) IsBefore None count any_letters_closed
    record { state_is_code = λ before is. vertex_is_code before is; next_is_state = λ before point is fits. next_value version point (vertex_value before point fits) } tt

-- a width is a code
pub width_pair_is_code : IsCode AnyLetters width_pair
width_pair_is_code = search codes

-- values that are there where there is a count give it
pub count_parsed : {V : Type 0} (code : Grammar Bool V) (count : Option ℕ) (values : Option (List V)) → (items_where code count).IsValue values
    → count_of values ≡ count
unfolding chain
count_parsed code (Some count) values (inner, same, fits) = ap count_of same ∙ ap (λ (many : ℕ). Some many) fits.0
count_parsed code None values none = ap count_of none

-- a point that is given against none is given against any
vertex_narrower : (before : Option Point2) (point : Point2) → rd2.IsValue point → (vertex before).IsValue point
vertex_narrower None point fits = fits
vertex_narrower (Some last) point fits = fits

-- and so are many
pub vertices_narrower : (before : Option Point2) (points : List Point2) → IsChain vertex (before_next Ac1014) None points → IsChain vertex (before_next Ac1015) before points
vertices_narrower before [] fits = tt
vertices_narrower before (point ∷ points) fits = (vertex_narrower before point fits.0, vertices_narrower (Some point) points fits.1)
