-- POLYLINE (3D) and VERTEX (3D) (Open Design Specification, "POLYLINE (3D)" and "VERTEX (3D)").
use Rattle.std.specs.Prelude.{ℕ, Bool}
use Rattle.dwg_grammar.specs.Codes.{rc, bd3}
use Rattle.dwg_grammar.specs.Combinators.{◌⋄◌, shaped}
use Rattle.dwg_grammar.specs.Grammar.{Grammar}
use Rattle.dwg_grammar.specs.Bodies.{BodyGrammar}
use Rattle.dwg_grammar.specs.MakingBodies.{body, main_body}
use Rattle.dwg_grammar.specs.References.{ReferencePart, one_ref, then_refs}
use Rattle.dwg_grammar.specs.Reference.{Reference}
use Rattle.dwg_more.specs.declared.polyline.Polyline3d.{Polyline3d}
use Rattle.dwg_more.specs.declared.vertex.Vertex3d.{Vertex3d}

-- RC flags a; RC flags b
abbrev pub polyline_main : Grammar Bool (ℕ × ℕ)
polyline_main = rc ⋄ rc

-- first, last, seqend
abbrev pub polyline_refs : ℕ → ReferencePart (Reference × (Reference × Reference))
polyline_refs base = then_refs (one_ref base) (then_refs (one_ref base) (one_ref base))

-- a polyline in space
unfoldable pub polyline_body : ℕ → BodyGrammar Polyline3d
polyline_body base =
    body polyline_main (λ parsed. polyline_refs base)
    (λ (flags_a, flags_b) (first, (last, seqend)). record { flags_a = flags_a; flags_b = flags_b; first = first; last = last; seqend = seqend })
    (λ polyline. (polyline.flags_a, polyline.flags_b)) (λ polyline. (polyline.first, (polyline.last, polyline.seqend)))

-- RC flags; 3BD place
unfoldable pub vertex_main : Grammar Bool Vertex3d
vertex_main = shaped (λ (flags, place). record { flags = flags; place = place }) (λ vertex. (vertex.flags, vertex.place)) (rc ⋄ bd3)

-- a vertex in space: no references
abbrev pub vertex_body : ℕ → BodyGrammar Vertex3d
vertex_body base = main_body vertex_main
