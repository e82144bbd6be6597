-- The bodies of further kinds meet the laws of bodies.
use Rattle.std.proofs.Common.{◌≡◌, refl, ap, ℕ, ◌^◌, ◌<◌, Bool, true, false, Option}
use Rattle.std.specs.Prelude.{not, is_none}
use Rattle.dwg_common.specs.LawSets.{codes, bodies}
use Rattle.dwg_grammar.specs.Codes.{bs}
use Rattle.dwg_grammar.specs.Combinators.{when, chain}
use Rattle.dwg_grammar.specs.Grammar.{IsCode, AnyLetters}
use Rattle.dwg_grammar.proofs.BodyLemmas.{free_of_body}
use Rattle.dwg_grammar.proofs.Shaped.{shaped_is_code}
use Rattle.dwg_grammar.specs.Bodies.{IsBody, IsFreeBody}
use Rattle.dwg_grammar.proofs.MadeBodies.{body_is_body, main_is_body}
use Rattle.dwg_grammar.specs.References.{some_refs}
use Rattle.dwg_grammar.proofs.ReferenceParts.{some_is_part}
use Rattle.dwg_more.specs.CornerLaws.{first_corner_is_code, dd3_is_code, dd3_of_read}
use Rattle.dwg_more.specs.Ellipses.{ellipse_main, ellipse_body}
use Rattle.dwg_more.specs.Faces.{face_parts, face_main, face_body}
use Rattle.dwg_more.specs.Groups.{group_main, group_body}
use Rattle.dwg_more.specs.Polylines.{polyline_body, vertex_main, vertex_body}
use Rattle.dwg_more.specs.Rays.{ray_main, ray_body, xline_main, xline_body}
use Rattle.dwg_more.specs.Solids.{solid_parts, solid_main, solid_body, trace_main, trace_body}

-- an ellipse
pub ellipse_is_body : (base : ℕ) → IsBody base (ellipse_body base)
unfolding ellipse_main
ellipse_is_body base = search bodies depth 12

pub ellipse_is_free : (base : ℕ) → base < 2 ^ 63 → IsFreeBody base (ellipse_body base)
ellipse_is_free base small = free_of_body base _ (ellipse_is_body base) (λ over. tt)

-- a ray
pub ray_is_body : (base : ℕ) → IsBody base (ray_body base)
unfolding ray_main
ray_is_body base = search bodies depth 12

pub ray_is_free : (base : ℕ) → base < 2 ^ 63 → IsFreeBody base (ray_body base)
ray_is_free base small = free_of_body base _ (ray_is_body base) (λ over. tt)

-- a line without ends
pub xline_is_body : (base : ℕ) → IsBody base (xline_body base)
unfolding xline_main
xline_is_body base = search bodies depth 12

pub xline_is_free : (base : ℕ) → base < 2 ^ 63 → IsFreeBody base (xline_body base)
xline_is_free base small = free_of_body base _ (xline_is_body base) (λ over. tt)

-- the parts of a solid are a code
solid_parts_is_code : IsCode AnyLetters solid_parts
solid_parts_is_code = search codes depth 20

-- a solid
pub solid_is_body : (base : ℕ) → IsBody base (solid_body base)
unfolding solid_main
solid_is_body base = search (bodies, solid_parts_is_code) depth 12

pub solid_is_free : (base : ℕ) → base < 2 ^ 63 → IsFreeBody base (solid_body base)
solid_is_free base small = free_of_body base _ (solid_is_body base) (λ over. tt)

-- a trace
pub trace_is_body : (base : ℕ) → IsBody base (trace_body base)
unfolding trace_main
trace_is_body base = search (bodies, solid_parts_is_code) depth 12

pub trace_is_free : (base : ℕ) → base < 2 ^ 63 → IsFreeBody base (trace_body base)
trace_is_free base small = free_of_body base _ (trace_is_body base) (λ over. tt)

-- the flags of a face give whether there are some
none_parsed : (no_flags : Bool) (invisible : Option ℕ) → (when (not no_flags) bs).IsValue invisible → is_none invisible ≡ no_flags
none_parsed true invisible none = ap (λ (one : Option ℕ). is_none one) none
none_parsed false invisible (inner, same, fits) = ap (λ (one : Option ℕ). is_none one) same

-- the main bits of a face are a code
face_is_code : IsCode AnyLetters face_main
unfolding face_main
face_is_code =
    shaped_is_code _ _ face_parts (search (codes, first_corner_is_code, dd3_is_code, dd3_of_read) depth 20)
    (λ parts fits. ap (λ (no_flags : Bool). (no_flags, parts.1)) (none_parsed parts.0 parts.1.1.1.1.1 fits.1.1.1.1.1)) (λ face. refl)

-- a face
pub face_is_body : (base : ℕ) → IsBody base (face_body base)
face_is_body base = main_is_body base face_main face_is_code

pub face_is_free : (base : ℕ) → base < 2 ^ 63 → IsFreeBody base (face_body base)
face_is_free base small = free_of_body base _ (face_is_body base) (λ over. tt)

-- a polyline in space
pub polyline_is_body : (base : ℕ) → base < 2 ^ 63 → IsBody base (polyline_body base)
unfolding polyline_body
polyline_is_body base small = search bodies depth 12

pub polyline_is_free : (base : ℕ) → base < 2 ^ 63 → IsFreeBody base (polyline_body base)
unfolding polyline_body
polyline_is_free base small = free_of_body base _ (polyline_is_body base small) (λ over. tt)

-- a vertex in space
pub vertex_is_body : (base : ℕ) → IsBody base (vertex_body base)
unfolding vertex_main
vertex_is_body base = search bodies depth 12

pub vertex_is_free : (base : ℕ) → base < 2 ^ 63 → IsFreeBody base (vertex_body base)
vertex_is_free base small = free_of_body base _ (vertex_is_body base) (λ over. tt)

-- a group
pub group_is_body : (base : ℕ) → base < 2 ^ 63 → IsBody base (group_body base)
unfolding group_body chain
group_is_body base small =
    body_is_body base group_main (λ parsed. some_refs base parsed.1.1.1) _ _ _ (search codes depth 12) (λ parsed fits. some_is_part base parsed.1.1.1 small)
    (λ parsed entries fits are. (ap (λ (count : ℕ). (parsed.0, (parsed.1.0, (parsed.1.1.0, count)))) are.0, refl)) (λ group. refl)

pub group_is_free : (base : ℕ) → base < 2 ^ 63 → IsFreeBody base (group_body base)
unfolding group_body
group_is_free base small = free_of_body base _ (group_is_body base small) (λ over. tt)

-- any bits may follow each of these bodies
pub ruleset bodies_are_free = (ellipse_is_free, ray_is_free, xline_is_free, solid_is_free, trace_is_free, face_is_free, polyline_is_free, vertex_is_free, group_is_free)
