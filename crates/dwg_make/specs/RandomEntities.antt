-- The entities of a made drawing that follow its fixed objects, drawn by random numbers. A rule of this project.
use Rattle.std.specs.Prelude.{ℕ, zero, suc, ◌+◌, ◌-◌, ◌%◌, ◌==◌, [], ◌∷◌, ◌++◌, Option, Some, None, codes, decimal, if◌then◌else◌}
use Rattle.dwg_grammar.specs.Codes.{UPWARD}
use Rattle.dwg_common.specs.declared.entity.Links.{Links}
use Rattle.dwg_object.specs.Objects.{ObjectValue}
use Rattle.dwg_object.specs.declared.body.Body.{Body}
use Rattle.dwg_object.specs.declared.body.Body.TheVariants as bodies
use Rattle.dwg_make.specs.Draws.{draw_of}
use Rattle.dwg_make.specs.Parts.{flat_point, point, links, model_entity, plain_text}
use Rattle.dwg_make.specs.declared.random.Draw.{Draw}

-- the type number and the body that a choice from 0 to 5 gives: LINE, POINT, CIRCLE, ARC, TEXT, LWPOLYLINE. The words are those of the second random number of the entity to the ninth
abbrev pub further_number : ℕ → ℕ
further_number zero = 19
further_number (suc zero) = 27
further_number (suc (suc zero)) = 18
further_number (suc (suc (suc zero))) = 17
further_number (suc (suc (suc (suc zero)))) = 1
further_number (suc (suc (suc (suc (suc choice))))) = 77

abbrev pub further_body : ℕ → ℕ → ℕ → ℕ → ℕ → ℕ → ℕ → ℕ → ℕ → ℕ → Body
further_body zero number w2 w3 w4 w5 w6 w7 w8 w9 =
    bodies.Line (record { start = point w2 w3 0; end = point w4 w5 0; thickness = 0; extrusion = UPWARD })
further_body (suc zero) number w2 w3 w4 w5 w6 w7 w8 w9 =
    bodies.Point (record { place = point w2 w3 0; thickness = 0; extrusion = UPWARD; angle = 0 })
further_body (suc (suc zero)) number w2 w3 w4 w5 w6 w7 w8 w9 =
    bodies.Circle (record { centre = point w2 w3 0; radius = w4; thickness = 0; extrusion = UPWARD })
further_body (suc (suc (suc zero))) number w2 w3 w4 w5 w6 w7 w8 w9 =
    bodies.Arc (record { centre = point w2 w3 0; radius = w4; thickness = 0; extrusion = UPWARD; start_angle = w5; end_angle = w6 })
further_body (suc (suc (suc (suc zero)))) number w2 w3 w4 w5 w6 w7 w8 w9 =
    bodies.Text (plain_text (flat_point w2 w3) w4 (codes "T" ++ decimal number))
further_body (suc (suc (suc (suc (suc choice))))) number w2 w3 w4 w5 w6 w7 w8 w9 =
    bodies.LwPolyline (record {
      flag = 0;
      width = None;
      elevation = None;
      thickness = None;
      normal = None;
      points = flat_point w2 w3 ∷ flat_point w4 w5 ∷ flat_point w6 w7 ∷ flat_point w8 w9 ∷ [];
      bulges = None;
      widths = None;
    })

-- the handle of the further entity of a number from 1 on
abbrev pub further_handle : ℕ → ℕ
further_handle number = 0x30 + number

-- the links of the further entity of a number, where there are so many: the last alone has some
abbrev pub further_links : ℕ → ℕ → Option Links
further_links count number = if number == count then Some (links (further_handle number - 1) 0) else None

-- its layer: 10 for an odd number, 17 for an even one
abbrev pub further_layer : ℕ → ℕ
further_layer number = if number % 2 == 1 then 0x10 else 0x17

-- the body that a draw gives the entity of a number
abbrev pub drawn_body : ℕ → Draw → Body
drawn_body number draw = further_body draw.choice number draw.w2 draw.w3 draw.w4 draw.w5 draw.w6 draw.w7 draw.w8 draw.w9

-- the entity of a number that a draw gives, where there are so many
unfoldable pub drawn_entity : ℕ → ℕ → Draw → ObjectValue
drawn_entity count number draw =
    model_entity (further_number draw.choice) (further_handle number) (further_links count number) (further_layer number) (drawn_body number draw)

-- the further entity of a number, where there are so many
unfoldable pub further_entity : ℕ → ℕ → ℕ → ObjectValue
further_entity count seed number = drawn_entity count number (draw_of seed number)
