-- The further entities of a made drawing are valid and small.
use Rattle.std.proofs.Common.{refl, ℕ, zero, suc, ◌+◌, ◌-◌, ◌*◌, ◌^◌, ◌<◌, Bool, true, false, [], ◌++◌, Some, None, arith}
use Rattle.std.specs.Prelude.{◌==◌, ◌%◌, codes, decimal, map, if◌then◌else◌}
use Rattle.std.specs.List.{AllByRecursion, range_with_len}
use Rattle.dwg_base.specs.declared.version.Version.TheVariants.{Ac1015}
use Rattle.dwg_grammar.specs.Codes.{UPWARD, ONE}
use Rattle.dwg_entities.specs.TextBody.{text_body}
use Rattle.dwg_file.proofs.ObjectSize.{IsSmall}
use Rattle.dwg_kinds.specs.Kinds.{TYPED_KINDS, fixed_kind_of, kind_at, is_entity_kind}
use Rattle.dwg_object.specs.declared.body.Body.{Body}
use Rattle.dwg_object.specs.declared.body.Body.TheVariants as bodies
use Rattle.dwg_object.specs.OwnBodies.{own_body}
use Rattle.dwg_shapes.specs.Arcs.{arc_body}
use Rattle.dwg_shapes.specs.Circles.{circle_body}
use Rattle.dwg_shapes.specs.Lines.{line_body}
use Rattle.dwg_shapes.specs.LwPolylines.{lwpolyline_body}
use Rattle.dwg_shapes.specs.Points.{point_body}
use Rattle.dwg_make.specs.Draws.{STATES_OF_ENTITY, draw_from}
use Rattle.dwg_make.specs.RandomEntities.{further_number, further_body, further_handle, further_layer, drawn_entity, further_entity}
use Rattle.dwg_make.specs.Parts.{flat_point, point, links, model_entity}
use Rattle.dwg_make.specs.Random.{next_state, state_at, word_of}
use Rattle.dwg_make.proofs.ObjectsMade.{BODY_BYTES}
use Rattle.dwg_make.proofs.CommonsMade.{unlinked}
use Rattle.dwg_make.proofs.FormsMade.{IsOwn, model_small, linked_small}
use Rattle.dwg_make.proofs.PartsMade.{numbered_word, variant_made}
use Rattle.dwg_make.proofs.ShapesMade.{line_made, point_made, circle_made, arc_made, lwpolyline_made}
use Rattle.dwg_make.proofs.TextsMade.{text_made, point_fits}

-- a state is a number of 32 bits, and a word has 64
state_small : (seed number : ℕ) → seed < 2 ^ 32 → state_at seed number < 2 ^ 32
unfolding state_at next_state
state_small seed zero small = small
state_small seed (suc number) small = omega arith

word_small : (state : ℕ) → state < 2 ^ 32 → word_of state < 2 ^ 64
word_small state small = omega arith

-- the number, the handle and the body of a further entity stand together
further_own : (choice number : ℕ) (word : ℕ → ℕ) → number < 10 ^ 7 → ((k : ℕ) → word k < 2 ^ 64)
    → IsOwn true (further_number choice) (further_handle number) (further_body choice number (word 2) (word 3) (word 4) (word 5) (word 6) (word 7) (word 8) (word 9))
unfolding own_body kind_at fixed_kind_of TYPED_KINDS is_entity_kind
further_own zero number word few small = record {
  low = omega arith;
  some = omega arith;
  small = omega arith;
  kind = refl;
  entity = refl;
  made = variant_made bodies.Line _ (line_body Ac1015 (further_handle number)) _ refl
      (line_made (further_handle number) (record { start = point (word 2) (word 3) 0; end = point (word 4) (word 5) 0; thickness = 0; extrusion = UPWARD })
      (point_fits (word 2) (word 3) 0 (small 2) (small 3) (omega arith)) (point_fits (word 4) (word 5) 0 (small 4) (small 5) (omega arith)) (omega arith)
      (point_fits 0 0 ONE (omega arith) (omega arith) (omega arith)));
}
further_own (suc zero) number word few small = record {
  low = omega arith;
  some = omega arith;
  small = omega arith;
  kind = refl;
  entity = refl;
  made = variant_made bodies.Point _ (point_body Ac1015 (further_handle number)) _ refl
      (point_made (further_handle number) (record { place = point (word 2) (word 3) 0; thickness = 0; extrusion = UPWARD; angle = 0 })
      (point_fits (word 2) (word 3) 0 (small 2) (small 3) (omega arith)) (omega arith) (point_fits 0 0 ONE (omega arith) (omega arith) (omega arith)) (omega arith));
}
further_own (suc (suc zero)) number word few small = record {
  low = omega arith;
  some = omega arith;
  small = omega arith;
  kind = refl;
  entity = refl;
  made = variant_made bodies.Circle _ (circle_body Ac1015 (further_handle number)) _ refl
      (circle_made (further_handle number) (record { centre = point (word 2) (word 3) 0; radius = word 4; thickness = 0; extrusion = UPWARD })
      (point_fits (word 2) (word 3) 0 (small 2) (small 3) (omega arith)) (small 4) (omega arith) (point_fits 0 0 ONE (omega arith) (omega arith) (omega arith)));
}
further_own (suc (suc (suc zero))) number word few small = record {
  low = omega arith;
  some = omega arith;
  small = omega arith;
  kind = refl;
  entity = refl;
  made = variant_made bodies.Arc _ (arc_body Ac1015 (further_handle number)) _ refl
      (arc_made (further_handle number)
      (record { centre = point (word 2) (word 3) 0; radius = word 4; thickness = 0; extrusion = UPWARD; start_angle = word 5; end_angle = word 6 })
      (point_fits (word 2) (word 3) 0 (small 2) (small 3) (omega arith)) (small 4) (omega arith) (point_fits 0 0 ONE (omega arith) (omega arith) (omega arith)) (small 5) (small 6));
}
further_own (suc (suc (suc (suc zero)))) number word few small = record {
  low = omega arith;
  some = omega arith;
  small = omega arith;
  kind = refl;
  entity = refl;
  made = variant_made bodies.Text _ (text_body Ac1015 (further_handle number)) _ refl
      (text_made (further_handle number) (flat_point (word 2) (word 3)) (word 4) (codes "T" ++ decimal number) (record { x = small 2; y = small 3 }) (small 4) (numbered_word number few));
}
further_own (suc (suc (suc (suc (suc choice))))) number word few small = record {
  low = omega arith;
  some = omega arith;
  small = omega arith;
  kind = refl;
  entity = refl;
  made = variant_made bodies.LwPolyline _ (lwpolyline_body Ac1015 (further_handle number)) _ refl
      (lwpolyline_made (further_handle number) (flat_point (word 2) (word 3)) (flat_point (word 4) (word 5)) (flat_point (word 6) (word 7)) (flat_point (word 8) (word 9))
      (record { x = small 2; y = small 3 }) (record { x = small 4; y = small 5 }) (record { x = small 6; y = small 7 }) (record { x = small 8; y = small 9 }));
}

-- an entity of the model space that has links or none
maybe_linked : (test : Bool) (number handle previous layer : ℕ) (value : Body) → previous < 2 ^ 32 → layer < 2 ^ 32 → IsOwn true number handle value
    → IsSmall Ac1015 [] BODY_BYTES (model_entity number handle (if test then Some (links previous 0) else None) layer value)
maybe_linked true number handle previous layer value near far is = linked_small number handle previous 0 layer value near (omega arith) far is
maybe_linked false number handle previous layer value near far is = model_small number handle None layer value (unlinked handle).0 (unlinked handle).1 far is

layer_low : (test : Bool) → (if test then 0x10 else 0x17) < 2 ^ 32
layer_low true = omega arith
layer_low false = omega arith

-- the entity of the draw from a state
drawn_small : (count number state : ℕ) → state < 2 ^ 32 → number < 10 ^ 7 → IsSmall Ac1015 [] BODY_BYTES (drawn_entity count number (draw_from state))
unfolding drawn_entity draw_from
drawn_small count number state small few =
    maybe_linked (number == count) (further_number (state_at state 1 % 6)) (further_handle number) (further_handle number - 1) (further_layer number) _ (omega arith)
    (layer_low (number % 2 == 1))
    (further_own (state_at state 1 % 6) number (λ k. word_of (state_at state k)) few (λ k. word_small _ (state_small state k small)))

-- a further entity
further_small : (count seed number : ℕ) → seed < 2 ^ 32 → number < 10 ^ 7 → IsSmall Ac1015 [] BODY_BYTES (further_entity count seed number)
unfolding further_entity
further_small count seed number small few =
    drawn_small count number (state_at seed (STATES_OF_ENTITY * (number - 1))) (state_small seed (STATES_OF_ENTITY * (number - 1)) small) few

-- and so many from a number on
pub all_further : (count seed from left : ℕ) → seed < 2 ^ 32 → from + left < 10 ^ 7 → AllByRecursion (IsSmall Ac1015 [] BODY_BYTES) (map (further_entity count seed) (range_with_len from left))
all_further count seed from zero small few = tt
all_further count seed from (suc left) small few = (further_small count seed from small (omega arith), all_further count seed (from + 1) left small (omega arith))
