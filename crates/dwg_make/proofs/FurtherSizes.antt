-- The further entities of a made drawing are written by few bytes, so that what is made is within the limit.
use Rattle.std.proofs.Common.{◌≡◌, refl, ap, ℕ, zero, suc, ◌+◌, ◌-◌, ◌*◌, ◌^◌, ◌<◌, ◌≤◌, Bool, true, false, List, [], ◌∷◌, ◌++◌, length, Option, Some, None, arith}
use Rattle.std.specs.Prelude.{◌==◌, ◌%◌, codes, decimal, map, nat_lt, if◌then◌else◌}
use Rattle.std.specs.List.{AllByRecursion, range_with_len}
use Rattle.std.proofs.lemmas.Fmt.{length-decimal-le}
use Rattle.std.proofs.lemmas.List.{length-append}
use Rattle.dwg_base.specs.declared.version.Version.TheVariants.{Ac1015}
use Rattle.dwg_bits.specs.Sink.{padding}
use Rattle.dwg_bits.specs.WholeBytes.{whole_bytes}
use Rattle.dwg_common.specs.AppList.{app_list}
use Rattle.dwg_common.specs.Entities as entities
use Rattle.dwg_common.specs.Layouts.{NEWER}
use Rattle.dwg_common.specs.Pictures.{graphic}
use Rattle.dwg_common.specs.declared.entity.Links.{Links}
use Rattle.dwg_entities.specs.TextBody.{flags_of, text_main, text_body}
use Rattle.dwg_file.specs.Canonical.{frames_bytes}
use Rattle.dwg_grammar.specs.Codes.{ONE, UPWARD, bs, bl}
use Rattle.dwg_grammar.specs.Combinators.{chain, until}
use Rattle.dwg_object.proofs.FormLaws.{length_of_frame}
use Rattle.dwg_object.proofs.LengthLemmas.{length_of_one}
use Rattle.dwg_object.specs.Forms.{common_part, entity_inside}
use Rattle.dwg_object.specs.Frames.{frame_bytes}
use Rattle.dwg_object.specs.Heads.{head}
use Rattle.dwg_object.specs.Objects.{ObjectValue}
use Rattle.dwg_object.specs.OwnBodies.{body_kind, own_body}
use Rattle.dwg_object.specs.Written.{body_bytes, common_main, common_refs, main_size, object_bits, own_main, own_refs, prefix_bits, refs_bits, written_head}
use Rattle.dwg_object.specs.declared.body.Body.{Body}
use Rattle.dwg_object.specs.declared.common.Common.{Common}
use Rattle.dwg_object.specs.declared.common.Common.TheVariants as commons
use Rattle.dwg_shapes.specs.Arcs.{arc_main, arc_body}
use Rattle.dwg_shapes.specs.Circles.{circle_body, circle_main}
use Rattle.dwg_shapes.specs.Lines.{line_main, line_body}
use Rattle.dwg_shapes.specs.LwPolylines.{vertex, lwpolyline_main, lwpolyline_body}
use Rattle.dwg_shapes.specs.Points.{point_main, point_body}
use Rattle.dwg_make.specs.Draws.{STATES_OF_ENTITY, draw_from}
use Rattle.dwg_make.specs.Parts.{entity_common, flat_point, hard_owner, hard_pointer, links, model_entity, point, soft_pointer}
use Rattle.dwg_make.specs.Random.{state_at, word_of}
use Rattle.dwg_make.specs.RandomEntities.{drawn_entity, further_body, further_entity, further_handle, further_layer, further_number}
use Rattle.dwg_make.proofs.CodeSizes.{Few, no_letters, both, loosely, low_few, rc_few, bs_few, bl_few, b_few, rd_few, bd_few, bt_none, bd3_few, be_upward, chain_few, low_ref_few, tv_few}
use Rattle.dwg_make.proofs.CommonsMade.{no_app, no_graphic}
use Rattle.dwg_make.proofs.ObjectsMade.{head_few, padded_few}
use Rattle.dwg_make.proofs.ShapesMade.{ends_few, vertex_few}

-- the own bits of a further entity, and its own references
pub record OwnFew (number handle : ℕ) (value : Body) : Type 0 where
  pub main : Few 540 (own_main Ac1015 handle value)
  pub refs : Few 40 (own_refs Ac1015 handle value)

further_few : (choice number : ℕ) (word : ℕ → ℕ) → number < 10 ^ 7
    → OwnFew (further_number choice) (further_handle number) (further_body choice number (word 2) (word 3) (word 4) (word 5) (word 6) (word 7) (word 8) (word 9))
unfolding own_body line_main point_main circle_main arc_main text_main text_body flags_of lwpolyline_main chain
further_few zero number word few = record {
  main = loosely 540 (omega arith) (both (ends_few (point (word 2) (word 3) 0) (point (word 4) (word 5) 0)) (both bt_none be_upward));
  refs = loosely 40 (omega arith) no_letters;
}
further_few (suc zero) number word few = record {
  main = loosely 540 (omega arith) (both (bd3_few (point (word 2) (word 3) 0)) (both bt_none (both be_upward (bd_few 0))));
  refs = loosely 40 (omega arith) no_letters;
}
further_few (suc (suc zero)) number word few = record {
  main = loosely 540 (omega arith) (both (bd3_few (point (word 2) (word 3) 0)) (both (bd_few (word 4)) (both bt_none be_upward)));
  refs = loosely 40 (omega arith) no_letters;
}
further_few (suc (suc (suc zero))) number word few = record {
  main = loosely 540 (omega arith)
      (both (bd3_few (point (word 2) (word 3) 0)) (both (bd_few (word 4)) (both bt_none (both be_upward (both (bd_few (word 5)) (bd_few (word 6)))))));
  refs = loosely 40 (omega arith) no_letters;
}
further_few (suc (suc (suc (suc zero)))) number word few =
    let short : length (decimal number) ≤ 7 = length-decimal-le 7 number (omega arith) few (omega arith) in
    record {
      main = loosely 540 (omega arith)
          (both (rc_few 255)
          (both (both no_letters (both (both (rd_few (word 2)) (rd_few (word 3))) (both no_letters (both be_upward bt_none))))
          (both (both no_letters (both no_letters (both (rd_few (word 4)) no_letters)))
          (both (tv_few 8 (codes "T" ++ decimal number) (omega (arith, short))) (both no_letters (both no_letters no_letters))))));
      refs = low_ref_few (further_handle number) 5 0x11 refl (omega arith);
    }
further_few (suc (suc (suc (suc (suc choice))))) number word few =
    let flag : Few 2 (bs.short 0) = both (low_few 2 2) no_letters in
    let count : Few 10 (bl.short 4) = both (low_few 2 1) (low_few 8 4) in
    record {
      main =
          both (both flag (both no_letters (both no_letters (both no_letters no_letters))))
          (both (both count (both no_letters no_letters))
          (both (chain_few vertex (λ point. Some point) None
          (flat_point (word 2) (word 3) ∷ flat_point (word 4) (word 5) ∷ flat_point (word 6) (word 7) ∷ flat_point (word 8) (word 9) ∷ []) 132 vertex_few) (both no_letters no_letters)));
      refs = loosely 40 (omega arith) no_letters;
    }

-- the common part of an entity of the model space that has links or none
pub record CommonFew (handle : ℕ) (common : Common) : Type 0 where
  pub main : Few 170 (common_main NEWER handle common)
  pub refs : Few 160 (common_refs NEWER handle common)

maybe_linked : (test : Bool) (handle previous layer : ℕ) → previous < 2 ^ 32 → layer < 2 ^ 32 → CommonFew handle (commons.Entity (entity_common 2 None (if test then Some (links previous 0) else None) layer))
unfolding entities.entity_common chain
maybe_linked true handle previous layer near low = record {
  main =
      both (both (no_app handle).1 (both no_graphic.1 (both no_letters (both (low_few 2 2) (both (bl_few 0) (both no_letters (b_few false)))))))
      (both (bs_few 256) (both (bd_few ONE) (both (low_few 2 0) (both (low_few 2 0) (both (bs_few 0) (rc_few 29))))));
  refs = both no_letters
      (both no_letters
      (both (low_ref_few handle 3 0 refl (omega arith))
      (both (both (low_ref_few handle 4 previous refl near) (low_ref_few handle 4 0 refl (omega arith)))
      (both (low_ref_few handle 5 layer refl low) (both no_letters no_letters)))));
}
maybe_linked false handle previous layer near low = record {
  main =
      both (both (no_app handle).1 (both no_graphic.1 (both no_letters (both (low_few 2 2) (both (bl_few 0) (both no_letters (b_few true)))))))
      (both (bs_few 256) (both (bd_few ONE) (both (low_few 2 0) (both (low_few 2 0) (both (bs_few 0) (rc_few 29))))));
  refs = loosely 160 (omega arith)
      (both no_letters
      (both no_letters
      (both (low_ref_few handle 3 0 refl (omega arith)) (both no_letters (both (low_ref_few handle 5 layer refl low) (both no_letters no_letters))))));
}

-- so the body of an object of such parts has at most 129 bytes
bits_few : (number handle : ℕ) (common : Common) (own refs : List Bool) → CommonFew handle common → Few 540 own → Few 40 refs → Few 1032 (object_bits Ac1015 number handle common own refs)
unfolding prefix_bits refs_bits
bits_few number handle common own refs parts few named =
    both (both (head_few (written_head Ac1015 number handle (main_size Ac1015 number handle common own))) (both parts.main few)) (both parts.refs named)

body_short : (number handle : ℕ) (common : Common) (own refs : List Bool) → CommonFew handle common → Few 540 own → Few 40 refs
    → length (whole_bytes (object_bits Ac1015 number handle common own refs ++ padding (object_bits Ac1015 number handle common own refs))) ≤ 129
body_short number handle common own refs parts few named =
    omega (arith, padded_few (object_bits Ac1015 number handle common own refs) 1032 (bits_few number handle common own refs parts few named))

layer_low : (test : Bool) → (if test then 0x10 else 0x17) < 2 ^ 32
layer_low true = omega arith
layer_low false = omega arith

drawn_short : (count number state : ℕ) → number < 10 ^ 7 → length (body_bytes Ac1015 (drawn_entity count number (draw_from state))) ≤ 129
unfolding drawn_entity draw_from
drawn_short count number state few =
    let own = further_few (state_at state 1 % 6) number (λ k. word_of (state_at state k)) few in
    body_short (further_number (state_at state 1 % 6)) (further_handle number) _ _ _
    (maybe_linked (number == count) (further_handle number) (further_handle number - 1) (further_layer number) (omega arith) (layer_low (number % 2 == 1))) own.main own.refs

further_short : (count seed number : ℕ) → number < 10 ^ 7 → length (body_bytes Ac1015 (further_entity count seed number)) ≤ 129
unfolding further_entity
further_short count seed number few = drawn_short count number (state_at seed (STATES_OF_ENTITY * (number - 1))) few

-- a frame of such a body has at most 133
frame_short : (object : ObjectValue) → length (body_bytes Ac1015 object) ≤ 129 → length (frame_bytes Ac1015 object) ≤ 133
frame_short object few =
    omega (arith, length_of_frame Ac1015 object, ap length (length_of_one (length (body_bytes Ac1015 object)) (omega (arith, few))))

-- so many from a number on
pub further_frames_short : (count seed from left : ℕ) → from + left < 10 ^ 7 → length (frames_bytes Ac1015 (map (further_entity count seed) (range_with_len from left))) ≤ 133 * left
further_frames_short count seed from zero few = omega arith
further_frames_short count seed from (suc left) few =
    let object : ObjectValue = further_entity count seed from in
    let others : List ObjectValue = map (further_entity count seed) (range_with_len (from + 1) left) in
    omega (
      arith,
      frame_short object (further_short count seed from (omega arith)),
      length-append (frame_bytes Ac1015 object) (frames_bytes Ac1015 others),
      further_frames_short count seed (from + 1) left (omega arith),
    )
