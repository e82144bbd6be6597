-- The blocks of a made drawing, with what they hold, are valid and small.
use Rattle.std.proofs.Common.{refl, ℕ, ◌+◌, ◌^◌, ◌<◌, Bool, true, false, List, [], ◌∷◌, length, arith}
use Rattle.std.specs.Prelude.{codes, map}
use Rattle.std.specs.List.{AllByRecursion}
use Rattle.dwg_base.specs.declared.version.Version.TheVariants.{Ac1015}
use Rattle.dwg_grammar.specs.Codes.{ONE, UPWARD}
use Rattle.dwg_grammar.specs.Combinators.{items}
use Rattle.dwg_entities.specs.AttdefBody.{attdef_body}
use Rattle.dwg_entities.specs.AttribBody.{attrib_body}
use Rattle.dwg_entities.specs.BlockBody.{block_body}
use Rattle.dwg_entities.specs.Closing.{endblk_body, seqend_body}
use Rattle.dwg_entities.specs.InsertBody.{insert_body}
use Rattle.dwg_file.proofs.ObjectSize.{IsSmall}
use Rattle.dwg_grammar.specs.ReferenceCodes.{reference}
use Rattle.dwg_kinds.specs.Kinds.{TYPED_KINDS, fixed_kind_of, kind_at, is_entity_kind}
use Rattle.dwg_object.specs.declared.body.Body.TheVariants as bodies
use Rattle.dwg_object.specs.OwnBodies.{own_body}
use Rattle.dwg_shapes.specs.Lines.{line_body}
use Rattle.dwg_tables.specs.BlockHeaderBody.{count_of, target_of, block_header_body}
use Rattle.dwg_tables.specs.InsertMarks.{mark_counts}
use Rattle.dwg_tables.specs.declared.block_header.InsertMark.{InsertMark}
use Rattle.dwg_make.specs.Fixed.{block_header, begin_of, attribute_definition, line_of_block, attribute, insert, model_header, model_begin, model_end, model_space, paper_header, paper_begin, paper_end, paper_space, tag_header, tag_begin, tag_end, tag_block, attributes_end, tag_insert}
use Rattle.dwg_make.specs.Parts.{soft_pointer, flat_point, point, ORIGIN}
use Rattle.dwg_make.proofs.ObjectsMade.{BODY_BYTES}
use Rattle.dwg_make.proofs.CodeSizes.{Few}
use Rattle.dwg_make.proofs.FormsMade.{IsOwn, other_small, linked_small, paper_small, owned_small}
use Rattle.dwg_make.proofs.PartsMade.{IsWord, word_passed, no_word, variant_made}
use Rattle.dwg_make.proofs.ShapesMade.{line_made}
use Rattle.dwg_make.proofs.TablesMade.{header_made, unmarked, marked_once, unnamed, named_once}
use Rattle.dwg_make.proofs.TextsMade.{attrib_made, attdef_made, block_made, endblk_made, seqend_made, insert_made, point_fits}

-- the marks of a block fit and are written by few bits
record AreMarks (base : ℕ) (inserts : List InsertMark) : Type 0 where
  counts : mark_counts.IsValue (map count_of inserts)
  counts_few : Few 100 (mark_counts.short (map count_of inserts))
  targets : (items (reference base) (length (map count_of inserts))).IsValue (map target_of inserts)
  targets_few : Few 100 ((items (reference base) (length (map count_of inserts))).short (map target_of inserts))

no_marks : (base : ℕ) → AreMarks base []
no_marks base = record { counts = unmarked.0; counts_few = unmarked.1; targets = (unnamed base).0; targets_few = (unnamed base).1 }

one_mark : (base target : ℕ) → target < 2 ^ 63 → AreMarks base (record { count = 1; target = soft_pointer target } ∷ [])
one_mark base target small =
    record { counts = marked_once.0; counts_few = marked_once.1; targets = (named_once base target small).0; targets_few = (named_once base target small).1 }

-- the header of a block
header_small : (handle : ℕ) (name : List ℕ) (has_attributes : Bool) (inserts : List InsertMark) (block first last endblk : ℕ) → 0 < handle → handle < 2 ^ 32 → IsWord name → AreMarks handle inserts
    → block < 2 ^ 32 → first < 2 ^ 32 → last < 2 ^ 32 → endblk < 2 ^ 32 → IsSmall Ac1015 [] BODY_BYTES (block_header handle name has_attributes inserts block first last endblk)
unfolding block_header own_body kind_at fixed_kind_of TYPED_KINDS is_entity_kind
header_small handle name has_attributes inserts block first last endblk some small word are a b c d = other_small 49 handle 0x1 _ (omega arith) (record {
  low = omega arith;
  some = some;
  small = small;
  kind = refl;
  entity = refl;
  made = variant_made bodies.BlockHeader _ (block_header_body Ac1015 handle) _ refl
      (header_made handle name has_attributes inserts block first last endblk word are.counts are.counts_few are.targets are.targets_few
      (omega (arith, a)) (omega (arith, b)) (omega (arith, c)) (omega (arith, d)));
})

-- the begin of a block, its end, and the end of a sequence
begin_own : (handle : ℕ) (name : List ℕ) → 0 < handle → handle < 2 ^ 32 → IsWord name → IsOwn true 4 handle (begin_of name)
unfolding own_body kind_at fixed_kind_of TYPED_KINDS is_entity_kind
begin_own handle name some small word = record {
  low = omega arith;
  some = some;
  small = small;
  kind = refl;
  entity = refl;
  made = variant_made bodies.Block _ (block_body handle) _ refl (block_made handle name word);
}

end_own : (handle : ℕ) → 0 < handle → handle < 2 ^ 32 → IsOwn true 5 handle (bodies.EndBlk (record {}))
unfolding own_body kind_at fixed_kind_of TYPED_KINDS is_entity_kind
end_own handle some small = record {
  low = omega arith;
  some = some;
  small = small;
  kind = refl;
  entity = refl;
  made = variant_made bodies.EndBlk _ (endblk_body handle) _ refl (endblk_made handle);
}

seqend_own : (handle : ℕ) → 0 < handle → handle < 2 ^ 32 → IsOwn true 6 handle (bodies.SeqEnd (record {}))
unfolding own_body kind_at fixed_kind_of TYPED_KINDS is_entity_kind
seqend_own handle some small = record {
  low = omega arith;
  some = some;
  small = small;
  kind = refl;
  entity = refl;
  made = variant_made bodies.SeqEnd _ (seqend_body handle) _ refl (seqend_made handle);
}

-- both spaces
pub model_space_small : (count : ℕ) → count < 2 ^ 20 → AllByRecursion (IsSmall Ac1015 [] BODY_BYTES) (model_space count)
unfolding model_space model_header model_begin model_end
model_space_small count few =
    let name : IsWord (codes "*MODEL_SPACE") = word_passed (codes "*MODEL_SPACE") refl refl in (
      header_small 0x18 (codes "*MODEL_SPACE") false [] 0x19 0x30 (0x30 + count) 0x1A (omega arith) (omega arith) name (no_marks 0x18) (omega arith) (omega arith) (omega arith) (omega arith),
      (
        linked_small 4 0x19 0 0 0x10 (begin_of (codes "*MODEL_SPACE")) (omega arith) (omega arith) (omega arith) (begin_own 0x19 (codes "*MODEL_SPACE") (omega arith) (omega arith) name),
        (linked_small 5 0x1A 0 0 0x10 (bodies.EndBlk (record {})) (omega arith) (omega arith) (omega arith) (end_own 0x1A (omega arith) (omega arith)), tt),
      ),
    )

pub paper_space_small : AllByRecursion (IsSmall Ac1015 [] BODY_BYTES) paper_space
unfolding paper_space paper_header paper_begin paper_end
paper_space_small =
    let name : IsWord (codes "*PAPER_SPACE") = word_passed (codes "*PAPER_SPACE") refl refl in (
      header_small 0x1B (codes "*PAPER_SPACE") false [] 0x1C 0 0 0x1D (omega arith) (omega arith) name (no_marks 0x1B) (omega arith) (omega arith) (omega arith) (omega arith),
      (
        paper_small 4 0x1C (begin_of (codes "*PAPER_SPACE")) (begin_own 0x1C (codes "*PAPER_SPACE") (omega arith) (omega arith) name),
        (paper_small 5 0x1D (bodies.EndBlk (record {})) (end_own 0x1D (omega arith) (omega arith)), tt),
      ),
    )

-- what the block TAG holds
definition_small : IsSmall Ac1015 [] BODY_BYTES attribute_definition
unfolding attribute_definition own_body kind_at fixed_kind_of TYPED_KINDS is_entity_kind
definition_small = owned_small 3 0x22 0x20 0 0x23 _ (omega arith) (omega arith) (omega arith) (record {
  low = omega arith;
  some = omega arith;
  small = omega arith;
  kind = refl;
  entity = refl;
  made = variant_made bodies.Attdef _ (attdef_body Ac1015 0x22) _ refl
      (attdef_made 0x22 (flat_point 0 0) ONE [] (codes "NO") (codes "Number") (record { x = omega arith; y = omega arith }) (omega arith)
      no_word (word_passed (codes "NO") refl refl) (word_passed (codes "Number") refl refl));
})

line_small : IsSmall Ac1015 [] BODY_BYTES line_of_block
unfolding line_of_block own_body kind_at fixed_kind_of TYPED_KINDS is_entity_kind
line_small = owned_small 19 0x23 0x20 0x22 0 _ (omega arith) (omega arith) (omega arith) (record {
  low = omega arith;
  some = omega arith;
  small = omega arith;
  kind = refl;
  entity = refl;
  made = variant_made bodies.Line _ (line_body Ac1015 0x23) _ refl
      (line_made 0x23 (record { start = ORIGIN; end = point ONE 0 0; thickness = 0; extrusion = UPWARD })
      (point_fits 0 0 0 (omega arith) (omega arith) (omega arith)) (point_fits ONE 0 0 (omega arith) (omega arith) (omega arith)) (omega arith)
      (point_fits 0 0 ONE (omega arith) (omega arith) (omega arith)));
})

pub tag_block_small : AllByRecursion (IsSmall Ac1015 [] BODY_BYTES) tag_block
unfolding tag_block tag_header tag_begin tag_end
tag_block_small =
    let name : IsWord (codes "TAG") = word_passed (codes "TAG") refl refl in (
      header_small 0x20 (codes "TAG") true (record { count = 1; target = soft_pointer 0x30 } ∷ []) 0x21 0x22 0x23 0x24 (omega arith) (omega arith) name (one_mark 0x20 0x30 (omega arith))
          (omega arith) (omega arith) (omega arith) (omega arith),
      (
        owned_small 4 0x21 0x20 0 0 (begin_of (codes "TAG")) (omega arith) (omega arith) (omega arith) (begin_own 0x21 (codes "TAG") (omega arith) (omega arith) name),
        (
          definition_small,
          (
            line_small,
            (owned_small 5 0x24 0x20 0 0 (bodies.EndBlk (record {})) (omega arith) (omega arith) (omega arith) (end_own 0x24 (omega arith) (omega arith)), tt),
          ),
        ),
      ),
    )

-- the insert, and what belongs to it
attribute_small : IsSmall Ac1015 [] BODY_BYTES attribute
unfolding attribute own_body kind_at fixed_kind_of TYPED_KINDS is_entity_kind
attribute_small = owned_small 2 0x2E 0x30 0 0 _ (omega arith) (omega arith) (omega arith) (record {
  low = omega arith;
  some = omega arith;
  small = omega arith;
  kind = refl;
  entity = refl;
  made = variant_made bodies.Attrib _ (attrib_body Ac1015 0x2E) _ refl
      (attrib_made 0x2E (flat_point 0 0) ONE (codes "A1") (codes "NO") (record { x = omega arith; y = omega arith }) (omega arith)
      (word_passed (codes "A1") refl refl) (word_passed (codes "NO") refl refl));
})

insert_small : IsSmall Ac1015 [] BODY_BYTES insert
unfolding insert own_body kind_at fixed_kind_of TYPED_KINDS is_entity_kind
insert_small = linked_small 7 0x30 0 0x31 0x10 _ (omega arith) (omega arith) (omega arith) (record {
  low = omega arith;
  some = omega arith;
  small = omega arith;
  kind = refl;
  entity = refl;
  made = variant_made bodies.Insert _ (insert_body Ac1015 0x30) _ refl (insert_made 0x30 0x20 0x2E 0x2F (omega arith) (omega arith) (omega arith));
})

pub tag_insert_small : AllByRecursion (IsSmall Ac1015 [] BODY_BYTES) tag_insert
unfolding tag_insert attributes_end
tag_insert_small = (
  attribute_small,
  (owned_small 6 0x2F 0x30 0 0 (bodies.SeqEnd (record {})) (omega arith) (omega arith) (omega arith) (seqend_own 0x2F (omega arith) (omega arith)), (insert_small, tt)),
)
