-- Texts, attributes, blocks and inserts fit and are written by few bits.
use Rattle.std.proofs.Common.{refl, ℕ, zero, suc, ◌^◌, ◌<◌, true, List, Some, arith}
use Rattle.dwg_base.specs.declared.version.Version.TheVariants.{Ac1015}
use Rattle.dwg_grammar.specs.Codes.{IsPoint3, UPWARD, ONE}
use Rattle.dwg_grammar.specs.declared.points.Point2.{Point2}
use Rattle.dwg_grammar.specs.declared.points.Point3.{Point3}
use Rattle.dwg_grammar.specs.Points.{IsPoint2}
use Rattle.dwg_entities.specs.declared.attrib.Attrib.{Attrib}
use Rattle.dwg_entities.specs.AttdefBody.{attdef_body}
use Rattle.dwg_entities.specs.AttribBody.{attrib_main, label_of, attrib_body}
use Rattle.dwg_entities.specs.BlockBody.{block_body}
use Rattle.dwg_entities.specs.Closing.{endblk_body, seqend_body}
use Rattle.dwg_entities.specs.InsertBody.{insert_body}
use Rattle.dwg_entities.specs.Scale.{newer_scale, scale_by}
use Rattle.dwg_entities.specs.TextBody.{flags_of, text_main, inscription_of, text_body}
use Rattle.dwg_make.specs.Parts.{soft_pointer, hard_owner, hard_pointer, plain_text, point, ORIGIN}
use Rattle.dwg_make.proofs.CodeSizes.{Few, no_letters, both, loosely, low_few, rc_few, bs_few, b_few, rd_few, dd_few, bd_few, bt_few, bd3_few, be_few, ref_few}
use Rattle.dwg_make.proofs.PartsMade.{IsMade, IsWord, word_fits, word_few, ref_fits}

-- the main bits of a text in a style
text_reported : (insertion : Point2) (height : ℕ) (text : List ℕ) → IsPoint2 insertion → height < 2 ^ 64 → IsWord text → (text_main Ac1015).IsValue (inscription_of (plain_text insertion height text))
unfolding text_main flags_of
text_reported insertion height text is high word = (
  omega arith,
  (
    (refl, ((is.x, is.y), (refl, (record { x = omega arith; y = omega arith; z = omega arith }, omega arith)))),
    ((refl, (refl, (high, refl))), (word_fits text word, (refl, (refl, refl)))),
  ),
)

-- and they are few
text_few : (insertion : Point2) (height : ℕ) (text : List ℕ) → IsWord text → Few 740 ((text_main Ac1015).short (inscription_of (plain_text insertion height text)))
unfolding text_main flags_of
text_few insertion height text word =
    loosely 740 (omega arith)
    (both (rc_few 255)
    (both (both no_letters (both (both (rd_few insertion.x) (rd_few insertion.y)) (both no_letters (both (be_few UPWARD) (bt_few 0)))))
    (both (both no_letters (both no_letters (both (rd_few height) no_letters)))
    (both (word_few text word) (both no_letters (both no_letters no_letters))))))

-- a text
pub text_made : (base : ℕ) (insertion : Point2) (height : ℕ) (text : List ℕ) → IsPoint2 insertion → height < 2 ^ 64 → IsWord text → IsMade (text_body Ac1015 base) (plain_text insertion height text)
unfolding text_body
text_made base insertion height text is high word = record {
  fits = (text_reported insertion height text is high word, ref_fits base 5 0x11 (omega arith) (omega arith));
  main = loosely 65536 (omega arith) (text_few insertion height text word);
  refs = loosely 65536 (omega arith) (ref_few base (hard_pointer 0x11));
}

-- an attribute of a text
abbrev attribute_of : Point2 → ℕ → List ℕ → List ℕ → Attrib
attribute_of insertion height text tag = record { text = plain_text insertion height text; tag = tag; length = 0; flags = 0 }

-- its main bits
attrib_reported : (insertion : Point2) (height : ℕ) (text tag : List ℕ) → IsPoint2 insertion → height < 2 ^ 64 → IsWord text → IsWord tag
    → (attrib_main Ac1015).IsValue (label_of (attribute_of insertion height text tag))
unfolding attrib_main
attrib_reported insertion height text tag is high word named = (text_reported insertion height text is high word, (word_fits tag named, (omega arith, omega arith)))

-- and they are few
attrib_few : (insertion : Point2) (height : ℕ) (text tag : List ℕ) → IsWord text → IsWord tag → Few 1040 ((attrib_main Ac1015).short (label_of (attribute_of insertion height text tag)))
unfolding attrib_main
attrib_few insertion height text tag word named = both (text_few insertion height text word) (both (word_few tag named) (both (bs_few 0) (rc_few 0)))

-- an attribute
pub attrib_made : (base : ℕ) (insertion : Point2) (height : ℕ) (text tag : List ℕ) → IsPoint2 insertion → height < 2 ^ 64 → IsWord text → IsWord tag
    → IsMade (attrib_body Ac1015 base) (record { text = plain_text insertion height text; tag = tag; length = 0; flags = 0 })
unfolding attrib_body
attrib_made base insertion height text tag is high word named = record {
  fits = (attrib_reported insertion height text tag is high word named, ref_fits base 5 0x11 (omega arith) (omega arith));
  main = loosely 65536 (omega arith) (attrib_few insertion height text tag word named);
  refs = loosely 65536 (omega arith) (ref_few base (hard_pointer 0x11));
}

-- the definition of an attribute
pub attdef_made : (base : ℕ) (insertion : Point2) (height : ℕ) (text tag prompt : List ℕ) → IsPoint2 insertion → height < 2 ^ 64 → IsWord text → IsWord tag → IsWord prompt
    → IsMade (attdef_body Ac1015 base) (record { attrib = record { text = plain_text insertion height text; tag = tag; length = 0; flags = 0 }; prompt = prompt })
unfolding attdef_body
attdef_made base insertion height text tag prompt is high word named asked = record {
  fits = ((attrib_reported insertion height text tag is high word named, word_fits prompt asked), ref_fits base 5 0x11 (omega arith) (omega arith));
  main = loosely 65536 (omega arith) (both (attrib_few insertion height text tag word named) (word_few prompt asked));
  refs = loosely 65536 (omega arith) (ref_few base (hard_pointer 0x11));
}

-- the begin of a block
pub block_made : (base : ℕ) (name : List ℕ) → IsWord name → IsMade (block_body base) (record { name = name })
unfolding block_body
block_made base name word = record {
  fits = (word_fits name word, refl);
  main = loosely 65536 (omega arith) (word_few name word);
  refs = loosely 65536 (omega arith) no_letters;
}

-- the end of a block, and of a sequence
pub endblk_made : (base : ℕ) → IsMade (endblk_body base) (record {})
unfolding endblk_body
endblk_made base = record { fits = (refl, refl); main = loosely 65536 (omega arith) no_letters; refs = loosely 65536 (omega arith) no_letters }

pub seqend_made : (base : ℕ) → IsMade (seqend_body base) (record {})
unfolding seqend_body
seqend_made base = record { fits = (refl, refl); main = loosely 65536 (omega arith) no_letters; refs = loosely 65536 (omega arith) no_letters }

-- a scale
scale_line : (tag : ℕ) (point : Point3) → Few 196 ((scale_by tag).short point)
scale_line zero point = both (rd_few point.x) (both (dd_few point.x point.y) (dd_few point.x point.z))
scale_line (suc zero) point = loosely 196 (omega arith) (both (dd_few ONE point.y) (dd_few ONE point.z))
scale_line (suc (suc zero)) point = loosely 196 (omega arith) (rd_few point.x)
scale_line (suc (suc (suc zero))) point = loosely 196 (omega arith) no_letters
scale_line (suc (suc (suc (suc tag)))) point = loosely 196 (omega arith) no_letters

scale_few : (point : Point3) → Few 198 (newer_scale.short point)
unfolding newer_scale
scale_few point = both (low_few 2 _) (scale_line _ point)

-- points have a spelling
pub point_fits : (x y z : ℕ) → x < 2 ^ 64 → y < 2 ^ 64 → z < 2 ^ 64 → IsPoint3 (point x y z)
point_fits x y z a b c = record { x = a; y = b; z = c }

-- so has a scale
scale_fits : (point : Point3) → IsPoint3 point → newer_scale.IsValue point
unfolding newer_scale
scale_fits point is = is

-- the insert of a block with one attribute
pub insert_made : (base block first seqend : ℕ) → block < 2 ^ 63 → first < 2 ^ 63 → seqend < 2 ^ 63
    → IsMade (insert_body Ac1015 base) (record {
      place = ORIGIN;
      scale = point ONE ONE ONE;
      rotation = 0;
      extrusion = UPWARD;
      block = hard_pointer block;
      attributes = Some (record { first = soft_pointer first; last = soft_pointer first; seqend = hard_owner seqend });
    })
unfolding insert_body
insert_made base block first seqend small near far = record {
  fits = (
    (
      point_fits 0 0 0 (omega arith) (omega arith) (omega arith),
      (
        scale_fits (point ONE ONE ONE) (point_fits ONE ONE ONE (omega arith) (omega arith) (omega arith)),
        (omega arith, (point_fits 0 0 ONE (omega arith) (omega arith) (omega arith), tt)),
      ),
    ),
    (
      ref_fits base 5 block (omega arith) small,
      (
        record { first = soft_pointer first; last = soft_pointer first; seqend = hard_owner seqend },
        refl,
        (ref_fits base 4 first (omega arith) near, (ref_fits base 4 first (omega arith) near, ref_fits base 3 seqend (omega arith) far)),
      ),
    ),
  );
  main = loosely 65536 (omega arith) (both (bd3_few ORIGIN) (both (scale_few (point ONE ONE ONE)) (both (bd_few 0) (both (bd3_few UPWARD) (b_few true)))));
  refs = loosely 65536 (omega arith)
      (both (ref_few base (hard_pointer block)) (both (ref_few base (soft_pointer first)) (both (ref_few base (soft_pointer first)) (ref_few base (hard_owner seqend)))));
}
