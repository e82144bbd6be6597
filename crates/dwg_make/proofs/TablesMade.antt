-- Entries of tables fit and are written by few bits.
use Rattle.std.proofs.Common.{refl, ℕ, zero, suc, ◌^◌, ◌<◌, Bool, false, List, [], ◌∷◌, length, arith}
use Rattle.std.specs.Prelude.{map, replicate}
use Rattle.dwg_base.specs.declared.version.Version.TheVariants.{Ac1015}
use Rattle.dwg_base.specs.Bytes.{AreBytes}
use Rattle.dwg_grammar.specs.Codes.{ONE, rc}
use Rattle.dwg_grammar.specs.Combinators.{items, until, chain}
use Rattle.dwg_grammar.proofs.ByteRunLemmas.{values_of_bytes}
use Rattle.dwg_grammar.specs.ReferenceCodes.{reference}
use Rattle.dwg_tables.specs.declared.block_header.InsertMark.{InsertMark}
use Rattle.dwg_tables.specs.AppIdBody.{app_id_body}
use Rattle.dwg_tables.specs.BlockHeaderBody.{block_flags, block_content, newer_extras, count_of, target_of, block_header_body}
use Rattle.dwg_tables.specs.Entries.{entry_main, title_of}
use Rattle.dwg_tables.specs.InsertMarks.{mark_counts}
use Rattle.dwg_tables.specs.LayerBody.{layer_body}
use Rattle.dwg_tables.specs.LtypeBody.{ltype_main, ltype_body}
use Rattle.dwg_tables.specs.StyleBody.{style_form, style_body}
use Rattle.dwg_make.specs.Fixed.{header_of, style_of}
use Rattle.dwg_make.specs.Parts.{soft_pointer, hard_owner, hard_pointer, entry, ORIGIN}
use Rattle.dwg_make.proofs.CodeSizes.{Few, no_letters, both, loosely, rc_few, bs_few, bl_few, b_few, bd_few, bd3_few, items_few, ref_few}
use Rattle.dwg_make.proofs.PartsMade.{IsMade, IsWord, word_fits, word_few, ref_fits, no_word}

-- what every entry begins with
entry_reported : (name : List ℕ) → IsWord name → entry_main.IsValue (title_of (entry name))
unfolding entry_main
entry_reported name word = (word_fits name word, (tt, (omega arith, tt)))

entry_few : (name : List ℕ) → IsWord name → Few 294 (entry_main.short (title_of (entry name)))
unfolding entry_main
entry_few name word = both (word_few name word) (both (b_few false) (both (bs_few 0) (b_few false)))

-- a layer
pub layer_made : (base : ℕ) (name : List ℕ) (colour : ℕ) → IsWord name → colour < 2 ^ 16
    → IsMade (layer_body Ac1015 base) (record { entry = entry name; values = 0; colour = colour; plotstyle = hard_pointer 0; linetype = hard_pointer 0x16 })
unfolding layer_body
layer_made base name colour word small = record {
  fits = (
    (entry_reported name word, (omega arith, small)),
    (ref_fits base 5 0 (omega arith) (omega arith), (ref_fits base 5 0 (omega arith) (omega arith), ref_fits base 5 0x16 (omega arith) (omega arith))),
  );
  main = loosely 65536 (omega arith) (both (entry_few name word) (both (bs_few 0) (bs_few colour)));
  refs = loosely 65536 (omega arith) (both (ref_few base (hard_pointer 0)) (both (ref_few base (hard_pointer 0)) (ref_few base (hard_pointer 0x16))));
}

-- a text style
pub style_made : (base : ℕ) (name font : List ℕ) → IsWord name → IsWord font
    → IsMade (style_body base) (style_of name font)
unfolding style_body style_form
style_made base name font word drawn = record {
  fits = (
    (
      entry_reported name word,
      (
        (tt, (tt, (omega arith, (omega arith, (omega arith, (omega arith, omega arith)))))),
        (word_fits font drawn, word_fits [] no_word),
      ),
    ),
    ref_fits base 5 0 (omega arith) (omega arith),
  );
  main = loosely 65536 (omega arith)
      (both (entry_few name word)
      (both (both (b_few false) (both (b_few false) (both (bd_few 0) (both (bd_few ONE) (both (bd_few 0) (both (rc_few 0) (bd_few 0)))))))
      (both (word_few font drawn) (word_few [] no_word))));
  refs = loosely 65536 (omega arith) (ref_few base (hard_pointer 0));
}

-- the name of an application
pub appid_made : (base : ℕ) (name : List ℕ) → IsWord name → IsMade (app_id_body base) (record { entry = entry name; extra = 0 })
unfolding app_id_body
appid_made base name word = record {
  fits = ((entry_reported name word, omega arith), ref_fits base 5 0 (omega arith) (omega arith));
  main = loosely 65536 (omega arith) (both (entry_few name word) (rc_few 0));
  refs = loosely 65536 (omega arith) (ref_few base (hard_pointer 0));
}

-- so many zero bytes are bytes
pub zeros_are_bytes : (count : ℕ) → AreBytes (replicate count 0)
zeros_are_bytes zero = tt
zeros_are_bytes (suc count) = (omega arith, zeros_are_bytes count)

-- a linetype without dashes
pub ltype_made : (base : ℕ) (name : List ℕ) → IsWord name
    → IsMade (ltype_body base) (record { entry = entry name; description = []; length = 0; alignment = 65; dashes = []; texts = replicate 256 0 })
unfolding ltype_body ltype_main chain
ltype_made base name word = record {
  fits = (
    (
      entry_reported name word,
      (word_fits [] no_word, (omega arith, (omega arith, ((omega arith, tt), (values_of_bytes 256 (replicate 256 0)).1 (refl, zeros_are_bytes 256))))),
    ),
    (ref_fits base 5 0 (omega arith) (omega arith), (refl, tt)),
  );
  main = loosely 65536 (omega arith)
      (both (entry_few name word)
      (both (word_few [] no_word)
      (both (bd_few 0)
      (both (rc_few 65)
      (both (both (rc_few 0) no_letters) (items_few rc 256 (replicate 256 0) 8 rc_few))))));
  refs = loosely 65536 (omega arith) (both (ref_few base (hard_pointer 0)) no_letters);
}

-- the content of a block without path, description and preview, by the counts of its marks
content_reported : (counts : List ℕ) → mark_counts.IsValue counts → (block_content Ac1015).IsValue (ORIGIN, ([], (counts, ([], []))))
unfolding block_content newer_extras
content_reported counts are =
    (record { x = omega arith; y = omega arith; z = omega arith }, (word_fits [] no_word, (are, (word_fits [] no_word, (omega arith, tt)))))

content_few : (counts : List ℕ) → Few 100 (mark_counts.short counts) → Few 880 ((block_content Ac1015).short (ORIGIN, ([], (counts, ([], [])))))
unfolding block_content newer_extras chain
content_few counts few = both (bd3_few ORIGIN) (both (word_few [] no_word) (both few (both (word_few [] no_word) (both (bl_few 0) no_letters))))

-- the header of a block whose marks fit and are written by few bits
pub header_made : (base : ℕ) (name : List ℕ) (has_attributes : Bool) (inserts : List InsertMark) (block first last endblk : ℕ) → IsWord name
    → mark_counts.IsValue (map count_of inserts) → Few 100 (mark_counts.short (map count_of inserts))
    → (items (reference base) (length (map count_of inserts))).IsValue (map target_of inserts)
    → Few 100 ((items (reference base) (length (map count_of inserts))).short (map target_of inserts))
    → block < 2 ^ 63 → first < 2 ^ 63 → last < 2 ^ 63 → endblk < 2 ^ 63
    → IsMade (block_header_body Ac1015 base) (header_of name has_attributes inserts block first last endblk)
unfolding block_header_body block_flags
header_made base name has_attributes inserts block first last endblk word are few named named_few a b c d = record {
  fits = (
    (entry_reported name word, ((tt, (tt, (tt, (tt, tt)))), content_reported (map count_of inserts) are)),
    (
      ref_fits base 5 0 (omega arith) (omega arith),
      (
        ref_fits base 3 block (omega arith) a,
        (
          (record { first = soft_pointer first; last = soft_pointer last }, refl, (ref_fits base 4 first (omega arith) b, ref_fits base 4 last (omega arith) c)),
          (ref_fits base 3 endblk (omega arith) d, (named, ref_fits base 5 0 (omega arith) (omega arith))),
        ),
      ),
    ),
  );
  main = loosely 65536 (omega arith)
      (both (entry_few name word)
      (both (both (b_few false) (both (b_few has_attributes) (both (b_few false) (both (b_few false) (b_few false)))))
      (content_few (map count_of inserts) few)));
  refs = loosely 65536 (omega arith)
      (both (ref_few base (hard_pointer 0))
      (both (ref_few base (hard_owner block))
      (both (both (ref_few base (soft_pointer first)) (ref_few base (soft_pointer last)))
      (both (ref_few base (hard_owner endblk)) (both named_few (ref_few base (hard_pointer 0)))))));
}

-- no marks, and one
pub unmarked : (mark_counts.IsValue []) × Few 100 (mark_counts.short [])
unfolding mark_counts until
unmarked = (tt, loosely 100 (omega arith) (rc_few 0))

pub marked_once : (mark_counts.IsValue (1 ∷ [])) × Few 100 (mark_counts.short (1 ∷ []))
unfolding mark_counts until
marked_once = ((record { some = omega arith; few = omega arith }, tt), loosely 100 (omega arith) (both (both (rc_few 1) no_letters) (rc_few 0)))

pub unnamed : (base : ℕ) → ((items (reference base) 0).IsValue []) × Few 100 ((items (reference base) 0).short [])
unfolding chain
unnamed base = ((refl, tt), loosely 100 (omega arith) no_letters)

pub named_once : (base target : ℕ) → target < 2 ^ 63
    → ((items (reference base) 1).IsValue (soft_pointer target ∷ [])) × Few 100 ((items (reference base) 1).short (soft_pointer target ∷ []))
unfolding chain
named_once base target small = ((refl, (ref_fits base 4 target (omega arith) small, tt)), loosely 100 (omega arith) (both (ref_few base (soft_pointer target)) no_letters))
