-- Controls, dictionaries and records fit and are written by few bits.
use Rattle.std.proofs.Common.{refl, ℕ, ◌^◌, ◌≤◌, ◌<◌, List, [], ◌∷◌, length, arith}
use Rattle.dwg_base.specs.declared.version.Version.TheVariants.{Ac1015}
use Rattle.dwg_grammar.specs.Combinators.{chain}
use Rattle.dwg_grammar.specs.ToEnd.{AreValues}
use Rattle.dwg_grammar.specs.Reference.{Reference}
use Rattle.dwg_grammar.specs.ReferenceCodes.{reference}
use Rattle.dwg_dicts.specs.Dictionaries.{dictionary_body}
use Rattle.dwg_dicts.specs.Entries.{layer_control_body, style_control_body, appid_control_body}
use Rattle.dwg_dicts.specs.EntriesAndTwo.{block_control_body, ltype_control_body}
use Rattle.dwg_dicts.specs.XRecords.{xrecord_body}
use Rattle.dwg_make.specs.Parts.{soft_owner, hard_owner, soft_pointer}
use Rattle.dwg_make.proofs.CodeSizes.{no_letters, both, loosely, rc_few, bs_few, bl_few, refs_few, ref_few}
use Rattle.dwg_make.proofs.PartsMade.{IsMade, IsWord, word_fits, word_few, ref_fits}

-- a few references, each of which is reached
pub record AreFew (base : ℕ) (entries : List Reference) : Type 0 where
  pub short : length entries ≤ 16
  pub reached : AreValues (reference base) entries

-- one soft owner, and two
pub one_owner : (base target : ℕ) → target < 2 ^ 63 → AreFew base (soft_owner target ∷ [])
one_owner base target small = record { short = omega arith; reached = (ref_fits base 2 target (omega arith) small, tt) }

pub two_owners : (base target other : ℕ) → target < 2 ^ 63 → other < 2 ^ 63 → AreFew base (soft_owner target ∷ soft_owner other ∷ [])
two_owners base target other small few =
    record { short = omega arith; reached = (ref_fits base 2 target (omega arith) small, (ref_fits base 2 other (omega arith) few, tt)) }

-- controls that name their entries
pub layer_control_made : (base : ℕ) (entries : List Reference) → AreFew base entries → IsMade (layer_control_body base) (record { entries = entries })
unfolding layer_control_body chain
layer_control_made base entries are = record {
  fits = (omega (arith, are.short), (refl, are.reached));
  main = loosely 65536 (omega arith) (bl_few (length entries));
  refs = loosely 65536 (omega arith) (refs_few base (length entries) 16 entries are.short);
}

pub style_control_made : (base : ℕ) (entries : List Reference) → AreFew base entries → IsMade (style_control_body base) (record { entries = entries })
unfolding style_control_body chain
style_control_made base entries are = record {
  fits = (omega (arith, are.short), (refl, are.reached));
  main = loosely 65536 (omega arith) (bl_few (length entries));
  refs = loosely 65536 (omega arith) (refs_few base (length entries) 16 entries are.short);
}

pub appid_control_made : (base : ℕ) (entries : List Reference) → AreFew base entries → IsMade (appid_control_body base) (record { entries = entries })
unfolding appid_control_body chain
appid_control_made base entries are = record {
  fits = (omega (arith, are.short), (refl, are.reached));
  main = loosely 65536 (omega arith) (bl_few (length entries));
  refs = loosely 65536 (omega arith) (refs_few base (length entries) 16 entries are.short);
}

-- controls that name two more
pub block_control_made : (base : ℕ) (entries : List Reference) (model paper : ℕ) → AreFew base entries → model < 2 ^ 63 → paper < 2 ^ 63
    → IsMade (block_control_body base) (record { entries = entries; model = hard_owner model; paper = hard_owner paper })
unfolding block_control_body chain
block_control_made base entries model paper are one two = record {
  fits = (omega (arith, are.short), ((refl, are.reached), (ref_fits base 3 model (omega arith) one, ref_fits base 3 paper (omega arith) two)));
  main = loosely 65536 (omega arith) (bl_few (length entries));
  refs = loosely 65536 (omega arith)
      (both (refs_few base (length entries) 16 entries are.short) (both (ref_few base (hard_owner model)) (ref_few base (hard_owner paper))));
}

pub ltype_control_made : (base : ℕ) (entries : List Reference) (first second : ℕ) → AreFew base entries → first < 2 ^ 63 → second < 2 ^ 63
    → IsMade (ltype_control_body base) (record { entries = entries; first = hard_owner first; second = hard_owner second })
unfolding ltype_control_body chain
ltype_control_made base entries first second are one two = record {
  fits = (omega (arith, are.short), ((refl, are.reached), (ref_fits base 3 first (omega arith) one, ref_fits base 3 second (omega arith) two)));
  main = loosely 65536 (omega arith) (bl_few (length entries));
  refs = loosely 65536 (omega arith)
      (both (refs_few base (length entries) 16 entries are.short) (both (ref_few base (hard_owner first)) (ref_few base (hard_owner second))));
}

-- a dictionary of one item
pub dictionary_made : (base : ℕ) (name : List ℕ) (item : ℕ) → IsWord name → item < 2 ^ 63
    → IsMade (dictionary_body Ac1015 base) (record { cloning = 0; hard_owner = 0; items = record { name = name; target = soft_owner item } ∷ [] })
unfolding dictionary_body chain
dictionary_made base name item word small = record {
  fits = (((omega arith, (omega arith, omega arith)), (refl, (word_fits name word, tt))), (refl, (ref_fits base 2 item (omega arith) small, tt)));
  main = loosely 65536 (omega arith) (both (both (bl_few 1) (both (bs_few 0) (rc_few 0))) (both (word_few name word) no_letters));
  refs = loosely 65536 (omega arith) (both (ref_few base (soft_owner item)) no_letters);
}

-- a record of three bytes that names one object
pub xrecord_made : (base target : ℕ) → target < 2 ^ 63 → IsMade (xrecord_body Ac1015 base) (record { bytes = 1 ∷ 2 ∷ 3 ∷ []; cloning = 0; targets = soft_pointer target ∷ [] })
unfolding xrecord_body chain
xrecord_made base target small = record {
  fits = (((omega arith, (omega arith, (omega arith, (omega arith, tt)))), omega arith), (ref_fits base 4 target (omega arith) small, tt));
  main = loosely 65536 (omega arith) (both (both (bl_few 3) (both (rc_few 1) (both (rc_few 2) (both (rc_few 3) no_letters)))) (bs_few 0));
  refs = loosely 65536 (omega arith) (both (ref_few base (soft_pointer target)) no_letters);
}
