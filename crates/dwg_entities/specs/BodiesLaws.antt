-- Texts, attributes and their definitions, inserts, and the begin and end of blocks meet the laws of bodies.
use Rattle.std.proofs.Common.{◌≡◌, refl, ap, ℕ, ◌^◌, ◌<◌, Bool, List, Option, arith}
use Rattle.dwg_base.specs.declared.version.Version.{Version}
use Rattle.dwg_base.specs.declared.version.Version.TheVariants.{Ac1014, Ac1015}
use Rattle.dwg_grammar.specs.Codes.{bs, tv}
use Rattle.dwg_grammar.proofs.CombinatorLemmas.{always_is_code}
use Rattle.dwg_grammar.proofs.BodyLemmas.{free_of_body}
use Rattle.dwg_common.specs.LawSets.{codes, parts, bodies, versions}
use Rattle.dwg_grammar.specs.Combinators.{◌⋄◌}
use Rattle.dwg_grammar.specs.Grammar.{IsCode, AnyLetters}
use Rattle.dwg_grammar.specs.Bodies.{IsBody, IsFreeBody}
use Rattle.dwg_common.specs.CommonLaws.{there_by_test}
use Rattle.dwg_grammar.proofs.MadeBodies.{body_is_body, main_is_body}
use Rattle.dwg_grammar.specs.References.{IsReferencePart, one_ref}
use Rattle.dwg_grammar.specs.Reference.{Reference}
use Rattle.dwg_entities.specs.AttdefBody.{attdef_body}
use Rattle.dwg_entities.specs.AttribBody.{attrib_main, attrib_body, attrib_of, label_of}
use Rattle.dwg_entities.specs.BlockBody.{block_body}
use Rattle.dwg_entities.specs.Closing.{endblk_main, endblk_body, seqend_main, seqend_body}
use Rattle.dwg_entities.specs.FlagLaws.{weight_parsed}
use Rattle.dwg_entities.specs.declared.attdef.Attdef.{Attdef}
use Rattle.dwg_entities.specs.declared.attrib.Attrib.{Attrib}
use Rattle.dwg_entities.specs.declared.insert.Attributes.{Attributes}
use Rattle.dwg_entities.specs.declared.insert.Insert.{Insert}
use Rattle.dwg_entities.specs.declared.text.Text.{Text}
use Rattle.dwg_entities.specs.InsertBody.{Setting, attributes, insert_refs, setting_of, insert_of, insert_body}
use Rattle.dwg_entities.specs.MInsertBody.{minsert_main, repeats_of, minsert_of, minsert_body}
use Rattle.dwg_entities.specs.ScaleLaws.{scale_is_code}
use Rattle.dwg_entities.specs.Scale.{newer_scale}
use Rattle.dwg_entities.specs.TextBody.{Inscription, word, aligned, flags_of, text_main, inscription_of, text_of, text_body}
use Rattle.dwg_entities.specs.TextLaws.{word_is_code, aligned_of_read, flags_small, inscription_narrower}

-- what the main bits of a text give is a code
text_main_is_code : (version : Version) → IsCode AnyLetters (text_main version)
unfolding text_main
text_main_is_code version = search (codes, versions, word_is_code, aligned_of_read) depth 20

-- the flags follow from the parts that they give
flags_parsed : (version : Version) (parsed : Inscription) (style : Reference) → (text_main version).IsValue parsed → flags_of (text_of parsed style) ≡ parsed.0
unfolding text_main flags_of
flags_parsed version (flags, ((elevation, (insertion, (alignment, after))), ((oblique, (rotation, (height, width))), (text, (generation, (horizontal, vertical)))))) style (small, (placed, (lettered, worded))) =
    omega (
      arith,
      flags_small version flags small,
      weight_parsed flags 0x01 (word version) elevation placed.0,
      weight_parsed flags 0x02 (aligned version insertion) alignment placed.1.1.0,
      weight_parsed flags 0x04 (word version) oblique lettered.0,
      weight_parsed flags 0x08 (word version) rotation lettered.1.0,
      weight_parsed flags 0x10 (word version) width lettered.1.1.1,
      weight_parsed flags 0x20 bs generation worded.1.0,
      weight_parsed flags 0x40 bs horizontal worded.1.1.0,
      weight_parsed flags 0x80 bs vertical worded.1.1.1,
    )

-- so a text gives what it was put together of
text_is_parsed : (version : Version) (parsed : Inscription) (style : Reference) → (text_main version).IsValue parsed → inscription_of (text_of parsed style) ≡ parsed
text_is_parsed version parsed style fits = ap (λ (flags : ℕ). let parts : Inscription = (flags, parsed.1) in parts) (flags_parsed version parsed style fits)

-- a text is a body
pub text_is_body : (version : Version) (base : ℕ) → base < 2 ^ 63 → IsBody base (text_body version base)
unfolding text_body
text_is_body version base small = search (bodies, text_main_is_code, text_is_parsed) depth 8

pub text_is_free : (version : Version) (base : ℕ) → base < 2 ^ 63 → IsFreeBody base (text_body version base)
unfolding text_body
text_is_free version base small = free_of_body base _ (text_is_body version base small) (λ over. tt)

-- what the main bits of an attribute give is a code
attrib_main_is_code : (version : Version) → IsCode AnyLetters (attrib_main version)
unfolding attrib_main
attrib_main_is_code version = search (codes, text_main_is_code) depth 20

-- and an attribute gives what it was put together of
attrib_is_parsed : (version : Version) (parsed : Inscription × (List ℕ × (ℕ × ℕ))) (style : Reference) → (attrib_main version).IsValue parsed → label_of (attrib_of parsed style) ≡ parsed
unfolding attrib_main
attrib_is_parsed version parsed style fits = ap (λ (text : Inscription). let parts : Inscription × (List ℕ × (ℕ × ℕ)) = (text, parsed.1) in parts) (text_is_parsed version parsed.0 style fits.0)

-- it is a body
pub attrib_is_body : (version : Version) (base : ℕ) → base < 2 ^ 63 → IsBody base (attrib_body version base)
unfolding attrib_body
attrib_is_body version base small = search (bodies, attrib_main_is_code, attrib_is_parsed) depth 8

pub attrib_is_free : (version : Version) (base : ℕ) → base < 2 ^ 63 → IsFreeBody base (attrib_body version base)
unfolding attrib_body
attrib_is_free version base small = free_of_body base _ (attrib_is_body version base small) (λ over. tt)

-- and so is its definition
pub attdef_is_body : (version : Version) (base : ℕ) → base < 2 ^ 63 → IsBody base (attdef_body version base)
unfolding attdef_body
attdef_is_body version base small =
    body_is_body base (attrib_main version ⋄ tv) (λ parsed. one_ref base) _ _ _ (search (codes, attrib_main_is_code) depth 20) (λ parsed fits. search parts)
    (λ parsed style fits names. (ap (λ (label : Inscription × (List ℕ × (ℕ × ℕ))). let parts : (Inscription × (List ℕ × (ℕ × ℕ))) × List ℕ = (label, parsed.1) in parts) (attrib_is_parsed version parsed.0 style fits.0), refl))
    (λ value. refl)

pub attdef_is_free : (version : Version) (base : ℕ) → base < 2 ^ 63 → IsFreeBody base (attdef_body version base)
unfolding attdef_body
attdef_is_free version base small = free_of_body base _ (attdef_is_body version base small) (λ over. tt)

-- the attributes of an insert are a part of the references
pub attributes_is_part : (base : ℕ) → base < 2 ^ 63 → IsReferencePart base (attributes base)
attributes_is_part base small = search parts

-- an insert gives what it was put together of: that it has attributes is given by these
setting_parsed : (base : ℕ) (parsed : Setting) (named : Reference × Option Attributes) → (insert_refs base parsed.1.1.1.1).grammar.IsValue named
    → setting_of (insert_of parsed named) ≡ parsed
setting_parsed base parsed named names =
    ap (λ (there : Bool). let setting : Setting = (parsed.0, (parsed.1.0, (parsed.1.1.0, (parsed.1.1.1.0, there)))) in setting)
    (there_by_test parsed.1.1.1.1 (attributes base).grammar named.1 names.1)

-- it is a body
pub insert_is_body : (version : Version) (base : ℕ) → base < 2 ^ 63 → IsBody base (insert_body version base)
unfolding insert_body
insert_is_body version base small = search (bodies, scale_is_code, setting_parsed) depth 20

pub insert_is_free : (version : Version) (base : ℕ) → base < 2 ^ 63 → IsFreeBody base (insert_body version base)
unfolding insert_body
insert_is_free version base small = free_of_body base _ (insert_is_body version base small) (λ over. tt)

-- one in columns and rows gives what it was put together of
repeats_parsed : (base : ℕ) (parsed : Setting × (ℕ × (ℕ × (ℕ × ℕ)))) (named : Reference × Option Attributes) → (insert_refs base parsed.0.1.1.1.1).grammar.IsValue named
    → repeats_of (minsert_of parsed named) ≡ parsed
repeats_parsed base parsed named names =
    ap (λ (setting : Setting). let parts : Setting × (ℕ × (ℕ × (ℕ × ℕ))) = (setting, parsed.1) in parts) (setting_parsed base parsed.0 named names)

-- it is a body
pub minsert_is_body : (base : ℕ) → base < 2 ^ 63 → IsBody base (minsert_body base)
unfolding minsert_body minsert_main
minsert_is_body base small = search (bodies, scale_is_code, repeats_parsed) depth 20

pub minsert_is_free : (base : ℕ) → base < 2 ^ 63 → IsFreeBody base (minsert_body base)
unfolding minsert_body
minsert_is_free base small = free_of_body base _ (minsert_is_body base small) (λ over. tt)

-- the begin of a block is a body
pub block_is_body : (base : ℕ) → base < 2 ^ 63 → IsBody base (block_body base)
unfolding block_body
block_is_body base small = search bodies depth 12

pub block_is_free : (base : ℕ) → base < 2 ^ 63 → IsFreeBody base (block_body base)
unfolding block_body
block_is_free base small = free_of_body base _ (block_is_body base small) (λ over. tt)

-- so is its end
pub endblk_is_body : (base : ℕ) → base < 2 ^ 63 → IsBody base (endblk_body base)
unfolding endblk_body
endblk_is_body base small = main_is_body base endblk_main (always_is_code AnyLetters _)

pub endblk_is_free : (base : ℕ) → base < 2 ^ 63 → IsFreeBody base (endblk_body base)
unfolding endblk_body
endblk_is_free base small = free_of_body base _ (endblk_is_body base small) (λ over. tt)

-- and the end of a sequence
pub seqend_is_body : (base : ℕ) → base < 2 ^ 63 → IsBody base (seqend_body base)
unfolding seqend_body
seqend_is_body base small = main_is_body base seqend_main (always_is_code AnyLetters _)

pub seqend_is_free : (base : ℕ) → base < 2 ^ 63 → IsFreeBody base (seqend_body base)
unfolding seqend_body
seqend_is_free base small = free_of_body base _ (seqend_is_body base small) (λ over. tt)

-- what AC1014 can spell, AC1015 can spell
pub text_narrower : (base : ℕ) (text : Text) → (text_body Ac1014 base).Fits text → (text_body Ac1015 base).Fits text
unfolding text_body
text_narrower base text fits = (inscription_narrower (inscription_of text) fits.0, fits.1)

pub attrib_narrower : (base : ℕ) (attrib : Attrib) → (attrib_body Ac1014 base).Fits attrib → (attrib_body Ac1015 base).Fits attrib
unfolding attrib_body attrib_main
attrib_narrower base attrib fits = ((inscription_narrower (inscription_of attrib.text) fits.0.0, fits.0.1), fits.1)

pub attdef_narrower : (base : ℕ) (attdef : Attdef) → (attdef_body Ac1014 base).Fits attdef → (attdef_body Ac1015 base).Fits attdef
unfolding attdef_body attrib_main
attdef_narrower base attdef fits = (((inscription_narrower (inscription_of attdef.attrib.text) fits.0.0.0, fits.0.0.1), fits.0.1), fits.1)

pub insert_narrower : (base : ℕ) (insert : Insert) → (insert_body Ac1014 base).Fits insert → (insert_body Ac1015 base).Fits insert
unfolding insert_body newer_scale
insert_narrower base insert fits = fits

-- any bits may follow each of these bodies
pub ruleset bodies_are_free = (text_is_free, attrib_is_free, attdef_is_free, insert_is_free, minsert_is_free, block_is_free, endblk_is_free, seqend_is_free)
