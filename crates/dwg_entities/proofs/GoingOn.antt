-- What is parsed of a body whose main bits go on after those of another, and which names the same: that one, and then what is after.
use Rattle.std.proofs.Common.{◌≡◌, refl, ◌∙◌, ℕ, Bool, List, Option, Some, None}
use Rattle.std.specs.Prelude.{option_map, option_and_then}
use Rattle.dwg_base.specs.declared.version.Version.{Version}
use Rattle.dwg_base.specs.declared.version.Version.TheVariants.{Ac1015}
use Rattle.dwg_grammar.specs.Codes.{tv}
use Rattle.dwg_grammar.specs.Grammar.{Grammar}
use Rattle.dwg_grammar.specs.ReferenceCodes.{reference}
use Rattle.dwg_entities.specs.declared.attdef.Attdef.{Attdef}
use Rattle.dwg_entities.specs.declared.attrib.Attrib.{Attrib}
use Rattle.dwg_entities.specs.declared.insert.Insert.{Insert}
use Rattle.dwg_entities.specs.declared.minsert.MInsert.{MInsert}
use Rattle.dwg_entities.specs.declared.text.Text.{Text}
use Rattle.dwg_entities.specs.AttdefBody.{attdef_body}
use Rattle.dwg_entities.specs.AttribBody.{attrib_more, attrib_main, attrib_of, attrib_body}
use Rattle.dwg_entities.specs.InsertBody.{Setting, insert_main, insert_refs, insert_of, insert_body}
use Rattle.dwg_entities.specs.MInsertBody.{minsert_more, minsert_main, minsert_body}
use Rattle.dwg_entities.specs.TextBody.{Inscription, text_main, text_of, text_body}

-- what is parsed after a body, and both put together
abbrev pub parse_after : {B V W : Type 0} → Grammar Bool B → (V → B → W) → Option (V × (List Bool × List Bool)) → Option (W × (List Bool × List Bool))
parse_after {B} {V} {W} more join found =
    option_and_then (λ (one : V × (List Bool × List Bool)). option_map (λ (after : B × List Bool). (join one.0 after.0, (after.1, one.1.1))) (more.parse one.1.0)) found

-- what is given before gives which references are parsed
parsed_first : {A B R V W : Type 0} (into : A → R → V) (join : V → B → W) (parsed : A) (after : Option (B × List Bool)) (named : A → Option (R × List Bool))
    → option_and_then {U = W × (List Bool × List Bool)} (λ (two : (A × B) × List Bool). option_map (λ (name : R × List Bool). (join (into two.0.0 name.0) two.0.1, (two.1, name.1))) (named two.0.0))
    (option_map (λ (one : B × List Bool). ((parsed, one.0), one.1)) after)
    ≡ option_and_then {U = W × (List Bool × List Bool)} (λ (one : B × List Bool). option_map (λ (name : R × List Bool). (join (into parsed name.0) one.0, (one.1, name.1))) (named parsed)) after
parsed_first into join parsed None named = refl
parsed_first into join parsed (Some one) named = refl

-- these may be parsed before what is after, or after it
either_first : {A B R V W : Type 0} (into : A → R → V) (join : V → B → W) (parsed : A) (main : List Bool) (after : Option (B × List Bool)) (name : Option (R × List Bool))
    → option_and_then {U = W × (List Bool × List Bool)} (λ (one : B × List Bool). option_map (λ (name : R × List Bool). (join (into parsed name.0) one.0, (one.1, name.1))) name) after
    ≡ option_and_then {U = W × (List Bool × List Bool)} (λ (one : V × (List Bool × List Bool)). option_map (λ (more : B × List Bool). (join one.0 more.0, (more.1, one.1.1))) after)
    (option_map (λ (name : R × List Bool). (into parsed name.0, (main, name.1))) name)
either_first into join parsed main None None = refl
either_first into join parsed main None (Some name) = refl
either_first into join parsed main (Some one) None = refl
either_first into join parsed main (Some one) (Some name) = refl

-- the main bits that are after the body before are those after what it gives
after_parsed : {A B R V W : Type 0} (more : Grammar Bool B) (into : A → R → V) (join : V → B → W) (parsed : A) (main : List Bool) (name : Option (R × List Bool))
    → option_and_then {U = W × (List Bool × List Bool)} (λ (one : V × (List Bool × List Bool)). option_map (λ (after : B × List Bool). (join one.0 after.0, (after.1, one.1.1))) (more.parse main))
    (option_map (λ (name : R × List Bool). (into parsed name.0, (main, name.1))) name)
    ≡ parse_after more join (option_map (λ (name : R × List Bool). (into parsed name.0, (main, name.1))) name)
after_parsed more into join parsed main None = refl
after_parsed more into join parsed main (Some name) = refl

goes_on : {A B R V W : Type 0} (more : Grammar Bool B) (into : A → R → V) (join : V → B → W) (read : Option (A × List Bool)) (named : A → Option (R × List Bool))
    → option_and_then (λ (two : (A × B) × List Bool). option_map (λ (name : R × List Bool). (join (into two.0.0 name.0) two.0.1, (two.1, name.1))) (named two.0.0))
    (option_and_then (λ (one : A × List Bool). option_map (λ (after : B × List Bool). ((one.0, after.0), after.1)) (more.parse one.1)) read)
    ≡ parse_after more join (option_and_then (λ (one : A × List Bool). option_map (λ (name : R × List Bool). (into one.0 name.0, (one.1, name.1))) (named one.0)) read)
goes_on more into join None named = refl
goes_on more into join (Some one) named =
    parsed_first into join one.0 (more.parse one.1) named ∙ either_first into join one.0 one.1 (more.parse one.1) (named one.0)
    ∙ after_parsed more into join one.0 one.1 (named one.0)

-- an attribute is parsed as its text and what is after
pub attrib_parsed : (version : Version) (base : ℕ) (main refs : List Bool)
    → (attrib_body version base).parse main refs
    ≡ parse_after attrib_more (λ (text : Text) (more : List ℕ × (ℕ × ℕ)). let attrib : Attrib = record { text = text; tag = more.0; length = more.1.0; flags = more.1.1 } in attrib)
    ((text_body version base).parse main refs)
unfolding attrib_body attrib_main text_body
attrib_parsed version base main refs =
    goes_on attrib_more text_of (λ (text : Text) (more : List ℕ × (ℕ × ℕ)). let attrib : Attrib = record { text = text; tag = more.0; length = more.1.0; flags = more.1.1 } in attrib)
    ((text_main version).parse main) (λ (parsed : Inscription). (reference base).parse refs)

-- and the definition of one as its attribute and what is after
pub attdef_parsed : (version : Version) (base : ℕ) (main refs : List Bool)
    → (attdef_body version base).parse main refs
    ≡ parse_after tv (λ (attrib : Attrib) (prompt : List ℕ). let attdef : Attdef = record { attrib = attrib; prompt = prompt } in attdef) ((attrib_body version base).parse main refs)
unfolding attdef_body attrib_body
attdef_parsed version base main refs =
    goes_on tv attrib_of (λ (attrib : Attrib) (prompt : List ℕ). let attdef : Attdef = record { attrib = attrib; prompt = prompt } in attdef)
    ((attrib_main version).parse main) (λ (parsed : Inscription × (List ℕ × (ℕ × ℕ))). (reference base).parse refs)

-- and an insert in columns and rows as its insert and what is after
pub minsert_parsed : (base : ℕ) (main refs : List Bool)
    → (minsert_body base).parse main refs
    ≡ parse_after minsert_more
    (λ (insert : Insert) (more : ℕ × (ℕ × (ℕ × ℕ))).
    let minsert : MInsert = record { insert = insert; columns = more.0; rows = more.1.0; column_spacing = more.1.1.0; row_spacing = more.1.1.1 } in minsert)
    ((insert_body Ac1015 base).parse main refs)
unfolding minsert_body minsert_main insert_body
minsert_parsed base main refs =
    goes_on minsert_more insert_of
    (λ (insert : Insert) (more : ℕ × (ℕ × (ℕ × ℕ))).
    let minsert : MInsert = record { insert = insert; columns = more.0; rows = more.1.0; column_spacing = more.1.1.0; row_spacing = more.1.1.1 } in minsert)
    ((insert_main Ac1015).parse main) (λ (parsed : Setting). (insert_refs base parsed.1.1.1.1).grammar.parse refs)
