-- Controls, dictionaries and records meet the laws of bodies.
use Rattle.std.proofs.Common.{◌≡◌, refl, sym, ◌∙◌, ap, ap₂, ℕ, ◌^◌, ◌<◌, List, length, arith}
use Rattle.dwg_base.specs.declared.version.Version.{Version}
use Rattle.dwg_base.specs.declared.version.Version.TheVariants.{Ac1014, Ac1015}
use Rattle.dwg_base.specs.Versions.{is_newer}
use Rattle.dwg_common.specs.LawSets.{codes, parts}
use Rattle.dwg_common.proofs.MemberLemmas.{joined_counted, parsed_of_joined, names_of_joined, joined_again}
use Rattle.dwg_grammar.specs.Codes.{bl, bs}
use Rattle.dwg_grammar.specs.Combinators.{chain}
use Rattle.dwg_grammar.proofs.TableLemmas.{bl_is_code, bs_is_code}
use Rattle.dwg_grammar.proofs.VersionLemmas.{given_is_code}
use Rattle.dwg_grammar.specs.Grammar.{IsCode, AnyLetters}
use Rattle.dwg_grammar.specs.Bodies.{IsBody}
use Rattle.dwg_grammar.proofs.MadeBodies.{body_is_body}
use Rattle.dwg_grammar.proofs.ToEndBodies.{to_end_is_body}
use Rattle.dwg_grammar.specs.References.{some_refs, IsReferencePart}
use Rattle.dwg_grammar.proofs.ReferenceParts.{some_is_part}
use Rattle.dwg_grammar.specs.Reference.{Reference}
use Rattle.dwg_dicts.specs.declared.dictionary.Dictionary.{Dictionary}
use Rattle.dwg_dicts.specs.declared.xrecord.XRecord.{XRecord}
use Rattle.dwg_dicts.specs.Cloning.{cloning}
use Rattle.dwg_dicts.specs.Dictionaries.{dictionary_main, names_of, targets_of, item_of, named_items, dictionary_body}
use Rattle.dwg_dicts.specs.Entries.{entries_body, layer_control_body, style_control_body, appid_control_body}
use Rattle.dwg_dicts.specs.EntriesAndTwo.{entries_and_two, two_more_body, block_control_body, ltype_control_body}
use Rattle.dwg_dicts.specs.XRecords.{xrecord_body}

-- entries that are seen as a control are a body, where control and entries follow from each other
pub entries_is_body : {V : Type 0} (base : ℕ) (into : List Reference → V) (entries_of : V → List Reference) → base < 2 ^ 63
    → ((entries : List Reference) → entries_of (into entries) ≡ entries) → ((control : V) → into (entries_of control) ≡ control) → IsBody base (entries_body into entries_of base)
unfolding chain
entries_is_body base into entries_of small forth back =
    body_is_body base bl (some_refs base) (λ count entries. into entries) (λ control. length (entries_of control)) entries_of bl_is_code
    (λ count fits. some_is_part base count small) (λ count entries fits are. (ap length (forth entries) ∙ are.0, forth entries)) back

-- a layer control is a body
pub layer_control_is_body : (base : ℕ) → base < 2 ^ 63 → IsBody base (layer_control_body base)
unfolding layer_control_body
layer_control_is_body base small = entries_is_body base _ _ small (λ entries. refl) (λ control. refl)

-- so is a style control
pub style_control_is_body : (base : ℕ) → base < 2 ^ 63 → IsBody base (style_control_body base)
unfolding style_control_body
style_control_is_body base small = entries_is_body base _ _ small (λ entries. refl) (λ control. refl)

-- and a control of applications
pub appid_control_is_body : (base : ℕ) → base < 2 ^ 63 → IsBody base (appid_control_body base)
unfolding appid_control_body
appid_control_is_body base small = entries_is_body base _ _ small (λ entries. refl) (λ control. refl)

-- entries and two more are a part of the references
pub entries_and_two_is_part : (base count : ℕ) → base < 2 ^ 63 → IsReferencePart base (entries_and_two base count)
entries_and_two_is_part base count small = search parts

-- they are a body where they are seen as a control, and control and references follow from each other
pub two_more_is_body : {V : Type 0} (base : ℕ) (into : List Reference × (Reference × Reference) → V) (named_of : V → List Reference × (Reference × Reference)) → base < 2 ^ 63
    → ((named : List Reference × (Reference × Reference)) → named_of (into named) ≡ named) → ((control : V) → into (named_of control) ≡ control)
    → IsBody base (two_more_body into named_of base)
unfolding chain
two_more_is_body base into named_of small forth back =
    body_is_body base bl (entries_and_two base) (λ count named. into named) (λ control. length (named_of control).0) named_of bl_is_code
    (λ count fits. entries_and_two_is_part base count small)
    (λ count named fits are. (ap (λ (all : List Reference × (Reference × Reference)). length all.0) (forth named) ∙ are.0.0, forth named)) back

-- a block control is a body
pub block_control_is_body : (base : ℕ) → base < 2 ^ 63 → IsBody base (block_control_body base)
unfolding block_control_body
block_control_is_body base small = two_more_is_body base _ _ small (λ named. refl) (λ control. refl)

-- so is a linetype control
pub ltype_control_is_body : (base : ℕ) → base < 2 ^ 63 → IsBody base (ltype_control_body base)
unfolding ltype_control_body
ltype_control_is_body base small = two_more_is_body base _ _ small (λ named. refl) (λ control. refl)

-- the cloning is a code
pub cloning_is_code : (version : Version) → IsCode AnyLetters (cloning version)
cloning_is_code version = given_is_code AnyLetters (is_newer version) 0 bs bs_is_code

-- what is put together of a dictionary is given by it
dictionary_is_parsed : (version : Version) (base : ℕ) (parsed : (ℕ × (ℕ × ℕ)) × List (List ℕ)) (named : List Reference) → (dictionary_main version).IsValue parsed → (some_refs base parsed.0.0).grammar.IsValue named
    → (◌≡◌ {A = (ℕ × (ℕ × ℕ)) × List (List ℕ)} ((length (named_items parsed.1 named), parsed.0.1), names_of (named_items parsed.1 named)) parsed)
    × (targets_of (named_items parsed.1 named) ≡ named)
unfolding chain
dictionary_is_parsed version base parsed named fits names =
    let as_many : length named ≡ length parsed.1 = names.0 ∙ sym fits.1.0 in (
      ap₂ (λ (count : ℕ) (all : List (List ℕ)). ((count, parsed.0.1), all)) (joined_counted item_of parsed.1 named as_many ∙ fits.1.0)
          (parsed_of_joined item_of (λ item. item.name) (λ name target. refl) parsed.1 named as_many),
      names_of_joined item_of (λ item. item.target) (λ name target. refl) parsed.1 named as_many,
    )

-- and it is put together of these
dictionary_again : (dictionary : Dictionary)
    → ◌≡◌ {A = Dictionary} (record { cloning = dictionary.cloning; hard_owner = dictionary.hard_owner; items = named_items (names_of dictionary.items) (targets_of dictionary.items) }) dictionary
dictionary_again dictionary = rw (joined_again item_of (λ item. item.name) (λ item. item.target) (λ item. refl) dictionary.items)

-- a dictionary is a body
pub dictionary_is_body : (version : Version) (base : ℕ) → base < 2 ^ 63 → IsBody base (dictionary_body version base)
unfolding dictionary_body
dictionary_is_body version base small =
    body_is_body base (dictionary_main version) (λ parsed. some_refs base parsed.0.0) _ _ _ (search (codes, cloning_is_code) depth 8) (λ parsed fits. some_is_part base parsed.0.0 small) (dictionary_is_parsed version base) dictionary_again

-- a record is a body
pub xrecord_is_body : (version : Version) (base : ℕ) → base < 2 ^ 63 → IsBody base (xrecord_body version base)
unfolding xrecord_body
xrecord_is_body version base small = search (to_end_is_body, codes, cloning_is_code) depth 8

-- what AC1014 can spell, AC1015 can spell
pub dictionary_narrower : (base : ℕ) (dictionary : Dictionary) → (dictionary_body Ac1014 base).Fits dictionary → (dictionary_body Ac1015 base).Fits dictionary
unfolding dictionary_body
dictionary_narrower base dictionary fits = (((fits.0.0.0, (omega (arith, fits.0.0.1.0), fits.0.0.1.1)), fits.0.1), fits.1)

pub xrecord_narrower : (base : ℕ) (xrecord : XRecord) → (xrecord_body Ac1014 base).Fits xrecord → (xrecord_body Ac1015 base).Fits xrecord
unfolding xrecord_body
xrecord_narrower base xrecord fits = ((fits.0.0, omega (arith, fits.0.1)), fits.1)
