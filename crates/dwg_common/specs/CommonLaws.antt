-- The common parts meet the laws of bodies.
use Rattle.std.proofs.Common.{◌≡◌, refl, sym, ◌∙◌, ap, ap₂, ℕ, ◌+◌, ◌^◌, ◌<◌, Bool, true, false, List, ◌++◌, length, Option, if◌then◌else◌, arith}
use Rattle.std.proofs.lemmas.List.{length-append}
use Rattle.std.specs.Prelude.{⊤, ◌==◌, is_some, is_none, not}
use Rattle.dwg_base.specs.declared.version.Version.{Version}
use Rattle.dwg_base.specs.declared.version.Version.TheVariants.{Ac1014, Ac1015}
use Rattle.dwg_grammar.specs.Codes.{rc, rl, b}
use Rattle.dwg_grammar.specs.Combinators.{always, restrict, seq, when, chain, counted}
use Rattle.dwg_grammar.specs.Grammar.{Grammar, IsCode, AnyLetters}
use Rattle.dwg_grammar.specs.Reference.{Reference}
use Rattle.dwg_common.specs.declared.app_data.AppData.{AppData}
use Rattle.dwg_common.specs.declared.entity.Links.{Links}
use Rattle.dwg_common.specs.declared.bit_layout.Layout.{Layout}
use Rattle.dwg_common.specs.BitSizes.{bit_size}
use Rattle.dwg_common.specs.Layouts.{NEWER, WritesAlike, older}
use Rattle.dwg_common.specs.declared.entity.EntityCommon.{EntityCommon}
use Rattle.dwg_common.specs.declared.object.ObjectCommon.{ObjectCommon}
use Rattle.dwg_grammar.proofs.NumberLemmas.{length_of_rl}
use Rattle.dwg_common.specs.Pictures.{graphic}
use Rattle.dwg_common.specs.AppListLaws.{app_list_is_code}
use Rattle.dwg_common.specs.LawSets.{codes, parts, bodies, versions}
use Rattle.dwg_grammar.specs.Bodies.{IsBody}
use Rattle.dwg_common.specs.Entities.{StartParts, LookParts, NamedParts, AfterDictionaryParts, links, entity_start, entity_look, linetype_flag_by, bylayer_of, newer_after_dictionary, older_after_dictionary, refs_after_dictionary, entity_refs, entity_of, start_of, look_of, named_of, entity_common}
use Rattle.dwg_common.specs.NonEntities.{object_refs, object_common}
use Rattle.dwg_grammar.specs.References.{IsReferencePart}
use Rattle.dwg_grammar.specs.Versions.{in_version, until_1014}
use Rattle.dwg_grammar.proofs.VersionLemmas.{in_version_is_code, in_version_is_part}
use Rattle.dwg_grammar.proofs.CombinatorLemmas.{always_is_code, restrict_is_code, struct_is_code}
use Rattle.std.proofs.lemmas.Bool.Decides.{Decides-eqb}
use Rattle.dwg_grammar.proofs.ReferenceParts.{seen_is_part}
use Rattle.dwg_grammar.proofs.Shaped.{shaped_is_code}

-- a value that is there by a test is there exactly where the test holds
pub there_by_test : {V : Type 0} (test : Bool) (code : Grammar Bool V) (value : Option V) → (when test code).IsValue value → is_some value ≡ test
there_by_test {V} true code value (inner, same, fits) = ap is_some same
there_by_test {V} false code value none = ap is_some none

-- a graphic is a code
pub graphic_is_code : IsCode AnyLetters graphic
unfolding graphic
graphic_is_code =
    shaped_is_code (λ parts. parts.1) (λ bytes. (is_some bytes, bytes)) (seq b (λ there. when there (counted rl rc))) (search codes depth 8)
    (λ parts fits. ap (λ (there : Bool). (there, parts.1)) (there_by_test parts.0 (counted rl rc) parts.1 fits.1)) (λ bytes. refl)

-- the links are a part of the references
pub links_is_part : (base : ℕ) → base < 2 ^ 63 → IsReferencePart base (links base)
links_is_part base small = search parts

-- what stands after the dictionary of an entity is, in the order of each version
newer_is_part : (base : ℕ) (nolinks : Bool) (linetype_flag plotstyle_flag : ℕ) → base < 2 ^ 63 → IsReferencePart base (newer_after_dictionary base nolinks linetype_flag plotstyle_flag)
newer_is_part base nolinks linetype_flag plotstyle_flag small = search (parts, links_is_part) depth 12

older_is_part : (base : ℕ) (nolinks : Bool) (linetype_flag plotstyle_flag : ℕ) → base < 2 ^ 63 → IsReferencePart base (older_after_dictionary base nolinks linetype_flag plotstyle_flag)
older_is_part base nolinks linetype_flag plotstyle_flag small = search (parts, links_is_part) depth 12

refs_after_dictionary_is_part : (version : Version) (base : ℕ) (nolinks : Bool) (linetype_flag plotstyle_flag : ℕ) → base < 2 ^ 63
    → IsReferencePart base (refs_after_dictionary version base nolinks linetype_flag plotstyle_flag)
refs_after_dictionary_is_part version base nolinks linetype_flag plotstyle_flag small =
    in_version_is_part base version _ (newer_after_dictionary base nolinks linetype_flag plotstyle_flag)
    (seen_is_part base _ _ (older_after_dictionary base nolinks linetype_flag plotstyle_flag) (older_is_part base nolinks linetype_flag plotstyle_flag small) (λ value. refl) (λ value. refl))
    (newer_is_part base nolinks linetype_flag plotstyle_flag small)

-- and so are all that an entity names
pub entity_refs_is_part : (version : Version) (base : ℕ) (parsed : StartParts × LookParts) → base < 2 ^ 63 → IsReferencePart base (entity_refs version base parsed)
entity_refs_is_part version base (start, look) small = search (parts, refs_after_dictionary_is_part) depth 16

-- the size of a layout, by a version
abbrev sized_by : Version → ℕ → Grammar Bool ℕ
sized_by version size = in_version version (restrict (λ parsed. parsed == size) rl) (always size)

size_value : (version : Version) (size : ℕ) → size < 2 ^ 32 → (sized_by version size).IsValue size
size_value Ac1014 size small = ((Decides-eqb size size).1 refl, small)
size_value Ac1015 size small = refl

size_parsed : (version : Version) (size parsed : ℕ) → (sized_by version size).IsValue parsed → parsed ≡ size
size_parsed Ac1014 size parsed fits = (Decides-eqb parsed size).0 fits.0
size_parsed Ac1015 size parsed fits = fits

-- the bit size is a code
pub bit_size_is_code : (layout : Layout) → layout.size < 2 ^ 32 → IsCode AnyLetters (bit_size layout)
bit_size_is_code layout small =
    struct_is_code AnyLetters (λ seen. ⊤) (λ parsed. tt) (λ seen. layout.size) (sized_by layout.version layout.size)
    (in_version_is_code AnyLetters layout.version (restrict (λ parsed. parsed == layout.size) rl) (always layout.size) (restrict_is_code AnyLetters (λ parsed. parsed == layout.size) rl (search codes)) (always_is_code AnyLetters layout.size))
    (λ parsed fits. tt) (λ seen any. (size_value layout.version layout.size small, refl)) (λ parsed fits. sym (size_parsed layout.version layout.size parsed fits))

-- where links are there by a test, they are missing where it fails
links_missing : (nolinks : Bool) (code : Grammar Bool Links) (value : Option Links) → (when (not nolinks) code).IsValue value → is_none value ≡ nolinks
links_missing true code value none = ap is_none none
links_missing false code value (inner, same, fits) = ap is_none same

-- the linetype is given alike in both versions
bylayer_parsed : (version : Version) (bylayer : Bool) (linetype_flag : ℕ) → (until_1014 version true b).IsValue bylayer → (linetype_flag_by version bylayer).IsValue linetype_flag
    → bylayer_of version linetype_flag ≡ bylayer
bylayer_parsed Ac1014 true flag bit parsed = ap (λ (n : ℕ). n == 0) parsed
bylayer_parsed Ac1014 false flag bit parsed = ap (λ (n : ℕ). n == 0) parsed
bylayer_parsed Ac1015 bylayer flag bit parsed = sym bit

-- what is put together of an entity is given by it
links_of : (version : Version) (base : ℕ) (nolinks : Bool) (linetype_flag plotstyle_flag : ℕ) (parts : AfterDictionaryParts)
    → (refs_after_dictionary version base nolinks linetype_flag plotstyle_flag).grammar.IsValue parts → (when (not nolinks) (links base).grammar).IsValue parts.0
links_of Ac1014 base nolinks linetype_flag plotstyle_flag parts names = names.1.1.0
links_of Ac1015 base nolinks linetype_flag plotstyle_flag parts names = names.0

entity_parsed : (layout : Layout) (base : ℕ) (parsed : StartParts × LookParts) (named : NamedParts)
    → (seq (entity_start layout base) (λ start. entity_look layout.version start.1.1.1.1.1.0)).IsValue parsed → (entity_refs layout.version base parsed).grammar.IsValue named
    → (◌≡◌ {A = StartParts × LookParts} (start_of layout.version (entity_of parsed named), look_of (entity_of parsed named)) parsed) × (named_of (entity_of parsed named) ≡ named)
unfolding chain
entity_parsed layout base ((app, (picture, (size, (mode, (count, (bylayer, nolinks)))))), look) named fits names = (
  ap₂ (λ (reactors : ℕ) (flags : Bool × Bool). let parts : StartParts × LookParts = ((app, (picture, (tt, (mode, (reactors, flags))))), look) in parts)
      names.1.0.0
      (ap₂ (λ (first second : Bool). (first, second)) (bylayer_parsed layout.version bylayer look.1.1.0 fits.0.1.1.1.1.1.0 fits.1.1.1.0)
      (links_missing nolinks (links base).grammar named.1.1.1.0 (links_of layout.version base nolinks look.1.1.0 look.1.1.1.0 named.1.1.1 names.1.1.1))),
  refl,
)

-- the common part of an entity is a body
pub entity_is_body : (layout : Layout) (base : ℕ) → layout.size < 2 ^ 32 → base < 2 ^ 63 → IsBody base (entity_common layout base)
unfolding entity_common
entity_is_body layout base few small = search (bodies, versions, bit_size_is_code, app_list_is_code, graphic_is_code, entity_refs_is_part, entity_parsed) depth 24

-- what is put together of another object is given by it
object_parsed : (base : ℕ) (parsed : List AppData × (⊤ × ℕ)) (named : Reference × (List Reference × Reference)) → (object_refs base parsed).grammar.IsValue named
    → (◌≡◌ {A = List AppData × (⊤ × ℕ)} (parsed.0, (tt, length named.1.0)) parsed) × (◌≡◌ {A = Reference × (List Reference × Reference)} (named.0, (named.1.0, named.1.1)) named)
unfolding chain
object_parsed base parsed named names = (ap (λ (count : ℕ). let parts : List AppData × (⊤ × ℕ) = (parsed.0, (tt, count)) in parts) names.1.0.0, refl)

-- and so is that of an object that is no entity
pub object_is_body : (layout : Layout) (base : ℕ) → layout.size < 2 ^ 32 → base < 2 ^ 63 → IsBody base (object_common layout base)
unfolding object_common
object_is_body layout base few small = search (bodies, bit_size_is_code, app_list_is_code, object_parsed) depth 8

-- a flag that is 0 or 3 is one of a BB
flag_fits : (bylayer : Bool) (flag : ℕ) → flag ≡ (if bylayer then 0 else 3) → flag < 2 ^ 2
flag_fits true flag same = omega (arith, same)
flag_fits false flag same = omega (arith, same)

-- what an entity can be in AC1014 it can be in AC1015
pub entity_narrower : (base : ℕ) (common : EntityCommon) → (entity_common (older 0) base).Fits common → (entity_common NEWER base).Fits common
unfolding entity_common
entity_narrower base common (
  ((app, (picture, (size, (mode, (reactors, (bylayer, nolinks)))))), (colour, (scale, (linetype_flag, (plotstyle_flag, (invisible, lineweight)))))),
  (owner, (watching, (xdict, (layer, (linetype, (neighbours, plotstyle)))))),
) = (
  (
    (app, (picture, (size, (mode, (reactors, (refl, nolinks)))))),
    (colour, (scale, (flag_fits (bylayer_of Ac1014 common.linetype_flag) common.linetype_flag linetype_flag, (omega (arith, plotstyle_flag), (invisible, omega (arith, lineweight)))))),
  ),
  (owner, (watching, (xdict, (neighbours, (layer, (linetype, plotstyle)))))),
)

-- lists that differ in a part are as long where the parts are
longer : (prefix part other : List Bool) → length part ≡ length other → length (prefix ++ part) ≡ length (prefix ++ other)
longer prefix part other same = length-append prefix part ∙ ap (λ (n : ℕ). length prefix + n) same ∙ sym (length-append prefix other)

further : (part other suffix : List Bool) → length part ≡ length other → length (part ++ suffix) ≡ length (other ++ suffix)
further part other suffix same = length-append part suffix ∙ ap (λ (n : ℕ). n + length suffix) same ∙ sym (length-append other suffix)

-- a bit size is as long as another
as_long : (size : ℕ) → length (rl.short 0) ≡ length (rl.short size)
as_long size = length_of_rl 0 ∙ sym (length_of_rl size)

-- only the bit size itself depends on it
pub entity_sizes_alike : (size base : ℕ) (common : EntityCommon) → WritesAlike (entity_common (older 0) base) (entity_common (older size) base) common
unfolding entity_common
entity_sizes_alike size base common = record {
  fits = (λ fits. fits, λ fits. fits);
  main = search (further, longer, as_long) depth 8;
  references = refl;
}

-- what another object can be in AC1014 it can be in AC1015
pub object_narrower : (base : ℕ) (common : ObjectCommon) → (object_common (older 0) base).Fits common → (object_common NEWER base).Fits common
unfolding object_common
object_narrower base common fits = fits

pub object_sizes_alike : (size base : ℕ) (common : ObjectCommon) → WritesAlike (object_common (older 0) base) (object_common (older size) base) common
unfolding object_common
object_sizes_alike size base common = record {
  fits = (λ fits. fits, λ fits. fits);
  main = search (further, longer, as_long) depth 8;
  references = refl;
}
