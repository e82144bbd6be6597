-- The entries of tables meet the laws of bodies.
use Rattle.std.proofs.Common.{◌≡◌, refl, ap, arith, ℕ, zero, suc, ◌*◌, ◌/◌, ◌%◌, ◌^◌, ◌<◌, true, false, List}
use Rattle.std.specs.Prelude.{◌==◌}
use Rattle.dwg_base.specs.declared.version.Version.{Version}
use Rattle.dwg_base.specs.declared.version.Version.TheVariants.{Ac1014, Ac1015}
use Rattle.dwg_grammar.specs.Codes.{b, bs}
use Rattle.dwg_grammar.proofs.VersionLemmas.{in_version_is_code}
use Rattle.dwg_grammar.specs.ReferenceCodes.{reference}
use Rattle.dwg_grammar.proofs.CombinatorLemmas.{struct_is_code}
use Rattle.dwg_tables.specs.declared.layer.Layer.{Layer}
use Rattle.dwg_grammar.specs.Combinators.{◌⋄◌, chain}
use Rattle.dwg_grammar.specs.Grammar.{IsCode, AnyLetters}
use Rattle.dwg_grammar.specs.Bodies.{IsBody}
use Rattle.dwg_grammar.specs.Reference.{Reference, reaches}
use Rattle.dwg_tables.specs.declared.ltype.Ltype.{Ltype}
use Rattle.dwg_tables.specs.AppIdBody.{app_id_body}
use Rattle.dwg_tables.specs.Entries.{entry_main}
use Rattle.dwg_tables.specs.LayerBody.{FourFlags, weight, all_weight, flags_in, layer_flags, layer_values, layer_body}
use Rattle.dwg_tables.specs.LtypeBody.{PatternParts, stroke, stroke_of, dash_of, style_of, ltype_main, ltype_refs, pattern_of, named_of_ltype, ltype_of, ltype_body}
use Rattle.dwg_common.specs.LawSets.{codes, bodies}
use Rattle.dwg_common.proofs.MemberLemmas.{parsed_of_joined, names_of_joined, joined_again}
use Rattle.dwg_tables.specs.StyleBody.{style_form, style_body}

-- the name of an application is a body
pub app_id_is_body : (base : ℕ) → base < 2 ^ 63 → IsBody base (app_id_body base)
unfolding app_id_body entry_main
app_id_is_body base small = search bodies depth 12

-- flags are given by their weight together, which is below 16
weight_parsed : (flags : FourFlags) → (all_weight flags < 16) × (flags_in (all_weight flags) ≡ flags)
weight_parsed (true, (true, (true, true))) = (omega arith, refl)
weight_parsed (true, (true, (true, false))) = (omega arith, refl)
weight_parsed (true, (true, (false, true))) = (omega arith, refl)
weight_parsed (true, (true, (false, false))) = (omega arith, refl)
weight_parsed (true, (false, (true, true))) = (omega arith, refl)
weight_parsed (true, (false, (true, false))) = (omega arith, refl)
weight_parsed (true, (false, (false, true))) = (omega arith, refl)
weight_parsed (true, (false, (false, false))) = (omega arith, refl)
weight_parsed (false, (true, (true, true))) = (omega arith, refl)
weight_parsed (false, (true, (true, false))) = (omega arith, refl)
weight_parsed (false, (true, (false, true))) = (omega arith, refl)
weight_parsed (false, (true, (false, false))) = (omega arith, refl)
weight_parsed (false, (false, (true, true))) = (omega arith, refl)
weight_parsed (false, (false, (true, false))) = (omega arith, refl)
weight_parsed (false, (false, (false, true))) = (omega arith, refl)
weight_parsed (false, (false, (false, false))) = (omega arith, refl)

-- the weight of a bit of a number
bit_weight : (bit one : ℕ) → bit < 2 → weight (bit == 1) one ≡ bit * one
bit_weight zero one small = omega arith
bit_weight (suc zero) one small = omega arith
bit_weight (suc (suc more)) one small = absurd (omega arith)

-- a number below 16 is the weight of its bits
weight_again : (values : ℕ) → values < 16 → all_weight (flags_in values) ≡ values
weight_again values small = omega (
  arith,
  small,
  bit_weight (values / 1 % 2) 1 (omega arith),
  bit_weight (values / 2 % 2) 2 (omega arith),
  bit_weight (values / 4 % 2) 4 (omega arith),
  bit_weight (values / 8 % 2) 8 (omega arith),
)

-- the values of a layer are a code
layer_flags_is_code : IsCode AnyLetters layer_flags
unfolding layer_flags
layer_flags_is_code =
    struct_is_code AnyLetters _ _ _ (b ⋄ b ⋄ b ⋄ b) (search codes depth 8) (λ flags any. (weight_parsed flags).0) (λ values small. (search, weight_again values small))
    (λ flags any. (weight_parsed flags).1)

layer_values_is_code : (version : Version) → IsCode AnyLetters (layer_values version)
layer_values_is_code version = in_version_is_code AnyLetters version layer_flags bs layer_flags_is_code (search codes)

-- a layer is a body
pub layer_is_body : (version : Version) (base : ℕ) → base < 2 ^ 63 → IsBody base (layer_body version base)
unfolding layer_body entry_main
layer_is_body version base small = search (bodies, layer_values_is_code) depth 12

-- what AC1014 can spell of one, AC1015 can
pub layer_narrower : (base : ℕ) (layer : Layer) → (layer_body Ac1014 base).Fits layer → (layer_body Ac1015 base).Fits layer
unfolding layer_body layer_flags reference
layer_narrower base layer fits =
    ((fits.0.0, (omega (arith, fits.0.1.0), fits.0.1.1)), (fits.1.0, (ap (reaches base) fits.1.1.0, fits.1.1.1)))

-- and a text style
pub style_is_body : (base : ℕ) → base < 2 ^ 63 → IsBody base (style_body base)
unfolding style_body entry_main style_form
style_is_body base small = search bodies depth 16

-- what the main bits of a dash give is a code
pub stroke_is_code : IsCode AnyLetters stroke
unfolding stroke
stroke_is_code = search codes depth 12

-- what is put together of a linetype is given by it
ltype_parsed : (base : ℕ) (parsed : PatternParts) (named : Reference × List Reference) → (ltype_refs base parsed).grammar.IsValue named
    → (pattern_of (ltype_of parsed named) ≡ parsed) × (named_of_ltype (ltype_of parsed named) ≡ named)
unfolding chain
ltype_parsed base parsed named names = (
  rw (parsed_of_joined dash_of stroke_of (λ one style. refl) parsed.1.1.1.1.0 named.1 names.1.0),
  rw (names_of_joined dash_of style_of (λ one style. refl) parsed.1.1.1.1.0 named.1 names.1.0),
)

-- and it is put together of these
ltype_again : (ltype : Ltype) → ltype_of (pattern_of ltype) (named_of_ltype ltype) ≡ ltype
ltype_again ltype = rw (joined_again dash_of stroke_of style_of (λ dash. refl) ltype.dashes)

-- a linetype is a body
pub ltype_is_body : (base : ℕ) → base < 2 ^ 63 → IsBody base (ltype_body base)
unfolding ltype_body ltype_main entry_main
ltype_is_body base small = search (bodies, stroke_is_code, ltype_parsed, ltype_again) depth 16
