-- Kind by kind: what it has of its own is a body, and is of that kind.
use Rattle.std.proofs.Common.{◌≡◌, ℕ, ◌^◌, ◌<◌, Bool, true, false, List, rules}
use Rattle.dwg_base.specs.declared.version.Version.{Version}
use Rattle.dwg_base.specs.declared.version.Version.TheVariants.{Ac1014, Ac1015}
use Rattle.dwg_dicts.specs.DictLaws.{dictionary_narrower, xrecord_narrower}
use Rattle.dwg_entities.specs.BodiesLaws.{text_narrower, attrib_narrower, attdef_narrower, insert_narrower}
use Rattle.dwg_shapes.specs.ShapeLaws.{line_narrower, point_narrower, circle_narrower, arc_narrower, lwpolyline_narrower}
use Rattle.dwg_tables.specs.BlockHeaderLaws.{block_header_narrower}
use Rattle.dwg_tables.specs.TableLaws.{layer_narrower}
use Rattle.dwg_grammar.specs.Bodies.{IsBody}
use Rattle.dwg_grammar.proofs.BodyLemmas.{lawful_of_body}
use Rattle.dwg_grammar.proofs.MadeBodies.{variant_is_body}
use Rattle.dwg_grammar.proofs.VersionLemmas.{only_1015_is_body}
use Rattle.dwg_kinds.specs.declared.kind.Kind.TheVariants as kinds
use Rattle.dwg_kinds.specs.declared.kind.Kind.{Kind}
use Rattle.dwg_object.specs.OwnBodies.{body_kind, own_body, no_body, own_laws}
use Rattle.dwg_object.specs.declared.body.Body.{Body}
use Rattle.dwg_object.specs.OwnLaws.{OwnBodiesAreLawful}

-- what spells nothing is a body
no_is_body : {V : Type 0} (base : ℕ) → IsBody base (no_body {V = V})
no_is_body {V} base = record {
  sound = λ main main_left references references_left value found. absurd cc;
  complete = λ main main_left references references_left value spelled. absurd spelled;
  value = λ value main references over spelled. spelled;
  canonical = λ value over fits may. fits;
  least_main = λ value main references over spelled. absurd spelled;
  least_references = λ value main references over spelled. absurd spelled;
  listed = λ value main references over spelled. absurd spelled;
  respelled = λ value main references other over other_over spelled others may. spelled;
  padded = λ over few. tt;
}

-- a body is kept as a variant, in each version or in AC1015 alone, or there is none
ruleset kept_bodies = (own_laws, variant_is_body, only_1015_is_body, no_is_body)

-- what a kind has of its own is a body
pub own_is_body : (version : Version) (kind : Kind) (base : ℕ) → base < 2 ^ 63 → IsBody base (own_body version kind base)
unfolding own_body
own_is_body version kinds.Text base small = search kept_bodies depth 8
own_is_body version kind base small = search kept_bodies depth 8

-- what is spelled of a kind is of that kind
pub own_of_kind : (version : Version) (kind : Kind) (base : ℕ) (value : Body) (main references : List Bool) (over : ℕ) → (own_body version kind base).Spells value main references over → body_kind value ≡ kind
unfolding own_body
own_of_kind version kind base value main references over spelled = search rules

-- so it is
pub own_is_lawful : OwnBodiesAreLawful
own_is_lawful version kind base small = lawful_of_body base (own_body version kind base) (own_is_body version kind base small)

-- what AC1015 alone has isn't AC1014's
false_isnt_true : false ≡ true → ⊥
false_isnt_true same = cc

-- what AC1014 can spell of a kind, AC1015 can spell
pub own_narrower : (version : Version) (kind : Kind) (base : ℕ) (value : Body) → (own_body version kind base).Fits value → (own_body Ac1015 kind base).Fits value
unfolding own_body
own_narrower Ac1015 kind base value fits = fits
own_narrower Ac1014 kinds.Text base value fits = (fits.0, fits.1, text_narrower base fits.0 fits.2)
own_narrower Ac1014 kinds.Attrib base value fits = (fits.0, fits.1, attrib_narrower base fits.0 fits.2)
own_narrower Ac1014 kinds.Attdef base value fits = (fits.0, fits.1, attdef_narrower base fits.0 fits.2)
own_narrower Ac1014 kinds.Insert base value fits = (fits.0, fits.1, insert_narrower base fits.0 fits.2)
own_narrower Ac1014 kinds.Arc base value fits = (fits.0, fits.1, arc_narrower base fits.0 fits.2)
own_narrower Ac1014 kinds.Circle base value fits = (fits.0, fits.1, circle_narrower base fits.0 fits.2)
own_narrower Ac1014 kinds.Line base value fits = (fits.0, fits.1, line_narrower base fits.0 fits.2)
own_narrower Ac1014 kinds.Point base value fits = (fits.0, fits.1, point_narrower base fits.0 fits.2)
own_narrower Ac1014 kinds.LwPolyline base value fits = (fits.0, fits.1, lwpolyline_narrower base fits.0 fits.2)
own_narrower Ac1014 kinds.Dictionary base value fits = (fits.0, fits.1, dictionary_narrower base fits.0 fits.2)
own_narrower Ac1014 kinds.BlockHeader base value fits = (fits.0, fits.1, block_header_narrower base fits.0 fits.2)
own_narrower Ac1014 kinds.Layer base value fits = (fits.0, fits.1, layer_narrower base fits.0 fits.2)
own_narrower Ac1014 kinds.XRecord base value fits = (fits.0, fits.1, xrecord_narrower base fits.0 fits.2)
own_narrower Ac1014 kinds.MInsert base value fits = absurd (false_isnt_true fits.2.0)
own_narrower Ac1014 kinds.Vertex3d base value fits = absurd (false_isnt_true fits.2.0)
own_narrower Ac1014 kinds.Polyline3d base value fits = absurd (false_isnt_true fits.2.0)
own_narrower Ac1014 kinds.Face3d base value fits = absurd (false_isnt_true fits.2.0)
own_narrower Ac1014 kinds.Solid base value fits = absurd (false_isnt_true fits.2.0)
own_narrower Ac1014 kinds.Trace base value fits = absurd (false_isnt_true fits.2.0)
own_narrower Ac1014 kinds.Ellipse base value fits = absurd (false_isnt_true fits.2.0)
own_narrower Ac1014 kinds.Ray base value fits = absurd (false_isnt_true fits.2.0)
own_narrower Ac1014 kinds.XLine base value fits = absurd (false_isnt_true fits.2.0)
own_narrower Ac1014 kinds.Group base value fits = absurd (false_isnt_true fits.2.0)
own_narrower Ac1014 kind base value fits = fits
