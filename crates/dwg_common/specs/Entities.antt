-- What all entities have (Open Design Specification, "Common entity data"). Which values of the mode there are is a rule of this project.
use Rattle.std.specs.Prelude.{⊤, ◌==◌, ℕ, Bool, true, List, length, Option, nat_lt, is_none, not, if◌then◌else◌}
use Rattle.dwg_base.specs.declared.version.Version.{Version}
use Rattle.dwg_base.specs.declared.version.Version.TheVariants.{Ac1014, Ac1015}
use Rattle.dwg_grammar.specs.Codes.{bb, rc, bs, bl, bd, b}
use Rattle.dwg_grammar.specs.Combinators.{seq, restrict}
use Rattle.dwg_grammar.specs.Grammar.{Grammar}
use Rattle.dwg_common.specs.declared.entity.EntityCommon.{EntityCommon}
use Rattle.dwg_common.specs.declared.entity.Links.{Links}
use Rattle.dwg_common.specs.declared.app_data.AppData.{AppData}
use Rattle.dwg_common.specs.declared.bit_layout.Layout.{Layout}
use Rattle.dwg_common.specs.AppList.{app_list}
use Rattle.dwg_common.specs.BitSizes.{bit_size}
use Rattle.dwg_common.specs.Pictures.{graphic}
use Rattle.dwg_grammar.specs.Versions.{since_1015, until_1014, refs_in_version}
use Rattle.dwg_grammar.specs.Reference.{Reference}
use Rattle.dwg_grammar.specs.Bodies.{BodyGrammar}
use Rattle.dwg_grammar.specs.MakingBodies.{body}
use Rattle.dwg_grammar.specs.References.{ReferencePart, one_ref, two_refs, some_refs, maybe_refs, then_refs, seen_refs}

-- BB: 0, 1 or 2
abbrev pub entity_mode : Grammar Bool ℕ
entity_mode = restrict (λ mode. nat_lt mode 3) bb

-- what the start of an entity gives, in the order of its bits
abbrev pub StartParts : Type 0
StartParts = List AppData × (Option (List ℕ) × (⊤ × (ℕ × (ℕ × (Bool × Bool)))))

-- application data; B graphic; the bit size; BB mode; BL count of reactors; in AC1014 B bylayer; B nolinks
abbrev pub entity_start : Layout → ℕ → Grammar Bool StartParts
entity_start layout base =
    seq (app_list base) (λ app. seq graphic (λ graphic. seq (bit_size layout) (λ size. seq entity_mode (λ mode. seq bl (λ reactors.
    seq (until_1014 layout.version true b) (λ bylayer. b))))))

-- how an entity looks, in the order of its bits
abbrev pub LookParts : Type 0
LookParts = ℕ × (ℕ × (ℕ × (ℕ × (ℕ × ℕ))))

-- BB linetype flag; in AC1014 it is given: 0 where it is by layer, else 3
abbrev pub linetype_flag_by : Version → Bool → Grammar Bool ℕ
linetype_flag_by version bylayer = since_1015 version (if bylayer then 0 else 3) bb

-- BS colour; BD linetype scale; the linetype flag; in AC1015 BB plotstyle flag; BS invisible; in AC1015 RC lineweight
abbrev pub entity_look : Version → Bool → Grammar Bool LookParts
entity_look version bylayer =
    seq bs (λ colour. seq bd (λ linetype_scale. seq (linetype_flag_by version bylayer) (λ linetype_flag.
    seq (since_1015 version 0 bb) (λ plotstyle_flag. seq bs (λ invisible. since_1015 version 0 rc)))))

-- previous, next
abbrev pub links : ℕ → ReferencePart Links
links base = seen_refs (λ parts. record { previous = parts.0; next = parts.1 }) (λ links. (links.previous, links.next)) (two_refs base)

-- what an entity names, in the order of its references
abbrev pub NamedParts : Type 0
NamedParts = Option Reference × (List Reference × (Reference × (Option Links × (Reference × (Option Reference × Option Reference)))))

-- what stands after the dictionary among them, in the order of AC1015
abbrev pub AfterDictionaryParts : Type 0
AfterDictionaryParts = Option Links × (Reference × (Option Reference × Option Reference))

-- previous and next where nolinks is 0; layer; linetype where its flag is 3; plotstyle where its flag is 3
abbrev pub newer_after_dictionary : ℕ → Bool → ℕ → ℕ → ReferencePart AfterDictionaryParts
newer_after_dictionary base nolinks linetype_flag plotstyle_flag =
    then_refs (maybe_refs (not nolinks) (links base)) (then_refs (one_ref base)
    (then_refs (maybe_refs (linetype_flag == 3) (one_ref base)) (maybe_refs (plotstyle_flag == 3) (one_ref base))))

-- in AC1014 layer; linetype where its flag is 3; previous and next where nolinks is 0
abbrev pub older_after_dictionary : ℕ → Bool → ℕ → ℕ → ReferencePart (Reference × (Option Reference × (Option Links × Option Reference)))
older_after_dictionary base nolinks linetype_flag plotstyle_flag =
    then_refs (one_ref base) (then_refs (maybe_refs (linetype_flag == 3) (one_ref base))
    (then_refs (maybe_refs (not nolinks) (links base)) (maybe_refs (plotstyle_flag == 3) (one_ref base))))

-- either
abbrev pub refs_after_dictionary : Version → ℕ → Bool → ℕ → ℕ → ReferencePart AfterDictionaryParts
refs_after_dictionary version base nolinks linetype_flag plotstyle_flag =
    refs_in_version version
    (seen_refs (λ parts. (parts.1.1.0, (parts.0, (parts.1.0, parts.1.1.1)))) (λ parts. (parts.1.0, (parts.1.1.0, (parts.0, parts.1.1.1))))
    (older_after_dictionary base nolinks linetype_flag plotstyle_flag))
    (newer_after_dictionary base nolinks linetype_flag plotstyle_flag)

-- owner where the mode is 0; reactors; xdict; what stands after these
abbrev pub entity_refs : Version → ℕ → StartParts × LookParts → ReferencePart NamedParts
entity_refs version base ((_, (_, (_, (mode, (reactors, (_, nolinks)))))), (_, (_, (linetype_flag, (plotstyle_flag, _))))) =
    then_refs (maybe_refs (mode == 0) (one_ref base))
    (then_refs (some_refs base reactors) (then_refs (one_ref base) (refs_after_dictionary version base nolinks linetype_flag plotstyle_flag)))

-- whether a linetype is given to be by layer: AC1015 gives nothing of it there
abbrev pub bylayer_of : Version → ℕ → Bool
bylayer_of Ac1014 linetype_flag = linetype_flag == 0
bylayer_of Ac1015 linetype_flag = true

-- what the main bits of an entity give, and what it names
abbrev pub start_of : Version → EntityCommon → StartParts
start_of version common =
    (common.app, (common.graphic, (tt, (common.mode, (length common.reactors, (bylayer_of version common.linetype_flag, is_none common.links))))))

abbrev pub look_of : EntityCommon → LookParts
look_of common = (common.colour, (common.linetype_scale, (common.linetype_flag, (common.plotstyle_flag, (common.invisible, common.lineweight)))))

abbrev pub after_dictionary : EntityCommon → AfterDictionaryParts
after_dictionary common = (common.links, (common.layer, (common.linetype, common.plotstyle)))

abbrev pub named_of : EntityCommon → NamedParts
named_of common = (common.owner, (common.reactors, (common.xdict, after_dictionary common)))

-- an entity's common part from these: that links are missing is given by the links
abbrev pub entity_of : StartParts × LookParts → NamedParts → EntityCommon
entity_of ((app, (picture, (size, (mode, (count, (bylayer, nolinks)))))), (colour, (linetype_scale, (linetype_flag, (plotstyle_flag, (invisible, lineweight))))))
    (owner, (reactors, (xdict, (neighbours, (layer, (linetype, plotstyle)))))) = record {
      app = app;
      graphic = picture;
      mode = mode;
      owner = owner;
      reactors = reactors;
      xdict = xdict;
      links = neighbours;
      colour = colour;
      linetype_scale = linetype_scale;
      linetype_flag = linetype_flag;
      linetype = linetype;
      plotstyle_flag = plotstyle_flag;
      plotstyle = plotstyle;
      invisible = invisible;
      lineweight = lineweight;
      layer = layer;
    }

-- the common part of an entity with this handle: what it begins with, then its look, and what it names
unfoldable pub entity_common : Layout → ℕ → BodyGrammar EntityCommon
entity_common layout base =
    body (seq (entity_start layout base) (λ start. entity_look layout.version start.1.1.1.1.1.0)) (entity_refs layout.version base) entity_of
    (λ common. (start_of layout.version common, look_of common)) named_of
