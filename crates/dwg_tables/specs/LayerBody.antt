-- A layer (Open Design Specification, "LAYER").
use Rattle.std.specs.Prelude.{ℕ, Bool, ◌+◌, ◌<◌, if◌then◌else◌}
use Rattle.dwg_base.specs.declared.version.Version.{Version}
use Rattle.dwg_grammar.specs.Codes.{b, bs}
use Rattle.dwg_grammar.specs.Combinators.{◌⋄◌, image}
use Rattle.dwg_grammar.specs.Flags.{has}
use Rattle.dwg_grammar.specs.Grammar.{Grammar}
use Rattle.dwg_grammar.specs.Versions.{in_version, ref_since_1015}
use Rattle.dwg_grammar.specs.Bodies.{BodyGrammar}
use Rattle.dwg_grammar.specs.MakingBodies.{body}
use Rattle.dwg_grammar.specs.References.{one_ref, then_refs}
use Rattle.dwg_tables.specs.declared.layer.Layer.{Layer}
use Rattle.dwg_tables.specs.Entries.{entry_main, title_of, entry_of}

-- the weight of a flag
abbrev pub weight : Bool → ℕ → ℕ
weight flag one = if flag then one else 0

-- four flags, in their order of weight 1, 2, 4, 8
abbrev pub FourFlags : Type 0
FourFlags = Bool × (Bool × (Bool × Bool))

abbrev pub all_weight : FourFlags → ℕ
all_weight (one, (two, (four, eight))) = weight one 1 + weight two 2 + weight four 4 + weight eight 8

abbrev pub flags_in : ℕ → FourFlags
flags_in values = (has values 1, (has values 2, (has values 4, has values 8)))

-- four Bs, as their weight together
unfoldable pub layer_flags : Grammar Bool ℕ
layer_flags = image (λ values. values < 16) all_weight flags_in (b ⋄ b ⋄ b ⋄ b)

-- BS values; in AC1014 four Bs, of weight 1, 2, 4 and 8
abbrev pub layer_values : Version → Grammar Bool ℕ
layer_values version = in_version version layer_flags bs

-- the entry's; the values; BS colour; and among the references xref, in AC1015 plotstyle, linetype
unfoldable pub layer_body : Version → ℕ → BodyGrammar Layer
layer_body version base =
    body (entry_main ⋄ layer_values version ⋄ bs)
    (λ parsed. then_refs (one_ref base) (then_refs (ref_since_1015 version base) (one_ref base)))
    (λ (title, (values, colour)) (xref, (plotstyle, linetype)). record {
      entry = entry_of title xref;
      values = values;
      colour = colour;
      plotstyle = plotstyle;
      linetype = linetype;
    })
    (λ layer. (title_of layer.entry, (layer.values, layer.colour))) (λ layer. (layer.entry.xref, (layer.plotstyle, layer.linetype)))
