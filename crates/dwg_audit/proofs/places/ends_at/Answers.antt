use Rattle.std.proofs.Common.{◌≡◌, sym, ap, ◌∙◌}
use Rattle.std.specs.Option.{option_map}
use Rattle.dwg_audit.proofs.HeaderEnds.{ends_known, first_end, last_end}
use Rattle.dwg_audit.specs.Lookups.{place_of}
use Rattle.dwg_graph.specs.Graph.{ends_of}
use Rattle.dwg_graph.specs.Placed.{end_places}
use Rattle.dwg_graph.specs.Slots.{slots}
use Rattle.dwg_kinds.specs.declared.field.Field.TheVariants as fields
use Rattle.dwg_object.specs.declared.body.Body.{Body}
use Rattle.dwg_object.specs.declared.body.Body.TheVariants as bodies
use Rattle.dwg_object.specs.Objects.{ObjectValue, TypedValue, value_of}
use Rattle.dwg_audit.proofs.places.ends_at.Goals as goal

pub returns-in-Some : goal.returns-in-Some
returns-in-Some c handles are =
    let typed = c.in-Typed.typed in
    let header = c.in-BlockHeader.body in
    let value : value_of c.args.object.now ≡ TypedValue typed.number typed.handle typed.common (bodies.BlockHeader header) =
    ap value_of c.in-Typed.is ∙ ap (λ (body : Body). TypedValue typed.number typed.handle typed.common body) c.in-BlockHeader.is in
    c.placed_ends.ensures handles
    (c.place_of.ensures handles are ∙ ap (place_of handles fields.First) c.requires.held_slots ∙ ap (λ (x : ObjectValue). place_of handles fields.First (slots x)) value
    ∙ first_end handles typed.number typed.handle typed.common header c.in-Some.ends c.in-Some.is)
    (c.place_of-in-Some.ensures handles are ∙ ap (place_of handles fields.Last) c.requires.held_slots ∙ ap (λ (x : ObjectValue). place_of handles fields.Last (slots x)) value
    ∙ last_end handles typed.number typed.handle typed.common header c.in-Some.ends c.in-Some.is)
    ∙ ap (option_map (end_places handles)) (sym (ap ends_of value ∙ ends_known typed.number typed.handle typed.common header c.in-Some.ends c.in-Some.is))
