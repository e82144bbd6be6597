use Rattle.std.proofs.Common.{◌≡◌, sym, ap, ◌∙◌, false, map, rules}
use Rattle.std.specs.Prelude.{◌==◌, ◌||◌}
use Rattle.std.specs.List.{list_any}
use Rattle.dwg_appitems.specs.AppFindings.{is_met}
use Rattle.dwg_appitems.specs.declared.item.AppItem.{AppItem}
use Rattle.dwg_appitems.proofs.ReferringItems.{layer_there, object_there}
use Rattle.dwg_object.specs.Objects.{handle_of, value_of}
use Rattle.dwg_appitems.proofs.referring.is_met.Goals as goal

pub returns-in-Layer-clause-met : goal.returns-in-Layer-clause-met
returns-in-Layer-clause-met g c =
    let objects = map value_of c.args.objects.now in
    layer_there objects c.in-Layer.handle c.place_named.result c.is_layer_at.result c.requires.ascend c.place_named.ensures.place c.is_layer_at.ensures
    ∙ sym (ap (λ (one : AppItem). is_met objects one) c.in-Layer.is)

pub returns-else-handle-eq0-clause-met : goal.returns-else-handle-eq0-clause-met
returns-else-handle-eq0-clause-met g c =
    let objects = map value_of c.args.objects.now in
    let some : (c.in-Object.handle == 0) ≡ false = search rules in
    object_there objects c.in-Object.handle c.place_named-in-Object.result c.is_some.result c.place_named-in-Object.ensures.place c.is_some.ensures
    ∙ sym (ap (λ null. null || list_any (λ x. handle_of x == c.in-Object.handle) objects) some) ∙ sym (ap (λ (one : AppItem). is_met objects one) c.in-Object.is)
