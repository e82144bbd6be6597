use Rattle.std.proofs.Common.{ap, ◌∙◌, length, map}
use Rattle.std.proofs.lemmas.List.{length-map}
use Rattle.dwg_audit.proofs.Slicing.{part_is_seen}
use Rattle.dwg_audit.specs.Lookups.{all_slots, part_of}
use Rattle.dwg_graph.specs.declared.slot.Slot.{Slot}
use Rattle.dwg_graph.specs.Placed.{place_in}
use Rattle.dwg_graph.specs.Places.{handles_of}
use Rattle.dwg_object.specs.Objects.{value_of}
use Rattle.dwg_audit.proofs.lookups.places_at.Goals as goal

pub part_at-requires-clause-along : goal.part_at-requires-clause-along
part_at-requires-clause-along c =
    ap length c.as_slice.ensures.value
    ∙ ap length c.requires.table.places
    ∙ length-map (all_slots (map value_of c.args.objects.now)) (λ (slot : Slot). place_in (handles_of (map value_of c.args.objects.now)) slot.target)

pub returns : goal.returns
returns c x at =
    c.part_at.ensures
    ∙ ap (part_of (map value_of c.args.objects.now) c.args.place) (c.as_slice.ensures.value ∙ c.requires.table.places)
    ∙ part_is_seen (λ (slot : Slot). place_in (handles_of (map value_of c.args.objects.now)) slot.target) (map value_of c.args.objects.now) c.args.place x at
