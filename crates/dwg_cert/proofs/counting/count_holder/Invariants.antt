use Rattle.std.proofs.Common.{◌≡◌, drop, map, take}
use Rattle.std.specs.List.{list_all}
use Rattle.dwg_graph.specs.Claimed.{AddsBoth}
use Rattle.dwg_graph.specs.Slots.{slots}
use Rattle.dwg_graph.specs.Tests.{is_met}
use Rattle.dwg_object.specs.Objects.{value_of}
use Rattle.dwg_cert.proofs.counting.count_holder.Given as goal

-- the slots so far are counted, and what is left reports whether all needs are met
abbrev pub invariant-slots : goal.invariant-slots
invariant-slots l = record {
  counted : AddsBoth (map value_of l.objects) l.known (value_of l.holder) (take l.i (slots (value_of l.holder))) l.initial.claimed l.claimed;
  left : list_all (is_met (map value_of l.objects) (value_of l.holder)) (drop l.i (slots (value_of l.holder))) ≡ list_all (is_met (map value_of l.objects) (value_of l.holder)) (slots (value_of l.holder));
}
