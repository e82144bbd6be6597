use Rattle.std.proofs.Common.{◌≡◌, ◌++◌, drop, map}
use Rattle.dwg_graph.specs.Slots.{slots_from}
use Rattle.dwg_graph.proofs.slot_walk.gathered.Given as goal

-- the slots so far, and those of the items that are left, are all
abbrev pub invariant-items : goal.invariant-items
invariant-items g l = l.slots ++ slots_from l.field l.position (map g.T.Refers.refers (drop l.position l.items)) ≡ l.initial.slots ++ slots_from l.field 0 (map g.T.Refers.refers l.items)
