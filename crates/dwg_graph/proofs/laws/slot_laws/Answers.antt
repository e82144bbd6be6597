use Rattle.dwg_graph.proofs.HeldSlots.{slots_are_held, owners_are_held, slots_are_ordered}
use Rattle.dwg_graph.proofs.SlotCounts.{slots_are_few, none_is_left_out}
use Rattle.dwg_graph.proofs.laws.slot_laws.Goals as goal

pub returns : goal.returns
returns c = record { held = slots_are_held; owner = owners_are_held; bound = slots_are_few; ordered = slots_are_ordered; whole = none_is_left_out }
