use Rattle.dwg_appitems.proofs.HandleBounds.{too_great}
use Rattle.dwg_appitems.proofs.LookupSteps.{none_taken, taken_by_index}
use Rattle.dwg_appitems.proofs.referring.place_named.Goals as goal

pub returns-in_default-clause-place : goal.returns-in_default-clause-place
returns-in_default-clause-place g c = too_great c.args.objects.now c.args.named c.new.result c.requires.ascend c.look_at_last.ensures c.in_default.is c.new.ensures

pub returns-clause-steps : goal.returns-clause-steps
returns-clause-steps g c = taken_by_index c.args.objects.now c.args.known.now 1 _ _ c.requires.known c.find_place.ensures.steps

pub returns-in_default-clause-steps : goal.returns-in_default-clause-steps
returns-in_default-clause-steps g c = none_taken _ 1 _
