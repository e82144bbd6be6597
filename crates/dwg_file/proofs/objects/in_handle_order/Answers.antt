use Rattle.dwg_file.proofs.Borrowing.{order_lent}
use Rattle.dwg_file.proofs.HandleOrder.{objects_ordered}
use Rattle.dwg_file.proofs.objects.in_handle_order.Goals as goal

pub returns-clause-same : goal.returns-clause-same
returns-clause-same c = (objects_ordered _ _ _ c.requires c.sorted_in_place.ensures.same c.sorted_in_place.ensures.ascend c.from_vec.ensures).same

pub returns-clause-ascend : goal.returns-clause-ascend
returns-clause-ascend c = (objects_ordered _ _ _ c.requires c.sorted_in_place.ensures.same c.sorted_in_place.ensures.ascend c.from_vec.ensures).ascending

pub returns-clause-sorted : goal.returns-clause-sorted
returns-clause-sorted c = (objects_ordered _ _ _ c.requires c.sorted_in_place.ensures.same c.sorted_in_place.ensures.ascend c.from_vec.ensures).is_sorted

pub returns-clause-lent : goal.returns-clause-lent
returns-clause-lent c = order_lent _ _ _ c.sorted_in_place.ensures.same c.from_vec.ensures
