use Rattle.dwg_file.proofs.Borrowing.{order_lent}
use Rattle.dwg_file.proofs.HandleOrder.{objects_ordered}
use Rattle.dwg_file.proofs.objects.ordered_with_memory.Goals as goal

pub returns-clause-same : goal.returns-clause-same
returns-clause-same c = (objects_ordered _ _ _ c.requires c.in_ok-sorted_with_memory.ensures.same c.in_ok-sorted_with_memory.ensures.ascend c.from_vec.ensures).same

pub returns-clause-ascend : goal.returns-clause-ascend
returns-clause-ascend c = (objects_ordered _ _ _ c.requires c.in_ok-sorted_with_memory.ensures.same c.in_ok-sorted_with_memory.ensures.ascend c.from_vec.ensures).ascending

pub returns-clause-lent : goal.returns-clause-lent
returns-clause-lent c = order_lent _ _ _ c.in_ok-sorted_with_memory.ensures.same c.from_vec.ensures
