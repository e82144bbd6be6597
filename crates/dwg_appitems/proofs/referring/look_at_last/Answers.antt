use Rattle.std.proofs.Common.{arith}
use Rattle.dwg_appitems.proofs.HandleBounds.{bounded_by_last}
use Rattle.dwg_appitems.proofs.referring.look_at_last.Goals as goal

pub returns : goal.returns
returns c =
    bounded_by_last c.args.objects.now c.index-objects-objects.result c.requires.ascend c.index-objects-objects.is (omega (arith, c.handle.ensures, c.value-last.ensures.value, c.value-last.ensures.bound))
