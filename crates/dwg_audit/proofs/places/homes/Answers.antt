use Rattle.std.proofs.Common.{arith}
use Rattle.std.proofs.lemmas.Grind.{common_steps}
use Rattle.dwg_audit.proofs.Homes.{home_by_owner}
use Rattle.dwg_audit.proofs.places.homes.Goals as goal

pub objects-preserved : goal.objects-preserved
objects-preserved c =
    let home = home_by_owner c.args.objects.now c.args.known.now c.args.owners.now c.objects.place c.index-objects-place.result c.requires.owners c.objects-test.true c.index-objects-place.is in
    grind (arith, common_steps, home)
