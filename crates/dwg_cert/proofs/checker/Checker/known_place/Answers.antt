use Rattle.dwg_cert.proofs.Checking.{can_seen, own_place}
use Rattle.dwg_cert.proofs.checker.Checker.known_place.Goals as goal

pub returns : goal.returns
returns c x stands = own_place c.args.self.now.objects c.args.place x (can_seen c.args.self.now _ _ c.self.view_is c.self.invariant.can).ascending stands
