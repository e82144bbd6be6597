use Rattle.std.proofs.Common.{sym, ◌∙◌}
use Rattle.dwg_cert.proofs.Checking.{in_place_at, in_place_nowhere}
use Rattle.dwg_cert.proofs.MemberCounts.{home_within}
use Rattle.dwg_graph.proofs.Counting.{stands_there}
use Rattle.dwg_graph.specs.Owners.{spaces}
use Rattle.dwg_object.specs.Objects.{value_of}
use Rattle.dwg_cert.proofs.checker.Checker.is_in_place.Goals as goal

pub returns-in-Some : goal.returns-in-Some
returns-in-Some c =
    let objects = c.args.self.now.objects in
    let x = value_of c.args.object.now in
    let home = sym c.requires.home ∙ c.in-Some.is in
    let block = stands_there objects c.in-Some.home (home_within objects (spaces objects) x c.in-Some.home home) in
    c.is_placed_at.ensures block.0 block.1 ∙ sym (in_place_at objects c.args.self.now.cert x block.0 c.in-Some.home home block.1)

pub returns-in-None : goal.returns-in-None
returns-in-None c = sym (in_place_nowhere c.args.self.now.objects c.args.self.now.cert (value_of c.args.object.now) (sym c.requires.home ∙ c.in-None.is))
