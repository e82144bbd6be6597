use Rattle.std.proofs.Common.{◌≡◌, ◌++◌, drop, length, map}
use Rattle.std.specs.Prelude.{IfSome}
use Rattle.dwg_audit.specs.Lookups.{TakeAtMost}
use Rattle.dwg_graph.specs.Placed.{place_in}
use Rattle.dwg_audit.proofs.lookups.find_all.Given as goal

abbrev pub invariant-names : goal.invariant-names
invariant-names g l =
    (l.places.items ++ map (λ name. place_in l.index (g.T.Names.named name)) (drop l.name-index l.names) ≡ map (λ name. place_in l.index (g.T.Names.named name)) l.names)
    × TakeAtMost (length l.index) l.name-index l.initial.steps l.steps
    × IfSome l.last (λ known. l.place ≡ place_in l.index known)
