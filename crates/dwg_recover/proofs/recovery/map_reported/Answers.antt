use Rattle.std.proofs.Common.{◌≡◌, subst, List}
use Rattle.std.specs.Prelude.{IfOk}
use Rattle.dwg_recover.specs.declared.frame.Frame.{Frame}
use Rattle.dwg_recover.specs.Recovering.{reported}
use Rattle.dwg_recover.proofs.WholeRecovery.{listed_found, listed_placed}
use Rattle.dwg_recover.proofs.recovery.map_reported.Goals as goal

pub reported-requires : goal.reported-requires
reported-requires c = listed_placed c.args.bytes.now c.args.frames.now c.in_ok-all.all.items c.requires c.in_ok-all.ensures

pub returns : goal.returns
returns c =
    subst (λ (all : List Frame). IfOk c.reported.result (λ kept. kept ≡ reported c.args.bytes.now all)) (listed_found c.args.bytes.now c.args.frames.now c.in_ok-all.all.items c.requires c.in_ok-all.ensures)
    c.reported.ensures
