use Rattle.std.proofs.Common.{sym, ap, ◌∙◌}
use Rattle.std.specs.Option.{option_and_then}
use Rattle.dwg_cert.proofs.StepTables.{left_placed}
use Rattle.dwg_chains.specs.Tables.{leads}
use Rattle.dwg_cert.proofs.certifying.left_at.Goals as goal

pub returns-in-Some : goal.returns-in-Some
returns-in-Some c = c.reported_at.ensures ∙ sym (ap (option_and_then (leads c.args.left.now)) c.in-Some.is) ∙ left_placed c.args.drawing.now c.args.left.now c.args.handle c.place_of.result c.requires.left c.place_of.ensures

pub returns-in-None : goal.returns-in-None
returns-in-None c = sym (ap (option_and_then (leads c.args.left.now)) c.in-None.is) ∙ left_placed c.args.drawing.now c.args.left.now c.args.handle c.place_of.result c.requires.left c.place_of.ensures
