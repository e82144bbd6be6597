use Rattle.dwg_recover.proofs.WholeRecovery.{classes_are}
use Rattle.dwg_recover.proofs.recovery.find_parts.Goals as goal

pub returns-clause-found : goal.returns-clause-found
returns-clause-found g c = record {
  header = c.in_ok-header.ensures;
  variables = c.in_ok-places.ensures.variables;
  section = c.in_ok-places.ensures.classes;
  classes = classes_are c.args.bytes.now _ _ c.in_ok-classes.ensures c.in_ok-places.ensures.classes;
}
