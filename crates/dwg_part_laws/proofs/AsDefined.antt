-- A grammar is defined by itself.
use Rattle.std.proofs.Common.{refl}
use Rattle.dwg_grammar.specs.Bodies.{BodyGrammar}
use Rattle.dwg_part_laws.specs.AsDefined.{IsDefinedBy}

pub by_itself : {V : Type 0} (body : BodyGrammar V) → IsDefinedBy body body
by_itself body = record {
  spells = λ value main references over. (λ spelled. spelled, λ spelled. spelled);
  fits = λ value. (λ fits. fits, λ fits. fits);
  may_follow = λ over. (λ may. may, λ may. may);
  parse = λ main references. refl;
  short_main = λ value. refl;
  short_references = λ value. refl;
  references = λ value. refl;
}
