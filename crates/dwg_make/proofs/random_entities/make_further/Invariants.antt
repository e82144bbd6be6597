use Rattle.std.proofs.Common.{◌≡◌, ◌*◌, ◌++◌, map}
use Rattle.std.specs.List.{range_with_len}
use Rattle.dwg_make.specs.RandomEntities.{further_entity}
use Rattle.dwg_make.specs.Random.{state_at}
use Rattle.dwg_make.proofs.random_entities.make_further.Given as goal

-- so many entities are made, and nine random numbers are used for each
abbrev pub invariant-entities : goal.invariant-entities
invariant-entities l = record {
  at : l.random ≡ state_at l.seed (9 * l.done);
  made : l.making ≡ l.fn.making ++ map (further_entity l.count l.seed) (range_with_len 1 l.done);
}
