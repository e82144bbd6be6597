use Rattle.std.proofs.Common.{◌∙◌, sym}
use Rattle.std.proofs.lemmas.List.{append-nil}
use Rattle.dwg_make.proofs.DrawsAlong.{from_seed, next_at, more_made}
use Rattle.dwg_make.proofs.random_entities.make_further.Goals as goal

pub entities-init : goal.entities-init
entities-init c = record { at = c.new-random.ensures ∙ from_seed c.args.seed; made = sym (append-nil _) }

pub entities-preserved : goal.entities-preserved
entities-preserved c = record {
  at = next_at c.args.seed c.entities.done _ _ c.entities.invariant.at c.draw-draw.ensures.next;
  made = more_made c.args.count c.args.seed c.entities.done _ _ _ _ _ _ c.entities.invariant.at c.draw-draw.ensures.reported c.in_ok-entity_of.ensures c.entities.invariant.made c.in_ok-push.ensures;
}
