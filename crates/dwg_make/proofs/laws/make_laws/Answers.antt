-- The lemma is the fact.
use Rattle.dwg_make.proofs.Validity.{made_is_valid, made_within}
use Rattle.dwg_make.proofs.laws.make_laws.Goals as goal

pub returns : goal.returns
returns c = record { valid = made_is_valid; within = λ count seed some few low. made_within count seed few }
