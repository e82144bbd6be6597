-- What AC1014 spells of a part whose bits give no size. Ghost members of the impls of bodies cite this.
use Rattle.std.proofs.Common.{refl}
use Rattle.dwg_grammar.specs.Bodies.{BodyGrammar}
use Rattle.dwg_common.specs.Layouts.{WritesAlike}

-- a grammar takes a value as itself does
pub same_alike : {V : Type 0} (body : BodyGrammar V) (value : V) → WritesAlike body body value
same_alike body value = record { fits = (λ fits. fits, λ fits. fits); main = refl; references = refl }
