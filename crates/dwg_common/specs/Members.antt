-- Members of a list of which the main bits give one part each and the references name another. A rule of this project.
use Rattle.std.specs.Prelude.{List, [], ◌∷◌}
use Rattle.dwg_grammar.specs.Reference.{Reference}

-- the members of what is given and what is named of each, as many as there are of both
abbrev pub joined : {P V : Type 0} → (P → Reference → V) → List P → List Reference → List V
joined {P} {V} join [] names = []
joined {P} {V} join (parsed ∷ others) [] = []
joined {P} {V} join (parsed ∷ others) (name ∷ names) = join parsed name ∷ joined join others names
