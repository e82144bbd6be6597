-- Members joined one by one.
use Rattle.std.proofs.Common.{◌≡◌, ℕ, List, ◌++◌, drop}
use Rattle.dwg_grammar.specs.Reference.{Reference}
use Rattle.dwg_common.specs.Members.{joined}

-- members are joined up to what is left: those so far and those that are joined of what is left are all
abbrev pub AreJoinedSoFar : {P V : Type 0} → (P → Reference → V) → List P → List Reference → ℕ → List V → Type 0
AreJoinedSoFar {P} {V} join parsed names i members = members ++ joined join (drop i parsed) (drop i names) ≡ joined join parsed names
