-- The only thing of a list is its first, where the list has one.
use Rattle.std.proofs.Common.{◌≡◌, refl, ◌+◌, false, List, [], ◌∷◌, length, Option, Some, None, arith}
use Rattle.std.specs.Prelude.{◌==◌, if◌then◌else◌}
use Rattle.std.specs.List.{cons_option}
use Rattle.std.proofs.lemmas.Bool.Decides.{nat_tests}
use Rattle.dwg_graph.specs.Owners.{sole}
use Rattle.dwg_chains.specs.Paths.{first_of}

pub sole_is_first : {A : Type 0} (things : List A) → (if length things == 1 then first_of things else None) ≡ sole things
sole_is_first {A} [] = refl
sole_is_first {A} (x ∷ []) = refl
sole_is_first {A} (x ∷ y ∷ rest) = let more : (length (x ∷ y ∷ rest) == 1) ≡ false = grind (arith, nat_tests) in rw more refl

-- a thing that may be there, before others
pub one_more : {A : Type 0} (reported : Option A) (rest : List A) → length (cons_option reported []) + length rest ≡ length (cons_option reported rest)
one_more {A} None rest = omega arith
one_more {A} (Some x) rest = omega arith
