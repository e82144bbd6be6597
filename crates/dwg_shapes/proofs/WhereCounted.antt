-- Lists that are there by their counts, of members that are values.
use Rattle.std.proofs.Common.{◌≡◌, refl, sym, subst, ℕ, suc, ◌^◌, ◌<◌, Bool, List, [], ◌∷◌, length, get_or, Option, Some}
use Rattle.std.specs.Prelude.{option_map}
use Rattle.std.specs.List.{AllByRecursion}
use Rattle.dwg_grammar.specs.Codes.{bd}
use Rattle.dwg_grammar.specs.Combinators.{chain}
use Rattle.dwg_grammar.specs.Grammar.{Grammar}
use Rattle.dwg_grammar.specs.ToEnd.{AreValues}
use Rattle.dwg_shapes.specs.LwPolylines.{items_where}

-- a list by its own count
abbrev pub by_count : {V : Type 0} → Grammar Bool V → Option (List V) → Grammar Bool (Option (List V))
by_count {V} code values = items_where code (option_map (λ (many : List V). length many) values)

-- members that are values are values one after the other
are_members : {V : Type 0} (code : Grammar Bool V) (members : List V) → AllByRecursion code.IsValue members → AreValues code members
are_members code [] all = tt
are_members code (member ∷ members) all = (all.0, are_members code members all.1)

-- and make a list
pub some_members : {V : Type 0} (code : Grammar Bool V) (values : Option (List V)) (many slice : List V) → values ≡ Some many → slice ≡ many → AllByRecursion code.IsValue slice
    → (by_count code values).IsValue values
unfolding chain
some_members {V} code values many slice there same all =
    subst (λ (one : Option (List V)). (by_count code one).IsValue one) (sym there) (many, refl, (refl, subst (AreValues code) same (are_members code slice all)))

-- words are values
pub words_known : (words : List ℕ) → ((i : ℕ) → get_or words i 0 < 2 ^ 64) → AllByRecursion bd.IsValue words
words_known [] small = tt
words_known (word ∷ words) small = (small 0, words_known words (λ i. small (suc i)))
