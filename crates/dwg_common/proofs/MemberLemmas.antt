-- What is given of members and what is named of them follow from the members, and they from both.
use Rattle.std.proofs.Common.{◌≡◌, refl, ap₂, List, [], ◌∷◌, length, map, arith, ap, suc}
use Rattle.std.proofs.lemmas.List.{length-map}
use Rattle.dwg_grammar.specs.Reference.{Reference}
use Rattle.dwg_common.specs.Members.{joined}

-- what is given of members that were joined is what they were joined of
pub parsed_of_joined : {P V : Type 0} (join : P → Reference → V) (parsed_of : V → P) → ((parsed : P) (name : Reference) → parsed_of (join parsed name) ≡ parsed)
    → (parsed : List P) (names : List Reference) → length names ≡ length parsed → map parsed_of (joined join parsed names) ≡ parsed
parsed_of_joined join parsed_of same [] names counted = refl
parsed_of_joined join parsed_of same (parsed ∷ others) [] counted = absurd (omega (arith, counted))
parsed_of_joined join parsed_of same (parsed ∷ others) (name ∷ names) counted =
    ap₂ ◌∷◌ (same parsed name) (parsed_of_joined join parsed_of same others names (omega (arith, counted)))

-- and so is what is named of them
pub names_of_joined : {P V : Type 0} (join : P → Reference → V) (name_of : V → Reference) → ((parsed : P) (name : Reference) → name_of (join parsed name) ≡ name)
    → (parsed : List P) (names : List Reference) → length names ≡ length parsed → map name_of (joined join parsed names) ≡ names
names_of_joined join name_of same [] [] counted = refl
names_of_joined join name_of same [] (name ∷ names) counted = absurd (omega (arith, counted))
names_of_joined join name_of same (parsed ∷ others) [] counted = absurd (omega (arith, counted))
names_of_joined join name_of same (parsed ∷ others) (name ∷ names) counted =
    ap₂ ◌∷◌ (same parsed name) (names_of_joined join name_of same others names (omega (arith, counted)))

-- members are joined of what is given and what is named of them
pub joined_again : {P V : Type 0} (join : P → Reference → V) (parsed_of : V → P) (name_of : V → Reference) → ((value : V) → join (parsed_of value) (name_of value) ≡ value)
    → (values : List V) → joined join (map parsed_of values) (map name_of values) ≡ values
joined_again join parsed_of name_of same [] = refl
joined_again join parsed_of name_of same (value ∷ values) = ap₂ ◌∷◌ (same value) (joined_again join parsed_of name_of same values)

-- as many as are given are joined
pub joined_counted : {P V : Type 0} (join : P → Reference → V) (parsed : List P) (names : List Reference) → length names ≡ length parsed → length (joined join parsed names) ≡ length parsed
joined_counted join [] names counted = refl
joined_counted join (parsed ∷ others) [] counted = absurd (omega (arith, counted))
joined_counted join (parsed ∷ others) (name ∷ names) counted = ap suc (joined_counted join others names (omega (arith, counted)))

-- and there is one part of each member
pub parts_counted : {V W : Type 0} (part : V → W) (members : List V) → length (map part members) ≡ length members
parts_counted part members = length-map members part
