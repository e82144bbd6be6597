-- Values one after the other, as many as there are letters for: another follows while so many letters are left as the shortest of them has. A rule of this project.
use Rattle.std.specs.Prelude.{◌≡◌, ◌<◌, ◌≤◌, ℕ, List, ◌++◌, length, Option, Some, None}
use Rattle.dwg_grammar.specs.Grammar.{Grammar}
use Rattle.dwg_grammar.specs.Combinators.{SpellsChain, IsChain, short_chain}

-- values of one code, spelled one after the other
abbrev pub SpellsAll : {A V : Type 0} → Grammar A V → List V → List A → Type 0
SpellsAll {A} {V} code values letters = SpellsChain (λ (state : ℕ). code) (λ value. 0) 0 values letters

-- each has a spelling
abbrev pub AreValues : {A V : Type 0} → Grammar A V → List V → Type 0
AreValues {A} {V} code values = IsChain (λ (state : ℕ). code) (λ value. 0) 0 values

-- what is written of them
abbrev pub short_all : {A V : Type 0} → Grammar A V → List V → List A
short_all {A} {V} code values = short_chain (λ (state : ℕ). code) (λ value. 0) 0 values

-- the values are all that the letters spell, and what is left of the letters is too short for another
pub record SpellsToEnd {A V : Type 0} (least : ℕ) (code : Grammar A V) (values : List V) (letters left : List A) : Type 0 where
  pub prefix : List A
  pub spelled : SpellsAll code values prefix
  pub whole : letters ≡ prefix ++ left
  pub short : length left < least

-- no value of the code is spelled by fewer letters
abbrev pub HaveLeast : {A V : Type 0} → ℕ → Grammar A V → Type 0
HaveLeast {A} {V} least code = (value : V) (prefix : List A) → code.Spells value prefix → least ≤ length prefix

-- what a call read of the letters to their end by a code, and what it left; None where one value isn't spelled, and then all letters are left
abbrev pub ReadsToEnd : {A V : Type 0} → ℕ → Grammar A V → Option (List V) → List A → List A → Type 0
ReadsToEnd {A} {V} least code (Some values) letters left = SpellsToEnd least code values letters left
ReadsToEnd {A} {V} least code None letters left = ((values : List V) (over : List A) → SpellsToEnd least code values letters over → ⊥) × (left ≡ letters)

-- letters are cut into values in one way at the most
abbrev pub IsCutUniquely : {A V : Type 0} → ℕ → Grammar A V → Type 0
IsCutUniquely {A} {V} least code =
    (values others : List V) (letters left other_left : List A) → SpellsToEnd least code values letters left → SpellsToEnd least code others letters other_left
    → (values ≡ others) × (left ≡ other_left)
