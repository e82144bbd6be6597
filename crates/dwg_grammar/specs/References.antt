-- The references of a part of an object: what their bits spell, and which references those are (Open Design Specification, "Common entity data" and "Common non-entity object format").
use Rattle.dwg_grammar.specs.ToEnd.{SpellsAll}
use Rattle.std.specs.Prelude.{⊤, ℕ, Bool, List, [], ◌∷◌, ◌++◌, Option}
use Rattle.std.specs.Option.{option_map_or}
use Rattle.dwg_grammar.specs.Grammar.{Grammar, IsCode, AnyLetters}
use Rattle.dwg_grammar.specs.Combinators.{always, seq, when, items, shaped}
use Rattle.dwg_grammar.specs.Reference.{Reference}
use Rattle.dwg_grammar.specs.ReferenceCodes.{reference}

-- which bits spell a value of R, and the references that such bits spell, in their order
pub record ReferencePart (R : Type 0) : Type 1 where
  pub grammar : Grammar Bool R
  pub list : R → List Reference

-- one reference of the object of a handle
abbrev pub one_ref : ℕ → ReferencePart Reference
one_ref base = record { grammar = reference base; list = λ value. value ∷ [] }

-- so many references
abbrev pub some_refs : ℕ → ℕ → ReferencePart (List Reference)
some_refs base count = record { grammar = items (reference base) count; list = λ values. values }

-- a part where the test holds
abbrev pub maybe_refs : {R : Type 0} → Bool → ReferencePart R → ReferencePart (Option R)
maybe_refs {R} test part = record { grammar = when test part.grammar; list = λ value. option_map_or part.list value [] }

-- one part and then another
abbrev pub then_refs : {R S : Type 0} → ReferencePart R → ReferencePart S → ReferencePart (R × S)
then_refs {R} {S} first second = record { grammar = seq first.grammar (λ value. second.grammar); list = λ both. first.list both.0 ++ second.list both.1 }

-- two references, one after the other
abbrev pub two_refs : ℕ → ReferencePart (Reference × Reference)
two_refs base = then_refs (one_ref base) (one_ref base)

-- no references
abbrev pub no_refs : ReferencePart ⊤
no_refs = record { grammar = always tt; list = λ value. [] }

-- a part that is seen as a struct, by its parts
abbrev pub seen_refs : {R S : Type 0} → (R → S) → (S → R) → ReferencePart R → ReferencePart S
seen_refs {R} {S} into back part = record { grammar = shaped into back part.grammar; list = λ value. part.list (back value) }

-- a part of the references of the object of a handle
pub record IsReferencePart {R : Type 0} (base : ℕ) (part : ReferencePart R) : Type 0 where
  pub is_code : IsCode AnyLetters part.grammar
  -- the bits spell the references of the value
  pub listed : (value : R) (letters : List Bool) → part.grammar.Spells value letters → SpellsAll (reference base) (part.list value) letters
  -- and other bits that spell them spell the value as well
  pub respelled : (value : R) (letters other : List Bool) → part.grammar.Spells value letters → SpellsAll (reference base) (part.list value) other
      → part.grammar.Spells value other
