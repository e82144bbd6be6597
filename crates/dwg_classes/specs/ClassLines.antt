-- The lines of the table of refusals on classes, tried class by class. A rule of this project, over the classes of the Open Design Specification, "Classes".
use Rattle.std.specs.Prelude.{◌≡◌, ◌⊎◌, ℕ, zero, suc, ◌+◌, ◌-◌, ◌/◌, ◌<◌, ◌≤◌, Bool, List, [], ◌∷◌, ◌++◌, length, nat_lt, Option, Some, None, Ok, Err, if◌then◌else◌}
use Rattle.dwg_base.specs.Refusals.{Tried}
use Rattle.dwg_base.specs.Refusal.{Refusal}
use Rattle.dwg_bits.specs.Bits.{bits}
use Rattle.dwg_grammar.specs.Grammar.{BeginsWith}
use Rattle.dwg_grammar.specs.ToEnd.{SpellsAll}
use Rattle.dwg_classes.specs.declared.class.Class.{Class}
use Rattle.dwg_classes.specs.Class.{any_class, numbered_class, LEAST_BITS, LEAST_NUMBER}

-- the refusal of the class after so many classes that are spelled by so many bits, in a content at a place: at least 29 bits are left, and no prefix of them spells a class
abbrev pub spelling_refusal : ℕ → ℕ → ℕ → Refusal
spelling_refusal place index first = record { line = 19; index = index; place = place + first / 8 }

-- the refusal of that class where its number is below 500
abbrev pub number_refusal : ℕ → ℕ → ℕ → Refusal
number_refusal place index first = record { line = 20; index = index; place = place + first / 8 }

-- at the bits that are left after so many classes, which are spelled by so many bits, this is the refusal of the next class: either no prefix spells a class, or a prefix spells one whose number is too small
abbrev pub ClassFails : ℕ → ℕ → ℕ → List Bool → Refusal → Type 0
ClassFails place index first rest refusal =
    ((refusal ≡ spelling_refusal place index first) × (BeginsWith any_class rest → ⊥))
    ⊎ ((refusal ≡ number_refusal place index first)
    × (class : Class) × (spelling : List Bool) × (after : List Bool) × any_class.Spells class spelling × (rest ≡ spelling ++ after) × (class.number < LEAST_NUMBER))

-- the refusal is that of the first class of a content at a place that fails a line: after classes that are spelled, more bits are left than slack has, and the next class fails
pub record RefusesClass (place : ℕ) (content : List ℕ) (refusal : Refusal) : Type 0 where
  pub before : List Class
  pub prefix : List Bool
  pub rest : List Bool
  pub spelled : SpellsAll numbered_class before prefix
  pub whole : bits content ≡ prefix ++ rest
  pub more : LEAST_BITS ≤ length rest
  pub fails : ClassFails place (length before) (length prefix) rest refusal

-- what a class that was parsed gives, or the refusal of one that isn't there or whose number is too small; others is what the bits after it give
abbrev pub with_class : ℕ → List Class → ℕ → (Class → List Bool → Tried (List Class)) → Option (Class × List Bool) → Tried (List Class)
with_class place before first others None = Err (spelling_refusal place (length before) first)
with_class place before first others (Some (class, rest)) =
    if nat_lt class.number LEAST_NUMBER then Err (number_refusal place (length before) first) else others class rest

-- what the bits that are left are cut into after the classes before them, or the first refusal; first is how many bits came before, and no more classes follow than the fuel
unfoldable pub classes_after : ℕ → ℕ → List Class → ℕ → List Bool → Tried (List Class)
classes_after place zero before first letters = Ok before
classes_after place (suc fuel) before first letters =
    if nat_lt (length letters) LEAST_BITS then Ok before
    else with_class place before first
    (λ class rest. classes_after place fuel (before ++ class ∷ []) (first + (length letters - length rest)) rest)
    (any_class.parse letters)

-- the classes of a content at a place of the input, or the first refusal
unfoldable pub tried_classes : ℕ → List ℕ → Tried (List Class)
tried_classes place content = classes_after place (length (bits content)) [] 0 (bits content)
