-- The bit size among the main bits of a common part (Open Design Specification, "R13 to R2000 file layout, object data"): AC1014 has it there, AC1015 in the head.
use Rattle.std.specs.Prelude.{◌≡◌, ◌==◌, ⊤, Bool, ℕ, List, ◌++◌, Option, Some, None}
use Rattle.dwg_grammar.specs.Codes.{rl}
use Rattle.dwg_grammar.specs.Combinators.{always, image, restrict, seq}
use Rattle.dwg_grammar.specs.Grammar.{Grammar}
use Rattle.dwg_grammar.specs.Versions.{given, in_version}
use Rattle.dwg_common.specs.declared.app_data.AppData.{AppData}
use Rattle.dwg_common.specs.AppList.{app_list}
use Rattle.dwg_common.specs.Pictures.{graphic}
use Rattle.dwg_common.specs.declared.bit_layout.Layout.{Layout}

-- in AC1014 RL, which is the bit size of the layout; in AC1015 nothing
abbrev pub bit_size : Layout → Grammar Bool ⊤
bit_size layout =
    image (λ seen. ⊤) (λ parsed. tt) (λ seen. layout.size) (in_version layout.version (restrict (λ parsed. parsed == layout.size) rl) (always layout.size))

-- what AC1014 has up to the bit size: application data; of an entity its picture; RL
abbrev pub sized_prefix : Bool → ℕ → Grammar Bool (List AppData × (Option (List ℕ) × ℕ))
sized_prefix entity base = seq (app_list base) (λ app. seq (given entity None graphic) (λ picture. rl))

-- a prefix of the main bits spells this bit size, whatever stands before it
abbrev pub SizeSpells : Bool → ℕ → ℕ → List Bool → Type 0
SizeSpells entity base size prefix = (app : List AppData) × (picture : Option (List ℕ)) × (sized_prefix entity base).Spells (app, (picture, size)) prefix

-- the main bits begin with such a prefix
pub record SpellsSize (entity : Bool) (base size : ℕ) (main : List Bool) : Type 0 where
  pub prefix : List Bool
  pub after : List Bool
  pub spelled : SizeSpells entity base size prefix
  pub whole : main ≡ prefix ++ after

-- what a call read of the main bits, and what it left: the size that a prefix spells, and the bits after that prefix; None where no prefix spells one, and then all bits are left
abbrev pub ReadsSize : Bool → ℕ → Option ℕ → List Bool → List Bool → Type 0
ReadsSize entity base (Some size) main left = (prefix : List Bool) × SizeSpells entity base size prefix × (main ≡ prefix ++ left)
ReadsSize entity base None main left = ((size : ℕ) → SpellsSize entity base size main → ⊥) × (left ≡ main)
