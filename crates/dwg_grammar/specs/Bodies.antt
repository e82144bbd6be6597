-- What a body is: which main bits and which reference bits spell a value together (Open Design Specification, "Common entity data" and "Common non-entity object format"). A rule of this project.
use Rattle.std.specs.Prelude.{◌≡◌, ◌<◌, ◌≤◌, ℕ, Bool, List, ◌++◌, length, Option, Some, None}
use Rattle.dwg_grammar.specs.ToEnd.{SpellsAll}
use Rattle.dwg_grammar.specs.Reference.{Reference}
use Rattle.dwg_grammar.specs.ReferenceCodes.{reference}

-- a part of an object whose values are of V, over main bits and reference bits
pub record BodyGrammar (V : Type 0) : Type 1 where
  -- these main bits and these reference bits spell the value, where so many bits follow the latter: all its spellings, long ones too
  pub Spells : V → List Bool → List Bool → ℕ → Type 0
  -- the value has a spelling
  pub Fits : V → Type 0
  -- so many bits may follow the references
  pub MayFollow : ℕ → Type 0
  -- the value that prefixes of the main bits and of the reference bits spell, and the bits after those prefixes
  pub parse : List Bool → List Bool → Option (V × (List Bool × List Bool))
  -- the spelling that is written
  pub short_main : V → List Bool
  pub short_references : V → List Bool
  -- the references that the reference bits spell, in their order
  pub references : V → List Reference

-- prefixes of the main bits and of the reference bits spell the value, and these bits are after them
pub record BeginsWithBody {V : Type 0} (body : BodyGrammar V) (value : V) (main main_left references references_left : List Bool) : Type 0 where
  pub main_prefix : List Bool
  pub reference_prefix : List Bool
  pub spelled : body.Spells value main_prefix reference_prefix (length references_left)
  pub main_whole : main ≡ main_prefix ++ main_left
  pub references_whole : references ≡ reference_prefix ++ references_left

-- the laws of a body of the object of a handle
pub record IsBody {V : Type 0} (base : ℕ) (body : BodyGrammar V) : Type 0 where
  -- what is parsed is spelled by prefixes
  pub sound : (main main_left references references_left : List Bool) (value : V) → body.parse main references ≡ Some (value, (main_left, references_left))
      → BeginsWithBody body value main main_left references references_left
  -- what is spelled by prefixes is parsed, whatever follows the main bits, and where the count of bits fits that follow the references
  pub complete : (main main_left references references_left : List Bool) (value : V) → body.Spells value main references (length references_left)
      → body.parse (main ++ main_left) (references ++ references_left) ≡ Some (value, (main_left, references_left))
  -- what is spelled fits
  pub value : (value : V) (main references : List Bool) (over : ℕ) → body.Spells value main references over → body.Fits value
  -- what fits is spelled by what is written of it
  pub canonical : (value : V) (over : ℕ) → body.Fits value → body.MayFollow over → body.Spells value (body.short_main value) (body.short_references value) over
  -- no spelling has fewer main bits or fewer reference bits than the one that is written
  pub least_main : (value : V) (main references : List Bool) (over : ℕ) → body.Spells value main references over → length (body.short_main value) ≤ length main
  pub least_references : (value : V) (main references : List Bool) (over : ℕ) → body.Spells value main references over → length (body.short_references value) ≤ length references
  -- the reference bits spell the references of the value
  pub listed : (value : V) (main references : List Bool) (over : ℕ) → body.Spells value main references over → SpellsAll (reference base) (body.references value) references
  -- other bits that spell these references spell the value as well
  pub respelled : (value : V) (main references other : List Bool) (over other_over : ℕ) → body.Spells value main references over
      → SpellsAll (reference base) (body.references value) other → body.MayFollow other_over → body.Spells value main other other_over
  -- fewer than eight bits may always follow
  pub padded : (over : ℕ) → over < 8 → body.MayFollow over

-- what a call read of the main bits and the reference bits by a body, and what it left of them: the value that prefixes spell, and the bits after; None where no prefixes spell one, and then all bits are left
abbrev pub ReadsBody : {V : Type 0} → BodyGrammar V → Option V → List Bool → List Bool → List Bool → List Bool → Type 0
ReadsBody {V} body (Some value) main main_left references references_left = BeginsWithBody body value main main_left references references_left
ReadsBody {V} body None main main_left references references_left =
    ((value : V) (main_after references_after : List Bool) → BeginsWithBody body value main main_after references references_after → ⊥)
    × (main_left ≡ main) × (references_left ≡ references)

-- main bits and reference bits spell at most one value by prefixes, and by one prefix of each
abbrev pub IsUniqueBody : {V : Type 0} → BodyGrammar V → Type 0
IsUniqueBody {V} body =
    (value other : V) (main main_left other_main_left references references_left other_references_left : List Bool)
    → BeginsWithBody body value main main_left references references_left → BeginsWithBody body other main other_main_left references other_references_left
    → (value ≡ other) × (main_left ≡ other_main_left) × (references_left ≡ other_references_left)

-- the laws of a body, as those who read and write it see them
pub record IsLawfulBody {V : Type 0} (base : ℕ) (body : BodyGrammar V) : Type 0 where
  pub unique : IsUniqueBody body
  pub value : (value : V) (main references : List Bool) (over : ℕ) → body.Spells value main references over → body.Fits value
  pub canonical : (value : V) (over : ℕ) → body.Fits value → body.MayFollow over → body.Spells value (body.short_main value) (body.short_references value) over
  pub shortest : (value : V) (main references : List Bool) (over : ℕ) → body.Spells value main references over → length (body.short_main value) ≤ length main
  pub shortest_references : (value : V) (main references : List Bool) (over : ℕ) → body.Spells value main references over → length (body.short_references value) ≤ length references
  pub listed : (value : V) (main references : List Bool) (over : ℕ) → body.Spells value main references over → SpellsAll (reference base) (body.references value) references
  pub respelled : (value : V) (main references other : List Bool) (over other_over : ℕ) → body.Spells value main references over
      → SpellsAll (reference base) (body.references value) other → body.MayFollow other_over → body.Spells value main other other_over
  pub padded : (over : ℕ) → over < 8 → body.MayFollow over

-- a lawful body after whose references any count of bits may follow
pub record IsFreeBody {V : Type 0} (base : ℕ) (body : BodyGrammar V) : Type 0 where
  pub lawful : IsLawfulBody base body
  pub followed : (over : ℕ) → body.MayFollow over
