-- What a code is: which letters spell a value, and which of those spellings is written (Open Design Specification, "Bit codes"). The letters are bits, or bytes.
use Rattle.std.specs.Prelude.{◌≡◌, ⊤, ◌≤◌, ℕ, List, ◌++◌, length, take, Option, Some, None}

-- a code whose values are of V, over letters of A
pub record Grammar (A V : Type 0) : Type 1 where
  -- these letters spell the value: all its spellings, long ones too
  pub Spells : V → List A → Type 0
  -- the value has a spelling
  pub IsValue : V → Type 0
  -- the value that a prefix of the letters spells, and the letters after that prefix
  pub parse : List A → Option (V × List A)
  -- the spelling that is written
  pub short : V → List A

-- the laws of a code, over lists of letters that are IsText
pub record IsCode {A V : Type 0} (IsText : List A → Type 0) (code : Grammar A V) : Type 0 where
  -- what is parsed is spelled by a prefix
  pub sound : (letters rest : List A) (value : V) → IsText letters → code.parse letters ≡ Some (value, rest)
      → (prefix : List A) × code.Spells value prefix × (letters ≡ prefix ++ rest)
  -- what is spelled by a prefix is parsed, whatever follows
  pub complete : (prefix rest : List A) (value : V) → code.Spells value prefix → code.parse (prefix ++ rest) ≡ Some (value, rest)
  -- what is spelled is a value
  pub value : (prefix : List A) (value : V) → code.Spells value prefix → code.IsValue value
  -- a value is spelled by what is written of it
  pub canonical : (value : V) → code.IsValue value → code.Spells value (code.short value)
  -- no spelling is shorter than the one that is written
  pub least : (prefix : List A) (value : V) → code.Spells value prefix → length (code.short value) ≤ length prefix

-- every list of bits is a text
abbrev pub AnyLetters : {A : Type 0} → List A → Type 0
AnyLetters letters = ⊤

-- a prefix of the letters spells a value
abbrev pub BeginsWith : {A V : Type 0} → Grammar A V → List A → Type 0
BeginsWith {A} {V} code letters = (value : V) × (prefix : List A) × (rest : List A) × code.Spells value prefix × (letters ≡ prefix ++ rest)

-- what a call read of the letters by a code, and what it left: the value that a prefix spells, and the letters after that prefix; None where no prefix spells one, and then all letters are left
abbrev pub Reads : {A V : Type 0} → Grammar A V → Option V → List A → List A → Type 0
Reads {A} {V} code (Some value) letters left = (prefix : List A) × code.Spells value prefix × (letters ≡ prefix ++ left)
Reads {A} {V} code None letters left = (BeginsWith code letters → ⊥) × (left ≡ letters)

-- what a call read at the begin of the letters by a code: a value, and how many letters at the begin spell it; None where no prefix of the letters spells one
abbrev pub ReadsPrefix : {A V : Type 0} → Grammar A V → Option (V × ℕ) → List A → Type 0
ReadsPrefix {A} {V} code (Some found) letters = (found.1 ≤ length letters) × code.Spells found.0 (take found.1 letters)
ReadsPrefix {A} {V} code None letters = BeginsWith code letters → ⊥

-- letters spell at most one value by a code, and no spelling is a proper prefix of another
abbrev pub IsUnique : {A V : Type 0} → Grammar A V → Type 0
IsUnique {A} {V} code =
    (value other : V) (prefix other_prefix rest other_rest : List A)
    → code.Spells value prefix → code.Spells other other_prefix → prefix ++ rest ≡ other_prefix ++ other_rest
    → (value ≡ other) × (prefix ≡ other_prefix)

-- a code whose letters give its values, of which just the values are spelled, each by what is written of it, and none by fewer letters
pub record IsLawful {A V : Type 0} (code : Grammar A V) : Type 0 where
  pub unique : IsUnique code
  pub value : (value : V) (prefix : List A) → code.Spells value prefix → code.IsValue value
  pub canonical : (value : V) → code.IsValue value → code.Spells value (code.short value)
  pub shortest : (value : V) (prefix : List A) → code.Spells value prefix → length (code.short value) ≤ length prefix
