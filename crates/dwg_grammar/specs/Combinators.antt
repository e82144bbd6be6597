-- Codes made of codes: each says what it spells of what its parts spell. A rule of this project.
use Rattle.std.specs.Prelude.{◌≡◌, ⊤, ℕ, zero, suc, ◌^◌, ◌<◌, ◌≢◌, Bool, true, false, List, [], ◌∷◌, ◌++◌, length, take, drop, Option, Some, None, nat_lt, option_map, option_and_then, if◌then◌else◌}
use Rattle.dwg_bits.specs.Bits.{low_bits, num}
use Rattle.dwg_grammar.specs.Grammar.{Grammar}

-- so many bits as a number, the first bit highest
abbrev pub fixed : ℕ → Grammar Bool ℕ
fixed count = record {
  Spells = λ value letters. (length letters ≡ count) × (value ≡ num letters);
  IsValue = λ value. value < 2 ^ count;
  parse = λ letters. if nat_lt (length letters) count then None else Some (num (take count letters), drop count letters);
  short = λ value. low_bits count value;
}

-- one byte
abbrev pub byte_parse : List ℕ → Option (ℕ × List ℕ)
byte_parse [] = None
byte_parse (byte ∷ rest) = Some (byte, rest)

abbrev pub one_byte : Grammar ℕ ℕ
one_byte = record {
  Spells = λ value letters. (value < 2 ^ 8) × (letters ≡ value ∷ []);
  IsValue = λ value. value < 2 ^ 8;
  parse = byte_parse;
  short = λ value. value ∷ [];
}

-- one value, spelled by nothing
abbrev pub always : {A V : Type 0} → V → Grammar A V
always {A} {V} only = record {
  Spells = λ value letters. (value ≡ only) × (letters ≡ []);
  IsValue = λ value. value ≡ only;
  parse = λ letters. Some (only, letters);
  short = λ value. [];
}

-- no value
abbrev pub never : {A V : Type 0} → Grammar A V
never {A} {V} = record {
  Spells = λ value letters. ⊥;
  IsValue = λ value. ⊥;
  parse = λ letters. None;
  short = λ value. [];
}

-- one code and then another, which may depend on the first value
abbrev pub seq : {A V W : Type 0} → Grammar A V → (V → Grammar A W) → Grammar A (V × W)
seq {A} {V} {W} first second = record {
  Spells = λ both letters. (prefix : List A) × (back : List A) × first.Spells both.0 prefix × (second both.0).Spells both.1 back × (letters ≡ prefix ++ back);
  IsValue = λ both. first.IsValue both.0 × (second both.0).IsValue both.1;
  parse = λ letters. option_and_then (λ (one : V × List A). option_map (λ (two : W × List A). ((one.0, two.0), two.1)) ((second one.0).parse one.1)) (first.parse letters);
  short = λ both. first.short both.0 ++ (second both.0).short both.1;
}

-- one code and then another, whatever the first value is
infixr 20 ◌⋄◌
abbrev pub ◌⋄◌ : {A V W : Type 0} → Grammar A V → Grammar A W → Grammar A (V × W)
◌⋄◌ {A} {V} {W} first second = seq first (λ one. second)

-- one of two codes, by a test
abbrev pub choose : {A V : Type 0} → Bool → Grammar A V → Grammar A V → Grammar A V
choose {A} {V} true chosen otherwise = chosen
choose {A} {V} false chosen otherwise = otherwise

-- what the values of a code are seen as: a struct by its parts, a number by its bytes. Values that are seen alike are one; back says by which of them it is written
abbrev pub image : {A V W : Type 0} → (W → Type 0) → (V → W) → (W → V) → Grammar A V → Grammar A W
image {A} {V} {W} IsSeen into back code = record {
  Spells = λ value letters. (inner : V) × (value ≡ into inner) × code.Spells inner letters;
  IsValue = IsSeen;
  parse = λ letters. option_map (λ (found : V × List A). (into found.0, found.1)) (code.parse letters);
  short = λ value. code.short (back value);
}

-- only the values that pass a test
abbrev pub restrict : {A V : Type 0} → (V → Bool) → Grammar A V → Grammar A V
restrict {A} {V} test code = record {
  Spells = λ value letters. (test value ≡ true) × code.Spells value letters;
  IsValue = λ value. (test value ≡ true) × code.IsValue value;
  parse = λ letters. option_and_then (λ (found : V × List A). if test found.0 then Some found else None) (code.parse letters);
  short = code.short;
}

-- a tag, and then by the tag: a value may have spellings under several tags, and pick says which of them is written
abbrev pub tagged : {A T V : Type 0} → Grammar A T → (T → Grammar A V) → (V → Type 0) → (V → T) → Grammar A V
tagged {A} {T} {V} tags by IsTagged pick = record {
  Spells = λ value letters. (tag : T) × (prefix : List A) × (back : List A) × tags.Spells tag prefix × (by tag).Spells value back × (letters ≡ prefix ++ back);
  IsValue = IsTagged;
  parse = λ letters. option_and_then (λ (one : T × List A). (by one.0).parse one.1) (tags.parse letters);
  short = λ value. tags.short (pick value) ++ (by (pick value)).short value;
}

-- Some of a value where the test holds, and None, spelled by nothing, elsewhere
abbrev pub when : {A V : Type 0} → Bool → Grammar A V → Grammar A (Option V)
when {A} {V} true code = record {
  Spells = λ value letters. (inner : V) × (value ≡ Some inner) × code.Spells inner letters;
  IsValue = λ value. (inner : V) × (value ≡ Some inner) × code.IsValue inner;
  parse = λ letters. option_map (λ (found : V × List A). (Some found.0, found.1)) (code.parse letters);
  short = short_of;
}
  where
    short_of : Option V → List A
    short_of (Some inner) = code.short inner
    short_of None = []
when {A} {V} false code = always None

-- values one after the other: the code of each follows from a state, and the state from the value before
abbrev pub SpellsChain : {A S V : Type 0} → (S → Grammar A V) → (V → S) → S → List V → List A → Type 0
SpellsChain {A} {S} {V} code next state [] letters = letters ≡ []
SpellsChain {A} {S} {V} code next state (value ∷ values) letters =
    (prefix : List A) × (back : List A) × (code state).Spells value prefix × SpellsChain code next (next value) values back × (letters ≡ prefix ++ back)

abbrev pub IsChain : {A S V : Type 0} → (S → Grammar A V) → (V → S) → S → List V → Type 0
IsChain {A} {S} {V} code next state [] = ⊤
IsChain {A} {S} {V} code next state (value ∷ values) = (code state).IsValue value × IsChain code next (next value) values

abbrev pub parse_chain : {A S V : Type 0} → (S → Grammar A V) → (V → S) → S → ℕ → List A → Option (List V × List A)
parse_chain {A} {S} {V} code next state zero letters = Some ([], letters)
parse_chain {A} {S} {V} code next state (suc count) letters =
    option_and_then
    (λ (one : V × List A). option_map (λ (others : List V × List A). (one.0 ∷ others.0, others.1)) (parse_chain code next (next one.0) count one.1))
    ((code state).parse letters)

abbrev pub short_chain : {A S V : Type 0} → (S → Grammar A V) → (V → S) → S → List V → List A
short_chain {A} {S} {V} code next state [] = []
short_chain {A} {S} {V} code next state (value ∷ values) = (code state).short value ++ short_chain code next (next value) values

-- a list of so many values, each of which sees the one before
unfoldable pub chain : {A S V : Type 0} → (S → Grammar A V) → (V → S) → S → ℕ → Grammar A (List V)
chain {A} {S} {V} code next state count = record {
  Spells = λ values letters. (length values ≡ count) × SpellsChain code next state values letters;
  IsValue = λ values. (length values ≡ count) × IsChain code next state values;
  parse = λ letters. parse_chain code next state count letters;
  short = λ values. short_chain code next state values;
}

-- a list of so many values
abbrev pub items : {A V : Type 0} → Grammar A V → ℕ → Grammar A (List V)
items {A} {V} code count = chain (λ (state : ℕ). code) (λ value. 0) 0 count

-- a count, and then a list of so many values
abbrev pub counted : {A V : Type 0} → Grammar A ℕ → Grammar A V → Grammar A (List V)
counted {A} {V} counts code =
    image (λ values. counts.IsValue (length values) × IsChain (λ (state : ℕ). code) (λ value. 0) 0 values)
    (λ both. both.1) (λ values. (length values, values)) (seq counts (items code))

-- values up to a mark: each after a tag that isn't the mark and on which its code depends
abbrev pub SpellsUntil : {A T V : Type 0} → Grammar A T → T → (T → Grammar A V) → List V → List A → Type 0
SpellsUntil {A} {T} {V} tags mark code [] letters = tags.Spells mark letters
SpellsUntil {A} {T} {V} tags mark code (value ∷ values) letters =
    (tag : T) × (prefix : List A) × (middle : List A) × (back : List A) × (tag ≢ mark) × tags.Spells tag prefix × (code tag).Spells value middle
    × SpellsUntil tags mark code values back × (letters ≡ prefix ++ middle ++ back)

abbrev pub IsUntil : {V : Type 0} → (V → Type 0) → List V → Type 0
IsUntil IsItem [] = ⊤
IsUntil IsItem (value ∷ values) = IsItem value × IsUntil IsItem values

abbrev pub parse_until : {A T V : Type 0} → Grammar A T → (T → Bool) → (T → Grammar A V) → ℕ → List A → Option (List V × List A)
parse_until {A} {T} {V} tags is_mark code zero letters = None
parse_until {A} {T} {V} tags is_mark code (suc fuel) letters =
    option_and_then
    (λ (one : T × List A). if is_mark one.0 then Some ([], one.1) else option_and_then
    (λ (two : V × List A). option_map (λ (others : List V × List A). (two.0 ∷ others.0, others.1)) (parse_until tags is_mark code fuel two.1))
    ((code one.0).parse one.1))
    (tags.parse letters)

abbrev pub short_until : {A T V : Type 0} → Grammar A T → T → (T → Grammar A V) → (V → T) → List V → List A
short_until {A} {T} {V} tags mark code tag_of [] = tags.short mark
short_until {A} {T} {V} tags mark code tag_of (value ∷ values) =
    tags.short (tag_of value) ++ (code (tag_of value)).short value ++ short_until tags mark code tag_of values

-- a list of values up to a mark, where tag_of is the one tag of a value, and is_mark tests for the mark
unfoldable pub until : {A T V : Type 0} → Grammar A T → T → (T → Bool) → (T → Grammar A V) → (V → T) → (V → Type 0) → Grammar A (List V)
until {A} {T} {V} tags mark is_mark code tag_of IsItem = record {
  Spells = λ values letters. SpellsUntil tags mark code values letters;
  IsValue = λ values. IsUntil IsItem values;
  parse = λ letters. parse_until tags is_mark code (suc (length letters)) letters;
  short = λ values. short_until tags mark code tag_of values;
}

-- a struct is spelled as its parts are, and has a spelling where they have one
abbrev pub shaped : {V W : Type 0} → (V → W) → (W → V) → Grammar Bool V → Grammar Bool W
shaped {V} {W} into back code = image (λ value. code.IsValue (back value)) into back code
