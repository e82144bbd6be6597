-- References: what a reference is for and how its target is given, and the target (Open Design Specification, "Handle references"). Which codes are references, and the bounds on targets, are rules of this project.
use Rattle.std.specs.Prelude.{◌≡◌, ◌⊎◌, ℕ, ◌+◌, ◌*◌, ◌^◌, ◌<◌, ◌≤◌, Bool, List, ◌++◌, ◌==◌, ◌||◌, ◌&&◌, nat_lt, nat_le}
use Rattle.dwg_bits.specs.Bits.{low_bits}

-- a reference as contracts see it
pub record Reference : Type 0 where
  pub code : ℕ
  pub target : ℕ

-- a code is that of a reference: 0 to 5, 6, 8, A and C
abbrev pub is_reference_code : ℕ → Bool
is_reference_code code = nat_lt code 7 || code == 8 || code == 10 || code == 12

-- what a code, a count of bytes and the number in them give of the target, seen from the object of a handle: codes 0 to 5 give the number itself, 6 and 8 without bytes the next handle and the one before, A and C an offset ahead and back
abbrev pub GivesTarget : ℕ → ℕ → ℕ → ℕ → ℕ → Type 0
GivesTarget base code count number target = (target < 2 ^ 63) × (
    ((code < 6) × (target ≡ number))
    ⊎ ((code ≡ 6) × (count ≡ 0) × (target ≡ base + 1))
    ⊎ ((code ≡ 8) × (count ≡ 0) × (target + 1 ≡ base))
    ⊎ ((code ≡ 10) × (target ≡ base + number))
    ⊎ ((code ≡ 12) × (target + number ≡ base)))

-- bits spell a reference of the object of a handle: four bits of code, four bits of a count of bytes, at most eight, and so many bytes of a number, the most significant first, which together give the target
pub record RefSpells (base : ℕ) (reference : Reference) (letters : List Bool) : Type 0 where
  pub count : ℕ
  pub number : ℕ
  pub few : count ≤ 8
  pub fits : number < 2 ^ (8 * count)
  pub spelled : letters ≡ low_bits 4 reference.code ++ (low_bits 4 count ++ low_bits (8 * count) number)
  pub gives : GivesTarget base reference.code count number reference.target

-- bits spell an object's own handle: code 0, and a positive number
pub record OwnSpells (own : ℕ) (letters : List Bool) : Type 0 where
  pub count : ℕ
  pub few : count ≤ 8
  pub fits : own < 2 ^ (8 * count)
  pub spelled : letters ≡ low_bits 4 0 ++ (low_bits 4 count ++ low_bits (8 * count) own)
  pub positive : 0 < own
  pub within : own < 2 ^ 63

-- the code reaches the target from a handle: 6 only the next, 8 only the one before, A none before it, C none after it, the others any
abbrev pub reaches : ℕ → Reference → Bool
reaches base reference =
    nat_lt reference.target (2 ^ 63)
    && (nat_lt reference.code 6
    || (reference.code == 6 && reference.target == base + 1)
    || (reference.code == 8 && reference.target + 1 == base)
    || (reference.code == 10 && nat_le base reference.target)
    || (reference.code == 12 && nat_le reference.target base))
