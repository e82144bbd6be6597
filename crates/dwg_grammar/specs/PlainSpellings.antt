-- What codes over bytes spell, said of all groups at once, and what numbers of whole bytes and texts over bits spell, said of all bytes at once (Open Design Specification, "Bit codes"). The bounds of ten bytes and four units are rules of this project.
use Rattle.std.specs.Prelude.{ℕ, ℤ, ◌+◌, ◌-◌, ◌*◌, ◌<◌, ◌≤◌, ◌^◌, ◌≡◌, ◌↔◌, Bool, List, [], ◌∷◌, ◌++◌, length, map, take, drop, flat_map, if◌then◌else◌}
use Rattle.std.specs.List.{slice_index, range_with_len, sum, AllByRecursion}
use Rattle.std.specs.Int.{w16, w32, w64, to_le_bytes}
use Rattle.dwg_base.specs.Bytes.{AreBytes}
use Rattle.dwg_bits.specs.Bits.{bits}
use Rattle.dwg_grammar.specs.Codes.{bs, rs, rl, rd, tv}
use Rattle.dwg_grammar.specs.ModularCodes.{mc, ms, signed_mc, signed_number}

-- the number of a list of groups of value bits, the low group first: each group is worth so many times as much as the one before it
unfoldable pub number_of : ℕ → List ℕ → ℕ
number_of weight groups = sum (map (λ i. slice_index groups i * weight ^ i) (range_with_len 0 (length groups)))

-- the groups as they are spelled: all but the last say that another follows
unfoldable pub flagged : ℕ → List ℕ → List ℕ
flagged weight groups = map (λ group. weight + group) (take (length groups - 1) groups) ++ drop (length groups - 1) groups

-- from one to so many groups, each below its weight
pub record IsGroups (weight most : ℕ) (groups : List ℕ) : Type 0 where
  pub some : 0 < length groups
  pub within : length groups ≤ most
  pub below : AllByRecursion (λ group. group < weight) groups

-- MC spells a number below 2^63 by 1 to 10 groups of 7 bits, each a byte
abbrev pub McSpells : Type 0
McSpells = (value : ℕ) (letters : List ℕ) → mc.Spells value letters
    ↔ ((groups : List ℕ) × IsGroups 128 10 groups × (letters ≡ flagged 128 groups) × (value ≡ number_of 128 groups) × (value < 2 ^ 63))

-- MS spells a number by 1 to 4 groups of 15 bits, each two bytes, the low one first
abbrev pub MsSpells : Type 0
MsSpells = (value : ℕ) (letters : List ℕ) → ms.Spells value letters
    ↔ ((groups : List ℕ) × IsGroups 32768 4 groups × (letters ≡ flat_map (to_le_bytes w16) (flagged 32768 groups)) × (value ≡ number_of 32768 groups))

-- at most so many groups in all: those before 7 bits, and a last one of 6 bits above them
pub record IsSignedGroups (most : ℕ) (prefix : List ℕ) (last : ℕ) : Type 0 where
  pub within : length prefix < most
  pub below : AllByRecursion (λ group. group < 128) prefix
  pub last_below : last < 64

-- signed groups as they are spelled: all but the last say that another follows, and the last says the sign
unfoldable pub signed_flagged : List ℕ → ℕ → Bool → List ℕ
signed_flagged prefix last negative = map (λ group. 128 + group) prefix ++ (if negative then 64 + last else last) ∷ []

-- signed MC spells a number by a sign and a magnitude below 2^63, of 0 to 9 groups of 7 bits and a last one of 6 bits, each a byte
abbrev pub SignedMcSpells : Type 0
SignedMcSpells = (value : ℤ) (letters : List ℕ) → signed_mc.Spells value letters
    ↔ ((prefix : List ℕ) × (last : ℕ) × (negative : Bool) × IsSignedGroups 10 prefix last × (letters ≡ signed_flagged prefix last negative)
    × (number_of 128 (prefix ++ last ∷ []) < 2 ^ 63) × (value ≡ signed_number (negative, number_of 128 (prefix ++ last ∷ []))))

-- RS, RL and RD spell a number by the bits of its two, four and eight bytes, the low one first
abbrev pub RsSpells : Type 0
RsSpells = (value : ℕ) (letters : List Bool) → rs.Spells value letters ↔ ((value < 2 ^ 16) × (letters ≡ bits (to_le_bytes w16 value)))

abbrev pub RlSpells : Type 0
RlSpells = (value : ℕ) (letters : List Bool) → rl.Spells value letters ↔ ((value < 2 ^ 32) × (letters ≡ bits (to_le_bytes w32 value)))

abbrev pub RdSpells : Type 0
RdSpells = (value : ℕ) (letters : List Bool) → rd.Spells value letters ↔ ((value < 2 ^ 64) × (letters ≡ bits (to_le_bytes w64 value)))

-- TV spells a text by its length as a BS, and then the bits of its bytes
abbrev pub TvSpells : Type 0
TvSpells = (text : List ℕ) (letters : List Bool) → tv.Spells text letters
    ↔ (AreBytes text × ((prefix : List Bool) × bs.Spells (length text) prefix × (letters ≡ prefix ++ bits text)))
