-- The table of bit codes (Open Design Specification, "Bit codes"). A code's spellings can be read off its lines; the last argument of tagged says which tag is written. Which spelling is written, and that 11 of BL and BD is none, are rules of this project.
use Rattle.std.specs.Prelude.{ℕ, zero, suc, ◌+◌, ◌*◌, ◌/◌, ◌%◌, ◌<◌, ◌^◌, Bool, List, nat_lt, ◌==◌, if◌then◌else◌, ◌≡◌, ⊤}
use Rattle.std.specs.Int.{w16, w32, w64, from_le_bytes, to_le_bytes}
use Rattle.dwg_grammar.specs.Grammar.{Grammar}
use Rattle.dwg_grammar.specs.Combinators.{fixed, always, never, tagged, seq, image, items, counted}
use Rattle.dwg_grammar.specs.declared.points.Point3.{Point3}

-- BB: two bits; RC: eight bits
abbrev pub bb : Grammar Bool ℕ
bb = fixed 2

abbrev pub rc : Grammar Bool ℕ
rc = fixed 8

-- the bytes of a word of 64 bits, the least significant first; unfoldable, since a goal over several words would hold eight terms for each
unfoldable pub word_bytes : ℕ → List ℕ
word_bytes = to_le_bytes w64

-- RS, RL, RD: two, four, eight RCs, the least significant byte first
abbrev pub rs : Grammar Bool ℕ
rs = image (λ value. value < 2 ^ 16) (from_le_bytes w16) (to_le_bytes w16) (items rc 2)

abbrev pub rl : Grammar Bool ℕ
rl = image (λ value. value < 2 ^ 32) (from_le_bytes w32) (to_le_bytes w32) (items rc 4)

abbrev pub rd : Grammar Bool ℕ
rd = image (λ value. value < 2 ^ 64) (from_le_bytes w64) word_bytes (items rc 8)

-- the words of 1.0
abbrev pub ONE : ℕ
ONE = 0x3FF0000000000000

-- BS: 00 RS; 01 RC; 10 is 0; 11 is 256
abbrev pub bs_by : ℕ → Grammar Bool ℕ
bs_by zero = rs
bs_by (suc zero) = rc
bs_by (suc (suc zero)) = always 0
bs_by (suc (suc (suc zero))) = always 256
bs_by (suc (suc (suc (suc tag)))) = never

-- the tag by which a value is written
abbrev pub bs_tag : ℕ → ℕ
bs_tag value = if value == 0 then 2 else (if value == 256 then 3 else (if nat_lt value 256 then 1 else 0))

abbrev pub bs : Grammar Bool ℕ
bs = tagged bb bs_by (λ value. value < 2 ^ 16) bs_tag

-- BL: 00 RL; 01 RC; 10 is 0
abbrev pub bl_by : ℕ → Grammar Bool ℕ
bl_by zero = rl
bl_by (suc zero) = rc
bl_by (suc (suc zero)) = always 0
bl_by (suc (suc (suc tag))) = never

-- the tag by which a value is written
abbrev pub bl_tag : ℕ → ℕ
bl_tag value = if value == 0 then 2 else (if nat_lt value 256 then 1 else 0)

abbrev pub bl : Grammar Bool ℕ
bl = tagged bb bl_by (λ value. value < 2 ^ 32) bl_tag

-- BD: 00 RD; 01 is 1.0; 10 is 0.0
abbrev pub bd_by : ℕ → Grammar Bool ℕ
bd_by zero = rd
bd_by (suc zero) = always ONE
bd_by (suc (suc zero)) = always 0
bd_by (suc (suc (suc tag))) = never

-- the tag by which a value is written
abbrev pub bd_tag : ℕ → ℕ
bd_tag value = if value == 0 then 2 else (if value == ONE then 1 else 0)

abbrev pub bd : Grammar Bool ℕ
bd = tagged bb bd_by (λ value. value < 2 ^ 64) bd_tag

-- DD with a default: 00 is the default; 01 and four RCs, which replace its four low bytes, lowest first; 10 and six RCs: the first replaces byte 5, counted from the low end from 1, the second byte 6, the others the four low bytes, lowest first; 11 RD
abbrev pub dd_by : ℕ → ℕ → Grammar Bool ℕ
dd_by default zero = always default
dd_by default (suc zero) =
    image (λ value. (value < 2 ^ 64) × (value / 2 ^ 32 ≡ default / 2 ^ 32)) (λ low. default / 2 ^ 32 * 2 ^ 32 + low) (λ value. value % 2 ^ 32) rl
dd_by default (suc (suc zero)) =
    image (λ value. (value < 2 ^ 64) × (value / 2 ^ 48 ≡ default / 2 ^ 48))
    (λ parts. default / 2 ^ 48 * 2 ^ 48 + parts.1.0 * 2 ^ 40 + parts.0 * 2 ^ 32 + parts.1.1)
    (λ value. (value / 2 ^ 32 % 2 ^ 8, (value / 2 ^ 40 % 2 ^ 8, value % 2 ^ 32)))
    (seq rc (λ fifth. seq rc (λ sixth. rl)))
dd_by default (suc (suc (suc zero))) = rd
dd_by default (suc (suc (suc (suc tag)))) = never

-- the tag by which a value is written
abbrev pub dd_tag : ℕ → ℕ → ℕ
dd_tag default value =
    if value == default then 0 else (if value / 2 ^ 32 == default / 2 ^ 32 then 1 else (if value / 2 ^ 48 == default / 2 ^ 48 then 2 else 3))

abbrev pub dd : ℕ → Grammar Bool ℕ
dd default = tagged bb (dd_by default) (λ value. value < 2 ^ 64) (dd_tag default)

-- BT: 1 is 0.0; 0 BD
abbrev pub bt_by : ℕ → Grammar Bool ℕ
bt_by zero = bd
bt_by (suc zero) = always 0
bt_by (suc (suc tag)) = never

-- the tag by which a value is written
abbrev pub bt_tag : ℕ → ℕ
bt_tag value = if value == 0 then 1 else 0

abbrev pub bt : Grammar Bool ℕ
bt = tagged (fixed 1) bt_by (λ value. value < 2 ^ 64) bt_tag

-- the words of a point lie in the range of their type
pub record IsPoint3 (point : Point3) : Type 0 where
  pub x : point.x < 2 ^ 64
  pub y : point.y < 2 ^ 64
  pub z : point.z < 2 ^ 64

-- three BDs
abbrev pub bd3 : Grammar Bool Point3
bd3 = image IsPoint3 (λ words. record { x = words.0; y = words.1.0; z = words.1.1 }) (λ point. (point.x, (point.y, point.z)))
    (seq bd (λ x. seq bd (λ y. bd)))

-- the extrusion that isn't spelled out
abbrev pub UPWARD : Point3
UPWARD = record { x = 0; y = 0; z = ONE }

-- BE: 1 is (0, 0, 1.0); 0 and three BDs
abbrev pub be_by : ℕ → Grammar Bool Point3
be_by zero = bd3
be_by (suc zero) = always UPWARD
be_by (suc (suc tag)) = never

-- the tag by which a point is written
abbrev pub be_tag : Point3 → ℕ
be_tag point = if point.x == 0 then (if point.y == 0 then (if point.z == ONE then 1 else 0) else 0) else 0

abbrev pub be : Grammar Bool Point3
be = tagged (fixed 1) be_by IsPoint3 be_tag

-- TV: BS length, then that many RCs
unfoldable pub tv : Grammar Bool (List ℕ)
tv = counted bs rc

-- B: one bit, of which 1 is true
abbrev pub b : Grammar Bool Bool
b = image (λ value. ⊤) (λ bit. bit == 1) (λ value. if value then 1 else 0) (fixed 1)
