-- The bit codes of the table are codes.
use Rattle.std.proofs.Common.{◌≡◌, refl, sym, ◌∙◌, ap, subst, ℕ, zero, suc, ◌^◌, ◌<◌, ◌≤◌, Bool, true, false, List, length, arith}
use Rattle.std.specs.Prelude.{◌==◌, nat_lt, if◌then◌else◌}
use Rattle.std.proofs.lemmas.Bool.Decides.{nat_tests, Decides-eqb}
use Rattle.dwg_base.specs.Bytes.{AreBytes}
use Rattle.dwg_bits.proofs.BitLaws.{length_of_low_bits}
use Rattle.dwg_grammar.specs.Grammar.{Grammar, IsCode, AnyLetters}
use Rattle.dwg_grammar.specs.Combinators.{fixed, seq, tagged}
use Rattle.dwg_grammar.proofs.CombinatorLemmas.{any_letters_closed, fixed_is_code, always_is_code, never_is_code, seq_is_code, struct_is_code, tagged_is_code}
use Rattle.dwg_grammar.proofs.ListLemmas.{counted_is_code}
use Rattle.dwg_grammar.specs.declared.points.Point3.{Point3}
use Rattle.dwg_grammar.specs.Codes.{rc, ONE, bs_by, bs, bl_by, bl, bd_by, bd, bt_by, bt, IsPoint3, bd3, UPWARD, be_by, be_tag, be, tv}
use Rattle.dwg_grammar.proofs.NumberLemmas.{bytes_of_items, items_of_bytes, rc_is_code, rs_is_code, rl_is_code, rd_is_code, length_of_rc, length_of_rs, length_of_rl}

-- a code after a tag of so many bits is a code: all tags are as long
pub bit_tagged_is_code : {V : Type 0} (count : ℕ) (by : ℕ → Grammar Bool V) (IsTagged : V → Type 0) (pick : V → ℕ)
    → ((tag : ℕ) → tag < 2 ^ count → IsCode AnyLetters (by tag))
    → ((tag : ℕ) (value : V) → tag < 2 ^ count → (by tag).IsValue value → IsTagged value)
    → ((value : V) → IsTagged value → (pick value < 2 ^ count) × (by (pick value)).IsValue value)
    → ((tag : ℕ) (value : V) → tag < 2 ^ count → (by tag).IsValue value → length ((by (pick value)).short value) ≤ length ((by tag).short value))
    → IsCode AnyLetters (tagged (fixed count) by IsTagged pick)
bit_tagged_is_code count by IsTagged pick is_by tagged_value picked least =
    tagged_is_code AnyLetters (fixed count) by IsTagged pick any_letters_closed (fixed_is_code count) is_by tagged_value picked
    (λ tag value tag_fits fits. omega (arith, least tag value tag_fits fits, length_of_low_bits count (pick value), length_of_low_bits count tag))

-- what follows each tag of a BS is a code
bs_by_is_code : (tag : ℕ) → IsCode AnyLetters (bs_by tag)
bs_by_is_code zero = rs_is_code
bs_by_is_code (suc zero) = rc_is_code
bs_by_is_code (suc (suc zero)) = always_is_code AnyLetters 0
bs_by_is_code (suc (suc (suc zero))) = always_is_code AnyLetters 256
bs_by_is_code (suc (suc (suc (suc tag)))) = never_is_code AnyLetters

-- and its values have 16 bits
bs_by_value : (tag value : ℕ) → (bs_by tag).IsValue value → value < 2 ^ 16
bs_by_value zero value fits = fits
bs_by_value (suc zero) value fits = omega arith
bs_by_value (suc (suc zero)) value fits = omega arith
bs_by_value (suc (suc (suc zero))) value fits = omega arith
bs_by_value (suc (suc (suc (suc tag)))) value fits = absurd fits

-- the tag that is written of a BS, by what the tests say
abbrev bs_tag_by : Bool → Bool → Bool → ℕ
bs_tag_by none whole low = if none then 2 else (if whole then 3 else (if low then 1 else 0))

-- a value has the tag that is written of it
bs_picked : (value : ℕ) (none whole low : Bool) → (value == 0) ≡ none → (value == 256) ≡ whole → nat_lt value 256 ≡ low → value < 2 ^ 16
    → (bs_tag_by none whole low < 2 ^ 2) × (bs_by (bs_tag_by none whole low)).IsValue value
bs_picked value true whole low is_none is_whole is_low fits = (omega arith, grind (arith, nat_tests))
bs_picked value false true low is_none is_whole is_low fits = (omega arith, grind (arith, nat_tests))
bs_picked value false false true is_none is_whole is_low fits = (omega arith, grind (arith, nat_tests))
bs_picked value false false false is_none is_whole is_low fits = (omega arith, fits)

-- after the tag that is written there are no more bits than after another
bs_least : (value tag : ℕ) (none whole low : Bool) → (value == 0) ≡ none → (value == 256) ≡ whole → nat_lt value 256 ≡ low → (bs_by tag).IsValue value
    → length ((bs_by (bs_tag_by none whole low)).short value) ≤ length ((bs_by tag).short value)
bs_least value tag true whole low is_none is_whole is_low fits = omega arith
bs_least value tag false true low is_none is_whole is_low fits = omega arith
bs_least value zero false false true is_none is_whole is_low fits = omega (arith, length_of_rc value, length_of_rs value)
bs_least value (suc zero) false false true is_none is_whole is_low fits = omega arith
bs_least value (suc (suc zero)) false false low is_none is_whole is_low fits = absurd (grind (arith, nat_tests))
bs_least value (suc (suc (suc zero))) false false low is_none is_whole is_low fits = absurd (grind (arith, nat_tests))
bs_least value (suc (suc (suc (suc tag)))) false false low is_none is_whole is_low fits = absurd fits
bs_least value zero false false false is_none is_whole is_low fits = omega arith
bs_least value (suc zero) false false false is_none is_whole is_low fits = absurd (grind (arith, nat_tests))

-- a BS is a code
pub bs_is_code : IsCode AnyLetters bs
bs_is_code =
    bit_tagged_is_code 2 bs_by (λ value. value < 2 ^ 16) (λ value. bs_tag_by (value == 0) (value == 256) (nat_lt value 256))
    (λ tag in_range. bs_by_is_code tag) (λ tag value in_range fits. bs_by_value tag value fits)
    (λ value fits. bs_picked value (value == 0) (value == 256) (nat_lt value 256) refl refl refl fits)
    (λ tag value in_range fits. bs_least value tag (value == 0) (value == 256) (nat_lt value 256) refl refl refl fits)

-- what follows each tag of a BL is a code
bl_by_is_code : (tag : ℕ) → IsCode AnyLetters (bl_by tag)
bl_by_is_code zero = rl_is_code
bl_by_is_code (suc zero) = rc_is_code
bl_by_is_code (suc (suc zero)) = always_is_code AnyLetters 0
bl_by_is_code (suc (suc (suc tag))) = never_is_code AnyLetters

-- and its values have 32 bits
bl_by_value : (tag value : ℕ) → (bl_by tag).IsValue value → value < 2 ^ 32
bl_by_value zero value fits = fits
bl_by_value (suc zero) value fits = omega arith
bl_by_value (suc (suc zero)) value fits = omega arith
bl_by_value (suc (suc (suc tag))) value fits = absurd fits

-- the tag that is written of a BL, by what the tests say
abbrev bl_tag_by : Bool → Bool → ℕ
bl_tag_by none low = if none then 2 else (if low then 1 else 0)

-- a value has the tag that is written of it
bl_picked : (value : ℕ) (none low : Bool) → (value == 0) ≡ none → nat_lt value 256 ≡ low → value < 2 ^ 32
    → (bl_tag_by none low < 2 ^ 2) × (bl_by (bl_tag_by none low)).IsValue value
bl_picked value true low is_none is_low fits = (omega arith, grind (arith, nat_tests))
bl_picked value false true is_none is_low fits = (omega arith, grind (arith, nat_tests))
bl_picked value false false is_none is_low fits = (omega arith, fits)

-- after the tag that is written there are no more bits than after another
bl_least : (value tag : ℕ) (none low : Bool) → (value == 0) ≡ none → nat_lt value 256 ≡ low → (bl_by tag).IsValue value
    → length ((bl_by (bl_tag_by none low)).short value) ≤ length ((bl_by tag).short value)
bl_least value tag true low is_none is_low fits = omega arith
bl_least value zero false true is_none is_low fits = omega (arith, length_of_rc value, length_of_rl value)
bl_least value (suc zero) false true is_none is_low fits = omega arith
bl_least value (suc (suc zero)) false low is_none is_low fits = absurd (grind (arith, nat_tests))
bl_least value (suc (suc (suc tag))) false low is_none is_low fits = absurd fits
bl_least value zero false false is_none is_low fits = omega arith
bl_least value (suc zero) false false is_none is_low fits = absurd (grind (arith, nat_tests))

-- a BL is a code
pub bl_is_code : IsCode AnyLetters bl
bl_is_code =
    bit_tagged_is_code 2 bl_by (λ value. value < 2 ^ 32) (λ value. bl_tag_by (value == 0) (nat_lt value 256))
    (λ tag in_range. bl_by_is_code tag) (λ tag value in_range fits. bl_by_value tag value fits)
    (λ value fits. bl_picked value (value == 0) (nat_lt value 256) refl refl fits)
    (λ tag value in_range fits. bl_least value tag (value == 0) (nat_lt value 256) refl refl fits)

-- what follows each tag of a BD is a code
bd_by_is_code : (tag : ℕ) → IsCode AnyLetters (bd_by tag)
bd_by_is_code zero = rd_is_code
bd_by_is_code (suc zero) = always_is_code AnyLetters ONE
bd_by_is_code (suc (suc zero)) = always_is_code AnyLetters 0
bd_by_is_code (suc (suc (suc tag))) = never_is_code AnyLetters

-- and its values have 64 bits
bd_by_value : (tag value : ℕ) → (bd_by tag).IsValue value → value < 2 ^ 64
bd_by_value zero value fits = fits
bd_by_value (suc zero) value fits = omega arith
bd_by_value (suc (suc zero)) value fits = omega arith
bd_by_value (suc (suc (suc tag))) value fits = absurd fits

-- the tag that is written of a BD, by what the tests say
abbrev bd_tag_by : Bool → Bool → ℕ
bd_tag_by none one = if none then 2 else (if one then 1 else 0)

-- a value has the tag that is written of it
bd_picked : (value : ℕ) (none one : Bool) → (value == 0) ≡ none → (value == ONE) ≡ one → value < 2 ^ 64
    → (bd_tag_by none one < 2 ^ 2) × (bd_by (bd_tag_by none one)).IsValue value
bd_picked value true one is_none is_one fits = (omega arith, grind (arith, nat_tests))
bd_picked value false true is_none is_one fits = (omega arith, grind (arith, nat_tests))
bd_picked value false false is_none is_one fits = (omega arith, fits)

-- after the tag that is written there are no more bits than after another
bd_least : (value tag : ℕ) (none one : Bool) → (value == 0) ≡ none → (value == ONE) ≡ one → (bd_by tag).IsValue value
    → length ((bd_by (bd_tag_by none one)).short value) ≤ length ((bd_by tag).short value)
bd_least value tag true one is_none is_one fits = omega arith
bd_least value tag false true is_none is_one fits = omega arith
bd_least value zero false false is_none is_one fits = omega arith
bd_least value (suc zero) false false is_none is_one fits = absurd (grind (arith, nat_tests))
bd_least value (suc (suc zero)) false false is_none is_one fits = absurd (grind (arith, nat_tests))
bd_least value (suc (suc (suc tag))) false false is_none is_one fits = absurd fits

-- a BD is a code
pub bd_is_code : IsCode AnyLetters bd
bd_is_code =
    bit_tagged_is_code 2 bd_by (λ value. value < 2 ^ 64) (λ value. bd_tag_by (value == 0) (value == ONE))
    (λ tag in_range. bd_by_is_code tag) (λ tag value in_range fits. bd_by_value tag value fits)
    (λ value fits. bd_picked value (value == 0) (value == ONE) refl refl fits)
    (λ tag value in_range fits. bd_least value tag (value == 0) (value == ONE) refl refl fits)

-- what follows each tag of a BT is a code
bt_by_is_code : (tag : ℕ) → IsCode AnyLetters (bt_by tag)
bt_by_is_code zero = bd_is_code
bt_by_is_code (suc zero) = always_is_code AnyLetters 0
bt_by_is_code (suc (suc tag)) = never_is_code AnyLetters

-- and its values have 64 bits
bt_by_value : (tag value : ℕ) → (bt_by tag).IsValue value → value < 2 ^ 64
bt_by_value zero value fits = fits
bt_by_value (suc zero) value fits = omega arith
bt_by_value (suc (suc tag)) value fits = absurd fits

-- a value has the tag that is written of it
bt_picked : (value : ℕ) (none : Bool) → (value == 0) ≡ none → value < 2 ^ 64 → ((if none then 1 else 0) < 2 ^ 1) × (bt_by (if none then 1 else 0)).IsValue value
bt_picked value true is_none fits = (omega arith, grind (arith, nat_tests))
bt_picked value false is_none fits = (omega arith, fits)

-- after the tag that is written there are no more bits than after another
bt_least : (value tag : ℕ) (none : Bool) → (value == 0) ≡ none → (bt_by tag).IsValue value
    → length ((bt_by (if none then 1 else 0)).short value) ≤ length ((bt_by tag).short value)
bt_least value tag true is_none fits = omega arith
bt_least value zero false is_none fits = omega arith
bt_least value (suc zero) false is_none fits = absurd (grind (arith, nat_tests))
bt_least value (suc (suc tag)) false is_none fits = absurd fits

-- a BT is a code
pub bt_is_code : IsCode AnyLetters bt
bt_is_code =
    bit_tagged_is_code 1 bt_by (λ value. value < 2 ^ 64) (λ value. if value == 0 then 1 else 0)
    (λ tag in_range. bt_by_is_code tag) (λ tag value in_range fits. bt_by_value tag value fits)
    (λ value fits. bt_picked value (value == 0) refl fits)
    (λ tag value in_range fits. bt_least value tag (value == 0) refl fits)

-- a 3BD is a code
pub bd3_is_code : IsCode AnyLetters bd3
bd3_is_code =
    struct_is_code AnyLetters IsPoint3 (λ (words : ℕ × (ℕ × ℕ)). record { x = words.0; y = words.1.0; z = words.1.1 }) (λ (point : Point3). (point.x, (point.y, point.z)))
    (seq bd (λ x. seq bd (λ y. bd)))
    (seq_is_code AnyLetters bd (λ x. seq bd (λ y. bd)) any_letters_closed bd_is_code
    (λ x fits. seq_is_code AnyLetters bd (λ y. bd) any_letters_closed bd_is_code (λ y fits. bd_is_code)))
    (λ words fits. record { x = fits.0; y = fits.1.0; z = fits.1.1 })
    (λ point fits. ((fits.x, (fits.y, fits.z)), refl))
    (λ words fits. refl)

-- what follows each tag of a BE is a code
be_by_is_code : (tag : ℕ) → IsCode AnyLetters (be_by tag)
be_by_is_code zero = bd3_is_code
be_by_is_code (suc zero) = always_is_code AnyLetters UPWARD
be_by_is_code (suc (suc tag)) = never_is_code AnyLetters

-- and its words have 64 bits
be_by_value : (tag : ℕ) (point : Point3) → (be_by tag).IsValue point → IsPoint3 point
be_by_value zero point fits = fits
be_by_value (suc zero) point fits = subst IsPoint3 (sym fits) (record { x = omega arith; y = omega arith; z = omega arith })
be_by_value (suc (suc tag)) point fits = absurd fits

-- the tag that is written of a BE, by what the tests say of its point
abbrev be_tag_by : Bool → Bool → Bool → ℕ
be_tag_by no_x no_y one_z = if no_x then (if no_y then (if one_z then 1 else 0) else 0) else 0

-- a point has the tag that is written of it
be_picked : (point : Point3) (no_x no_y one_z : Bool) → (point.x == 0) ≡ no_x → (point.y == 0) ≡ no_y → (point.z == ONE) ≡ one_z → IsPoint3 point
    → (be_tag_by no_x no_y one_z < 2 ^ 1) × (be_by (be_tag_by no_x no_y one_z)).IsValue point
be_picked point true true true no_x no_y one_z fits = (
  omega arith,
  ap (λ (x : ℕ). let p : Point3 = record { x = x; y = point.y; z = point.z } in p) ((Decides-eqb point.x 0).0 no_x)
      ∙ ap (λ (y : ℕ). let p : Point3 = record { x = 0; y = y; z = point.z } in p) ((Decides-eqb point.y 0).0 no_y)
      ∙ ap (λ (z : ℕ). let p : Point3 = record { x = 0; y = 0; z = z } in p) ((Decides-eqb point.z ONE).0 one_z),
)
be_picked point true true false no_x no_y one_z fits = (omega arith, fits)
be_picked point true false one no_x no_y one_z fits = (omega arith, fits)
be_picked point false y one no_x no_y one_z fits = (omega arith, fits)

-- after the tag that is written there are no more bits than after another
be_least : (point : Point3) (tag : ℕ) → (be_by tag).IsValue point → length ((be_by (be_tag point)).short point) ≤ length ((be_by tag).short point)
be_least point zero fits = by_tests (point.x == 0) (point.y == 0) (point.z == ONE)
  where
    by_tests : (no_x no_y one_z : Bool) → length ((be_by (be_tag_by no_x no_y one_z)).short point) ≤ length ((be_by 0).short point)
    by_tests true true true = omega arith
    by_tests true true false = omega arith
    by_tests true false one_z = omega arith
    by_tests false no_y one_z = omega arith
be_least point (suc zero) fits = subst (λ (p : Point3). length ((be_by (be_tag p)).short p) ≤ 0) (sym fits) (omega arith)
be_least point (suc (suc tag)) fits = absurd fits

-- a BE is a code
pub be_is_code : IsCode AnyLetters be
be_is_code =
    bit_tagged_is_code 1 be_by IsPoint3 be_tag
    (λ tag in_range. be_by_is_code tag) (λ tag point in_range fits. be_by_value tag point fits)
    (λ point fits. be_picked point (point.x == 0) (point.y == 0) (point.z == ONE) refl refl refl fits)
    (λ tag point in_range fits. be_least point tag fits)

-- a TV is a code
pub tv_is_code : IsCode AnyLetters tv
unfolding tv
tv_is_code = counted_is_code AnyLetters bs rc any_letters_closed bs_is_code rc_is_code

-- the values of a TV are the lists of bytes of a length below 2^16
pub tv_bytes : (bytes : List ℕ) → tv.IsValue bytes → (length bytes < 2 ^ 16) × AreBytes bytes
unfolding tv
tv_bytes bytes fits = (fits.0, bytes_of_items rc (λ value small. small) bytes fits.1)

-- and each of them is one
pub tv_has : (bytes : List ℕ) → length bytes < 2 ^ 16 → AreBytes bytes → tv.IsValue bytes
unfolding tv
tv_has bytes short are = (short, items_of_bytes rc (λ value small. small) bytes are)
