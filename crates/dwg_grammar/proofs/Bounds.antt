-- How many bits the codes after a tag are written by at the most, whatever the value.
use Rattle.std.proofs.Common.{ℕ, zero, suc, ◌+◌, ◌/◌, ◌%◌, ◌^◌, ◌≤◌, Bool, List, ◌++◌, length, arith}
use Rattle.std.proofs.lemmas.List.{length-append}
use Rattle.dwg_bits.specs.Bits.{low_bits}
use Rattle.dwg_bits.proofs.BitLaws.{length_of_low_bits}
use Rattle.dwg_grammar.specs.Codes.{rc, rl, bs_by, bs_tag, bs, bl_by, bl_tag, bl, bd_by, bd_tag, bd, bd3, dd_by, dd_tag, dd}
use Rattle.dwg_grammar.specs.declared.points.Point3.{Point3}
use Rattle.dwg_grammar.proofs.NumberLemmas.{length_of_rc, length_of_rs, length_of_rl, length_of_rd}

-- a tag of two bits and what is after it
after_two : (most tag : ℕ) (back : List Bool) → length back ≤ most → length (low_bits 2 tag ++ back) ≤ 2 + most
after_two most tag back few = omega (arith, few, length-append (low_bits 2 tag) back, length_of_low_bits 2 tag)

-- after the tag of a BS stand at most 16 bits
bs_line : (tag value : ℕ) → length ((bs_by tag).short value) ≤ 16
bs_line zero value = omega (arith, length_of_rs value)
bs_line (suc zero) value = omega (arith, length_of_rc value)
bs_line (suc (suc zero)) value = omega arith
bs_line (suc (suc (suc zero))) value = omega arith
bs_line (suc (suc (suc (suc tag)))) value = omega arith

-- a BS has at most 18 bits
pub bs_at_most : (value : ℕ) → length (bs.short value) ≤ 18
bs_at_most value = after_two 16 (bs_tag value) _ (bs_line (bs_tag value) value)

-- after the tag of a BL stand at most 32 bits
bl_line : (tag value : ℕ) → length ((bl_by tag).short value) ≤ 32
bl_line zero value = omega (arith, length_of_rl value)
bl_line (suc zero) value = omega (arith, length_of_rc value)
bl_line (suc (suc zero)) value = omega arith
bl_line (suc (suc (suc tag))) value = omega arith

-- a BL has at most 34 bits
pub bl_at_most : (value : ℕ) → length (bl.short value) ≤ 34
bl_at_most value = after_two 32 (bl_tag value) _ (bl_line (bl_tag value) value)

-- after the tag of a BD stand at most 64 bits
bd_line : (tag value : ℕ) → length ((bd_by tag).short value) ≤ 64
bd_line zero value = omega (arith, length_of_rd value)
bd_line (suc zero) value = omega arith
bd_line (suc (suc zero)) value = omega arith
bd_line (suc (suc (suc tag))) value = omega arith

-- a BD has at most 66 bits
pub bd_at_most : (value : ℕ) → length (bd.short value) ≤ 66
bd_at_most value = after_two 64 (bd_tag value) _ (bd_line (bd_tag value) value)

-- three BDs have at most 198 bits
pub bd3_at_most : (point : Point3) → length (bd3.short point) ≤ 198
bd3_at_most point =
    omega (
      arith,
      length-append (bd.short point.x) (bd.short point.y ++ bd.short point.z),
      length-append (bd.short point.y) (bd.short point.z),
      bd_at_most point.x,
      bd_at_most point.y,
      bd_at_most point.z,
    )

-- after the tag of a DD stand at most 64 bits, whatever its default
dd_line : (default tag value : ℕ) → length ((dd_by default tag).short value) ≤ 64
dd_line default zero value = omega arith
dd_line default (suc zero) value = omega (arith, length_of_rl (value % 2 ^ 32))
dd_line default (suc (suc zero)) value =
    let fifth : ℕ = value / 2 ^ 32 % 2 ^ 8 in
    let sixth : ℕ = value / 2 ^ 40 % 2 ^ 8 in
    let low : ℕ = value % 2 ^ 32 in
    omega (arith, length-append (rc.short fifth) (rc.short sixth ++ rl.short low), length-append (rc.short sixth) (rl.short low), length_of_rc fifth, length_of_rc sixth, length_of_rl low)
dd_line default (suc (suc (suc zero))) value = omega (arith, length_of_rd value)
dd_line default (suc (suc (suc (suc tag)))) value = omega arith

-- a DD has at most 66 bits
pub dd_at_most : (default value : ℕ) → length ((dd default).short value) ≤ 66
dd_at_most default value = after_two 64 (dd_tag default value) _ (dd_line default (dd_tag default value) value)
