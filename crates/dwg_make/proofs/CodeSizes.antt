-- How many bits each code is written by at the most, whatever the value.
use Rattle.std.proofs.Common.{◌≡◌, ℕ, zero, suc, ◌+◌, ◌*◌, ◌<◌, ◌≤◌, Bool, true, false, List, [], ◌∷◌, ◌++◌, length, Some, arith}
use Rattle.std.specs.Prelude.{◌-◌, ◌^◌, ◌==◌, nat_lt, find, unwrap_or, cond}
use Rattle.std.specs.List.{AllByRecursion}
use Rattle.std.proofs.lemmas.Bool.Decides.{nat_tests}
use Rattle.std.proofs.lemmas.List.{length-append}
use Rattle.dwg_bits.specs.Bits.{low_bits}
use Rattle.dwg_bits.proofs.BitLaws.{length_of_low_bits}
use Rattle.dwg_grammar.specs.Codes.{rc, rl, rd, bs, bl, bd, dd, bt, bt_by, bd3, be, be_by, UPWARD, tv, b}
use Rattle.dwg_grammar.specs.Combinators.{never, choose, short_chain, chain, items}
use Rattle.dwg_grammar.specs.Grammar.{Grammar}
use Rattle.dwg_grammar.proofs.Bounds.{bs_at_most, bl_at_most, bd_at_most, bd3_at_most, dd_at_most}
use Rattle.dwg_grammar.proofs.NumberLemmas.{length_of_rl, length_of_rd}
use Rattle.dwg_grammar.specs.declared.points.Point3.{Point3}
use Rattle.dwg_grammar.specs.Reference.{Reference}
use Rattle.dwg_grammar.specs.ReferenceCodes.{byte_count, counted_number, absolute, next_handle, handle_before, ahead, back, by_reference_code, reference}

-- letters of which there are so many at the most
pub record Few (most : ℕ) (letters : List Bool) : Type 0 where
  pub few : length letters ≤ most

-- no letters
pub no_letters : Few 0 []
no_letters = record { few = omega arith }

-- letters after letters
pub both : {most more : ℕ} {prefix back : List Bool} → Few most prefix → Few more back → Few (most + more) (prefix ++ back)
both {most} {more} {prefix} {back} few fewer = record { few = omega (arith, length-append prefix back, few.few, fewer.few) }

-- a greater bound
pub loosely : {most : ℕ} {letters : List Bool} (more : ℕ) → most ≤ more → Few most letters → Few more letters
loosely {most} {letters} more less few = record { few = omega (arith, few.few) }

-- the low bits of a number
pub low_few : (count value : ℕ) → Few count (low_bits count value)
low_few count value = record { few = omega (arith, length_of_low_bits count value) }

-- RC, RS, RL, RD and B have as many bits as their names say
pub rc_few : (value : ℕ) → Few 8 (rc.short value)
rc_few value = low_few 8 value

pub rl_few : (value : ℕ) → Few 32 (rl.short value)
rl_few value = record { few = omega (arith, length_of_rl value) }

pub rd_few : (value : ℕ) → Few 64 (rd.short value)
rd_few value = record { few = omega (arith, length_of_rd value) }

pub b_few : (value : Bool) → Few 1 (b.short value)
b_few true = low_few 1 1
b_few false = low_few 1 0

-- BS, BL, BD and DD have at most the bits of a tag and of a number
pub bs_few : (value : ℕ) → Few 18 (bs.short value)
bs_few value = record { few = bs_at_most value }

pub bl_few : (value : ℕ) → Few 34 (bl.short value)
bl_few value = record { few = bl_at_most value }

pub bd_few : (value : ℕ) → Few 66 (bd.short value)
bd_few value = record { few = bd_at_most value }

pub dd_few : (default value : ℕ) → Few 66 ((dd default).short value)
dd_few default value = record { few = dd_at_most default value }

-- a BT
bt_line : (tag value : ℕ) → Few 66 ((bt_by tag).short value)
bt_line zero value = bd_few value
bt_line (suc zero) value = loosely 66 (omega arith) no_letters
bt_line (suc (suc tag)) value = loosely 66 (omega arith) no_letters

pub bt_few : (value : ℕ) → Few 67 (bt.short value)
bt_few value = both (low_few 1 _) (bt_line _ value)

-- three BDs
pub bd3_few : (point : Point3) → Few 198 (bd3.short point)
bd3_few point = record { few = bd3_at_most point }

-- a BT of no thickness
pub bt_none : Few 1 (bt.short 0)
bt_none = both (low_few 1 1) no_letters

-- a BE
be_line : (tag : ℕ) (point : Point3) → Few 198 ((be_by tag).short point)
be_line zero point = bd3_few point
be_line (suc zero) point = loosely 198 (omega arith) no_letters
be_line (suc (suc tag)) point = loosely 198 (omega arith) no_letters

pub be_few : (point : Point3) → Few 199 (be.short point)
be_few point = both (low_few 1 _) (be_line _ point)

-- that of the direction upward
pub be_upward : Few 1 (be.short UPWARD)
be_upward = both (low_few 1 1) no_letters

-- values one after the other, each of so many bits at the most
pub chain_few : {S V : Type 0} (code : S → Grammar Bool V) (next : V → S) (state : S) (values : List V) (most : ℕ) → ((state : S) (value : V) → Few most ((code state).short value))
    → Few (most * length values) (short_chain code next state values)
chain_few code next state [] most each = record { few = omega arith }
chain_few code next state (value ∷ values) most each = record { few = omega (arith, (both (each state value) (chain_few code next (next value) values most each)).few) }

-- so many values
pub items_few : {V : Type 0} (code : Grammar Bool V) (count : ℕ) (values : List V) (most : ℕ) → ((value : V) → Few most (code.short value)) → Few (most * length values) ((items code count).short values)
unfolding chain
items_few code count values most each = chain_few (λ (state : ℕ). code) (λ value. 0) 0 values most (λ state value. each value)

-- a text of so many bytes
pub tv_few : (most : ℕ) (text : List ℕ) → length text ≤ most → Few (18 + 8 * most) (tv.short text)
unfolding tv
tv_few most text short =
    let all = items_few rc (length text) text 8 rc_few in
    record { few = omega (arith, (both (bs_few (length text)) all).few, short) }

-- the fewest bytes of a number are no more than eight
found_few : (p : ℕ → Bool) (counts : List ℕ) → AllByRecursion (λ count. count ≤ 8) counts → unwrap_or (find p counts) 8 ≤ 8
found_few p [] all = omega arith
found_few p (count ∷ counts) all = of_test (p count) (found_few p counts all.1)
  where
    of_test : (test : Bool) → unwrap_or (find p counts) 8 ≤ 8 → unwrap_or (cond test (Some count) (find p counts)) 8 ≤ 8
    of_test true others = all.0
    of_test false others = others

-- so the count that a number is written after
bytes_few : (number : ℕ) → byte_count number ≤ 8
unfolding byte_count
bytes_few number =
    found_few (λ count. nat_lt number (2 ^ (8 * count))) (0 ∷ 1 ∷ 2 ∷ 3 ∷ 4 ∷ 5 ∷ 6 ∷ 7 ∷ [])
    (omega arith, (omega arith, (omega arith, (omega arith, (omega arith, (omega arith, (omega arith, (omega arith, tt))))))))

-- so a number after the count of its bytes has no more than 68 bits
pub number_few : (number : ℕ) → Few 68 (counted_number.short number)
number_few number = record { few = omega (arith, (both (low_few 4 (byte_count number)) (low_few (8 * byte_count number) number)).few, bytes_few number) }

-- the fewest of counts from 0 to 7 for which a test holds, where it holds for 4
fourth_few : (p : ℕ → Bool) → p 4 ≡ true → unwrap_or (find p (0 ∷ 1 ∷ 2 ∷ 3 ∷ 4 ∷ 5 ∷ 6 ∷ 7 ∷ [])) 8 ≤ 4
fourth_few p four = of_tests (p 0) (p 1) (p 2) (p 3) (p 4) four
  where
    of_tests : (a b c d e : Bool) → e ≡ true
        → unwrap_or (cond a (Some 0) (cond b (Some 1) (cond c (Some 2) (cond d (Some 3) (cond e (Some 4) (find p (5 ∷ 6 ∷ 7 ∷ []))))))) 8 ≤ 4
    of_tests true b c d e last = omega arith
    of_tests false true c d e last = omega arith
    of_tests false false true d e last = omega arith
    of_tests false false false true e last = omega arith
    of_tests false false false false true last = omega arith
    of_tests false false false false false last = absurd cc

-- a number below 2^32 after the count of its bytes has no more than 36 bits
pub low_number_few : (number : ℕ) → number < 2 ^ 32 → Few 36 (counted_number.short number)
unfolding byte_count
low_number_few number low =
    let count : byte_count number ≤ 4 = fourth_few (λ count. nat_lt number (2 ^ (8 * count))) (grind (arith, nat_tests)) in
    record { few = omega (arith, (both (low_few 4 (byte_count number)) (low_few (8 * byte_count number) number)).few, count) }

-- what stands after the code of a reference
choose_few : {V : Type 0} (most : ℕ) (test : Bool) (one other : Grammar Bool V) (value : V) → Few most (one.short value) → Few most (other.short value) → Few most ((choose test one other).short value)
choose_few most true one other value few fewer = few
choose_few most false one other value few fewer = fewer

-- so each line of the codes of references
line_few : (base code : ℕ) (value : Reference) → Few 68 ((by_reference_code base code).short value)
line_few base code value =
    choose_few 68 (nat_lt code 6) (absolute base code) _ value (number_few value.target)
    (choose_few 68 (code == 6) (next_handle base) _ value (loosely 68 (omega arith) (low_few 4 0))
    (choose_few 68 (code == 8) (handle_before base) _ value (loosely 68 (omega arith) (low_few 4 0))
    (choose_few 68 (code == 10) (ahead base) _ value (number_few (value.target - base))
    (choose_few 68 (code == 12) (back base) never value (number_few (base - value.target)) (loosely 68 (omega arith) no_letters)))))

-- a reference has no more than 72 bits
pub ref_few : (base : ℕ) (value : Reference) → Few 72 ((reference base).short value)
unfolding reference
ref_few base value = both (low_few 4 value.code) (line_few base value.code value)

-- one by a code below 6 to a handle below 2^32 has no more than 40
pub low_ref_few : (base code target : ℕ) → nat_lt code 6 ≡ true → target < 2 ^ 32 → Few 40 ((reference base).short (record { code = code; target = target }))
unfolding reference
low_ref_few base code target low near = both (low_few 4 code) (of_test (nat_lt code 6) low)
  where
    of_test : (test : Bool) → test ≡ true → Few 36 ((choose test (absolute base code) (choose (code == 6) (next_handle base) (choose (code == 8) (handle_before base) (choose (code == 10) (ahead base) (choose (code == 12) (back base) never))))).short (record { code = code; target = target }))
    of_test true is = low_number_few target near
    of_test false is = absurd cc

-- so many references
pub refs_few : (base count most : ℕ) (values : List Reference) → length values ≤ most → Few (72 * most) ((items (reference base) count).short values)
refs_few base count most values short = record { few = omega (arith, (items_few (reference base) count values 72 (ref_few base)).few, short) }
