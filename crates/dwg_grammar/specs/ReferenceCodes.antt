-- References and own handles as bit codes (Open Design Specification, "Handle references"). Which spelling is written is a rule of this project: the one of the fewest bytes.
use Rattle.std.specs.Prelude.{◌≡◌, ℕ, ◌+◌, ◌-◌, ◌*◌, ◌^◌, ◌<◌, Bool, [], ◌∷◌, ◌==◌, nat_lt, nat_le, ◌&&◌, find, unwrap_or, true, if◌then◌else◌}
use Rattle.dwg_grammar.specs.Grammar.{Grammar}
use Rattle.dwg_grammar.specs.Combinators.{fixed, never, seq, choose, image, restrict, tagged}
use Rattle.dwg_grammar.specs.Reference.{Reference, reaches}

-- how many bytes a number is written by: the fewest that hold it, none for 0
unfoldable pub byte_count : ℕ → ℕ
byte_count number = unwrap_or (find (λ count. nat_lt number (2 ^ (8 * count))) (0 ∷ 1 ∷ 2 ∷ 3 ∷ 4 ∷ 5 ∷ 6 ∷ 7 ∷ [])) 8

-- a count of bytes, at most eight
abbrev pub byte_counts : Grammar Bool ℕ
byte_counts = restrict (λ count. nat_le count 8) (fixed 4)

-- a number after the count of its bytes, the most significant first
abbrev pub counted_number : Grammar Bool ℕ
counted_number = tagged byte_counts (λ count. fixed (8 * count)) (λ number. number < 2 ^ 64) byte_count

-- the reference of a code to a target
abbrev pub reference_of : ℕ → ℕ → Reference
reference_of code target = record { code = code; target = target }

-- what passes a test of its reach, given by a number from which its target follows and that follows from its target
abbrev pub parsed : ℕ → ℕ → (ℕ → Bool) → (ℕ → ℕ) → (ℕ → ℕ) → Grammar Bool ℕ → Grammar Bool Reference
parsed base code test target_of number_of numbers =
    image (λ reference. (reference.code ≡ code) × (reaches base reference ≡ true))
    (λ number. reference_of code (target_of number)) (λ reference. number_of reference.target)
    (restrict (λ number. test number && nat_lt (target_of number) (2 ^ 63)) numbers)

-- a count of no bytes
abbrev pub no_bytes : Grammar Bool ℕ
no_bytes = restrict (λ count. count == 0) (fixed 4)

-- codes 0 to 5 give the target itself
abbrev pub absolute : ℕ → ℕ → Grammar Bool Reference
absolute base code = parsed base code (λ number. true) (λ number. number) (λ target. target) counted_number

-- 6 gives the next handle, by no bytes
abbrev pub next_handle : ℕ → Grammar Bool Reference
next_handle base = parsed base 6 (λ number. true) (λ number. base + 1) (λ target. 0) no_bytes

-- 8 gives the one before, by no bytes
abbrev pub handle_before : ℕ → Grammar Bool Reference
handle_before base = parsed base 8 (λ number. nat_le 1 base) (λ number. base - 1) (λ target. 0) no_bytes

-- A gives how far ahead the target is
abbrev pub ahead : ℕ → Grammar Bool Reference
ahead base = parsed base 10 (λ number. true) (λ number. base + number) (λ target. target - base) counted_number

-- C gives how far back it is
abbrev pub back : ℕ → Grammar Bool Reference
back base = parsed base 12 (λ number. nat_le number base) (λ number. base - number) (λ target. base - target) counted_number

-- what stands after each code; the others are no references
abbrev pub by_reference_code : ℕ → ℕ → Grammar Bool Reference
by_reference_code base code =
    choose (nat_lt code 6) (absolute base code)
    (choose (code == 6) (next_handle base) (choose (code == 8) (handle_before base) (choose (code == 10) (ahead base) (choose (code == 12) (back base) never))))

-- H: a reference of the object of a handle
unfoldable pub reference : ℕ → Grammar Bool Reference
reference base = tagged (fixed 4) (by_reference_code base) (λ value. reaches base value ≡ true) (λ value. value.code)

-- the number that is written of a reference: the target, how far ahead or back it is, or none
abbrev pub number_after : ℕ → Reference → ℕ
number_after base value =
    if nat_lt value.code 6 then value.target else (if value.code == 10 then value.target - base else (if value.code == 12 then base - value.target else 0))

-- an object's own handle: a number after code 0, positive and below 2^63
unfoldable pub own_handle : Grammar Bool ℕ
own_handle =
    image (λ own. (0 < own) × (own < 2 ^ 63)) (λ parts. parts.1) (λ own. (0, own))
    (seq (restrict (λ code. code == 0) (fixed 4)) (λ code. restrict (λ number. nat_lt 0 number && nat_lt number (2 ^ 63)) counted_number))
