-- References, read and written by their parts.
use Rattle.std.proofs.Common.{◌≡◌, refl, sym, ◌∙◌, ap, ap₂, subst, ℕ, true, List, Bool, ◌++◌, Option, Some, None, arith}
use Rattle.std.proofs.lemmas.Bool.Decides.{nat_tests}
use Rattle.dwg_bits.specs.Bits.{low_bits}
use Rattle.dwg_grammar.specs.Grammar.{BeginsWith, Reads}
use Rattle.dwg_grammar.specs.Reference.{Reference, GivesTarget, reaches}
use Rattle.dwg_grammar.specs.ReferenceCodes.{counted_number, reference_of, reference, number_after}
use Rattle.dwg_grammar.proofs.ReferenceLemmas.{reference_spelled, reference_short}
use Rattle.dwg_handles.specs.declared.reference_parts.ReferenceParts.{ReferenceParts}
use Rattle.dwg_handles.specs.PartsCode.{AreParts, parts}
use Rattle.dwg_handles.proofs.PartsReading.{parts_bits, parts_spelled, parts_spells, parts_resolved}

-- a target that is given is reached
pub resolved_reached : (base code count number target : ℕ) → GivesTarget base code count number target → reaches base (reference_of code target) ≡ true
resolved_reached base code count number target resolved = grind (arith, nat_tests)

-- parts that were read, and the target that they give, are a reference
pub ref_read : (base target : ℕ) (found : ReferenceParts) (old new : List Bool) → Reads parts (Some found) old new → GivesTarget base found.code found.count found.number target
    → Reads (reference base) (Some (reference_of found.code target)) old new
ref_read base target found old new (prefix, spelled, whole) resolved =
    let is = parts_spelled found prefix spelled in (
      prefix,
      (reference_spelled base (reference_of found.code target) prefix).1
          (record { count = found.count; number = found.number; few = is.0.few; fits = is.0.fits; spelled = is.1; gives = resolved }),
      whole,
    )

-- the parts of a reference before bits
record Resolved (base : ℕ) (letters : List Bool) : Type 0 where
  found : ReferenceParts
  target : ℕ
  after : List Bool
  are : AreParts found
  whole : letters ≡ parts_bits found ++ after
  gives : GivesTarget base found.code found.count found.number target

-- what begins with a reference does so by its parts
resolved : (base : ℕ) (letters : List Bool) → BeginsWith (reference base) letters → Resolved base letters
resolved base letters (value, prefix, after, spelled, whole) =
    let is = (reference_spelled base value prefix).0 spelled in
    record {
      found = record { code = value.code; count = is.count; number = is.number };
      target = value.target;
      after = after;
      are = record { code = grind (arith, is.gives); few = is.few; fits = is.fits };
      whole = whole ∙ ap (λ (one : List Bool). one ++ after) is.spelled;
      gives = is.gives;
    }

-- where no reference is, none is read
none_read : (base : ℕ) (result : Option Reference) (old : List Bool) → result ≡ None → (BeginsWith (reference base) old → ⊥) → Reads (reference base) result old old
none_read base result old none begins = subst (λ (one : Option Reference). Reads (reference base) one old old) (sym none) (begins, refl)

-- where no parts are, there is no reference
pub ref_unread : (base : ℕ) (result : Option Reference) (old left : List Bool) → result ≡ None → Reads parts None old left → Reads (reference base) result old old
ref_unread base result old left none unread =
    none_read base result old none (λ begins. let is = resolved base old begins in unread.0 (is.found, parts_bits is.found, is.after, parts_spells is.found is.are, is.whole))

-- nor where the parts give no target
pub ref_unresolved : (base : ℕ) (result : Option Reference) (found : ReferenceParts) (old mid : List Bool) → result ≡ None → Reads parts (Some found) old mid
    → ((target : ℕ) → GivesTarget base found.code found.count found.number target → ⊥) → Reads (reference base) result old old
ref_unresolved base result found old mid none read unresolved = none_read base result old none (λ begins. of_parts (resolved base old begins))
  where
    of_parts : Resolved base old → ⊥
    of_parts is =
        let same : is.found ≡ found = sym (parts_resolved found is.found old mid is.after read is.are is.whole) in
        unresolved is.target (subst (λ (one : ReferenceParts). GivesTarget base one.code one.count one.number is.target) same is.gives)

-- a value is what the code reaches
pub value_reached : (base : ℕ) (value : Reference) → (reference base).IsValue value → reaches base value ≡ true
unfolding reference
value_reached base value is = is

-- the code and the number after it are what is written of a reference
pub ref_written : (base code number : ℕ) (value : Reference) → (reference base).IsValue value → code ≡ value.code → number ≡ number_after base value
    → low_bits 4 code ++ counted_number.short number ≡ (reference base).short value
ref_written base code number value is same_code same_number =
    ap₂ (λ (one other : ℕ). low_bits 4 one ++ counted_number.short other) same_code same_number ∙ sym (reference_short base value (value_reached base value is))
