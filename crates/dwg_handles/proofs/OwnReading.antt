-- Own handles, read by their parts.
use Rattle.std.proofs.Common.{◌≡◌, refl, sym, ◌∙◌, ap, subst, ℕ, ◌*◌, List, Bool, ◌++◌, Option, Some, None, arith}
use Rattle.dwg_bits.specs.Bits.{low_bits}
use Rattle.dwg_grammar.specs.Grammar.{BeginsWith, Reads}
use Rattle.dwg_grammar.specs.Reference.{OwnSpells}
use Rattle.dwg_grammar.specs.ReferenceCodes.{own_handle}
use Rattle.dwg_grammar.proofs.OwnLemmas.{own_spelled}
use Rattle.dwg_handles.specs.declared.reference_parts.ReferenceParts.{ReferenceParts}
use Rattle.dwg_handles.specs.PartsCode.{AreParts, IsOwn, parts}
use Rattle.dwg_handles.proofs.PartsReading.{parts_bits, parts_spelled, parts_spells, parts_resolved}

-- parts that were read, of code 0 and a positive number, are an own handle
pub own_read : (own : ℕ) (found : ReferenceParts) (old new : List Bool) → Reads parts (Some found) old new → IsOwn found → own ≡ found.number → Reads own_handle (Some own) old new
own_read own found old new (prefix, spelled, whole) is same =
    let are = parts_spelled found prefix spelled in
    let of_found : OwnSpells found.number prefix =
    record { count = found.count; few = are.0.few; fits = are.0.fits; spelled = are.1 ∙ ap (λ (one : ℕ). low_bits 4 one ++ (low_bits 4 found.count ++ low_bits (8 * found.count) found.number)) is.code; positive = is.positive; within = is.within } in
    (prefix, (own_spelled own prefix).1 (subst (λ (one : ℕ). OwnSpells one prefix) (sym same) of_found), whole)

-- the parts of an own handle before bits
record Resolved (letters : List Bool) : Type 0 where
  found : ReferenceParts
  after : List Bool
  are : AreParts found
  whole : letters ≡ parts_bits found ++ after
  is_own : IsOwn found

-- what begins with an own handle does so by its parts
resolved : (letters : List Bool) → BeginsWith own_handle letters → Resolved letters
resolved letters (own, prefix, after, spelled, whole) =
    let is = (own_spelled own prefix).0 spelled in
    record {
      found = record { code = 0; count = is.count; number = own };
      after = after;
      are = record { code = omega arith; few = is.few; fits = is.fits };
      whole = whole ∙ ap (λ (one : List Bool). one ++ after) is.spelled;
      is_own = record { code = refl; positive = is.positive; within = is.within };
    }

-- where no own handle is, none is read
none_read : (result : Option ℕ) (old : List Bool) → result ≡ None → (BeginsWith own_handle old → ⊥) → Reads own_handle result old old
none_read result old none begins = subst (λ (one : Option ℕ). Reads own_handle one old old) (sym none) (begins, refl)

-- where no parts are, there is no own handle
pub own_unread : (result : Option ℕ) (old left : List Bool) → result ≡ None → Reads parts None old left → Reads own_handle result old old
own_unread result old left none unread =
    none_read result old none (λ begins. let is = resolved old begins in unread.0 (is.found, parts_bits is.found, is.after, parts_spells is.found is.are, is.whole))

-- nor where the parts are those of none
pub own_unresolved : (result : Option ℕ) (found : ReferenceParts) (old mid : List Bool) → result ≡ None → Reads parts (Some found) old mid → (IsOwn found → ⊥) → Reads own_handle result old old
own_unresolved result found old mid none read unresolved = none_read result old none (λ begins. of_parts (resolved old begins))
  where
    of_parts : Resolved old → ⊥
    of_parts is =
        let same : is.found ≡ found = sym (parts_resolved found is.found old mid is.after read is.are is.whole) in
        unresolved (subst IsOwn same is.is_own)
