-- Reading a fixed count of bits.
use Rattle.std.proofs.Common.{◌≡◌, sym, ◌∙◌, ap, ap₂, ℕ, ◌^◌, ◌<◌, Bool, List, ◌++◌, length, Option, Some, None, arith}
use Rattle.std.proofs.lemmas.List.{length-append}
use Rattle.std.specs.Prelude.{IfSome, IfNone}
use Rattle.dwg_bits.specs.Bits.{low_bits}
use Rattle.dwg_bits.proofs.BitLaws.{length_of_low_bits, num_of_low_bits}
use Rattle.dwg_bits.specs.Cursor.{bits_between}
use Rattle.dwg_grammar.specs.Grammar.{Grammar, BeginsWith, Reads}
use Rattle.dwg_grammar.specs.Combinators.{fixed}

-- the bits taken spell their number
fixed_read : (count value : ℕ) (old new : List Bool) → value < 2 ^ count → old ≡ low_bits count value ++ new → Reads (fixed count) (Some value) old new
fixed_read count value old new fits taken = (low_bits count value, (length_of_low_bits count value, sym (num_of_low_bits count value fits)), taken)

-- a list begins with no spelling where it is shorter than each
pub none_read : {V : Type 0} (code : Grammar Bool V) (count : ℕ) (old new : List Bool) → ((value : V) (prefix : List Bool) → code.Spells value prefix → length prefix ≡ count)
    → length old < count → new ≡ old → Reads code None old new
none_read {V} code count old new long short same = (begins, same)
  where
    begins : BeginsWith code old → ⊥
    begins (value, prefix, rest, spelled, whole) = omega (arith, long value prefix spelled, ap length whole, length-append prefix rest)

-- a list that is shorter than a fixed count begins with no spelling of it
fixed_unread : (count : ℕ) (old new : List Bool) → length old < count → new ≡ old → Reads (fixed count) None old new
fixed_unread count old new short same = none_read (fixed count) count old new (λ value prefix spelled. spelled.0) short same

-- what was taken, or wasn't there, was read
pub fixed_reads : (count : ℕ) (result : Option ℕ) (old new : List Bool) → IfSome result (λ value. value < 2 ^ count) → IfSome result (λ value. old ≡ low_bits count value ++ new)
    → IfNone result (length old < count) → IfNone result (new ≡ old) → Reads (fixed count) result old new
fixed_reads count (Some value) old new fits taken short same = fixed_read count value old new fits taken
fixed_reads count None old new fits taken short same = fixed_unread count old new short same

-- a cursor that didn't move has the same bits left
pub rest_stays : (bytes same : List ℕ) (from place end last : ℕ) → same ≡ bytes → place ≡ from → last ≡ end → bits_between same place last ≡ bits_between bytes from end
rest_stays bytes same from place end last alike unmoved still =
    ap (λ all. bits_between all place last) alike ∙ ap₂ (λ first after. bits_between bytes first after) unmoved still
