-- So many bytes, read and written.
use Rattle.std.proofs.Common.{◌≡◌, refl, sym, ◌∙◌, ap, subst, ℕ, ◌*◌, ◌<◌, Bool, List, ◌++◌, length, Some, None, arith}
use Rattle.std.proofs.lemmas.List.{length-append}
use Rattle.dwg_base.specs.Bytes.{AreBytes}
use Rattle.dwg_bits.specs.Bits.{bits}
use Rattle.dwg_bits.proofs.BitLaws.{length_of_bits}
use Rattle.dwg_bits.specs.Sink.{Written, Extends}
use Rattle.dwg_grammar.specs.Grammar.{BeginsWith, Reads}
use Rattle.dwg_grammar.specs.Combinators.{items, chain}
use Rattle.dwg_grammar.specs.Codes.{rc}
use Rattle.dwg_grammar.specs.ToEnd.{short_all}
use Rattle.dwg_grammar.proofs.ByteRunLemmas.{short_of_bytes, values_of_bytes}
use Rattle.dwg_codes.proofs.WordReading.{bytes_spelled, spelling_counted}

-- bytes whose bits are those of a span are as many as its bits allow
pub bytes_counted : (bytes : List ℕ) (span : List Bool) (count : ℕ) → bits bytes ≡ span → length span ≡ 8 * count → length bytes ≡ count
bytes_counted bytes span count is long = omega (arith, ap length is, long, length_of_bits bytes)

-- so many bytes that were read
pub run_read : (count : ℕ) (bytes run : List ℕ) (old new : List Bool) → run ≡ bytes → length bytes ≡ count → AreBytes bytes → old ≡ bits bytes ++ new → Reads (items rc count) (Some run) old new
unfolding chain
run_read count bytes run old new same counted are taken =
    subst (λ (all : List ℕ). Reads (items rc count) (Some all) old new) (sym same) (bits bytes, (counted, bytes_spelled 0 bytes are), taken)

-- they are values
pub run_values : (count : ℕ) (bytes run : List ℕ) → run ≡ bytes → length bytes ≡ count → AreBytes bytes → (items rc count).IsValue run
run_values count bytes run same counted are =
    subst (items rc count).IsValue (sym same) ((values_of_bytes count bytes).1 (counted, are))

-- fewer bits than so many bytes have begin with none
pub run_unread : (count : ℕ) (old : List Bool) → length old < 8 * count → Reads (items rc count) None old old
unfolding chain
run_unread count old short = (begins, refl)
  where
    begins : BeginsWith (items rc count) old → ⊥
    begins (bytes, prefix, rest, spelled, whole) =
        omega (arith, spelled.0, spelling_counted 0 bytes prefix spelled.1, ap length whole, length-append prefix rest)

-- what is written of bytes has eight bits for each
pub length_of_run : (bytes : List ℕ) → length (short_all rc bytes) ≡ 8 * length bytes
length_of_run bytes = ap length (short_of_bytes bytes) ∙ length_of_bits bytes

-- bytes that were written
pub run_written : (old new : Written) (bytes : List ℕ) → Extends old new (bits bytes) → Extends old new (short_all rc bytes)
run_written old new bytes grown = subst (Extends old new) (sym (short_of_bytes bytes)) grown
