-- What holds of bytes that are spelled one after the other, each an RC.
use Rattle.std.proofs.Common.{◌≡◌, refl, ap, ℕ, List, [], ◌∷◌, ◌++◌, length}
use Rattle.std.specs.Prelude.{◌↔◌}
use Rattle.dwg_base.specs.Bytes.{AreBytes}
use Rattle.dwg_bits.specs.Bits.{low_bits, bits}
use Rattle.dwg_grammar.specs.Combinators.{chain, items}
use Rattle.dwg_grammar.specs.Codes.{rc}
use Rattle.dwg_grammar.proofs.NumberLemmas.{bytes_of_items, items_of_bytes}
use Rattle.dwg_grammar.specs.ToEnd.{short_all}

-- bytes are written by their bits
pub short_of_bytes : (bytes : List ℕ) → short_all rc bytes ≡ bits bytes
unfolding bits
short_of_bytes [] = refl
short_of_bytes (byte ∷ bytes) = ap (λ rest. low_bits 8 byte ++ rest) (short_of_bytes bytes)

-- so many RCs have as their values the lists of so many bytes
pub values_of_bytes : (count : ℕ) (run : List ℕ) → (items rc count).IsValue run ↔ ((length run ≡ count) × AreBytes run)
unfolding chain
values_of_bytes count run =
    ((λ fits. (fits.0, bytes_of_items rc (λ value small. small) run fits.1)), (λ both. (both.0, items_of_bytes rc (λ value small. small) run both.1)))
