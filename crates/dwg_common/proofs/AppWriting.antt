-- Application data tried, counted and written, item by item.
use Rattle.std.proofs.Common.{◌≡◌, ℕ, ◌+◌, ◌*◌, Bool, List, ◌++◌, length, arith}
use Rattle.std.proofs.lemmas.List.{length-append}
use Rattle.dwg_bits.specs.Sink.{Written, Extends}
use Rattle.dwg_codes.proofs.RunReading.{length_of_run}
use Rattle.dwg_grammar.specs.Codes.{bs, rc}
use Rattle.dwg_grammar.specs.Combinators.{chain}
use Rattle.dwg_grammar.specs.ToEnd.{short_all}
use Rattle.dwg_grammar.specs.ReferenceCodes.{reference}
use Rattle.dwg_common.specs.declared.app_data.AppData.{AppData}
use Rattle.dwg_common.specs.AppList.{app_list, item_short}

-- the list is a value exactly where the items that are left are
pub record AreTried (base : ℕ) (app left : List AppData) : Type 0 where
  pub fit : (app_list base).IsValue left → (app_list base).IsValue app
  pub fitted : (app_list base).IsValue app → (app_list base).IsValue left

-- items are counted up to those that are left: so many bits so far and theirs are all, the mark's among them
pub record AreCounted (base : ℕ) (app left : List AppData) (count : ℕ) : Type 0 where
  pub are : (app_list base).IsValue left
  pub bits : length ((app_list base).short app) ≡ count + length ((app_list base).short left)

-- items are written up to those that are left: the sink grew by so many bits, and these and what is written of those that are left are what is written of all
pub record AreWrittenSoFar (base : ℕ) (app left : List AppData) (old now : Written) : Type 0 where
  pub done : List Bool
  pub grown : Extends old now done
  pub whole : (app_list base).short app ≡ done ++ (app_list base).short left
  pub are : (app_list base).IsValue left

-- an item has the bits of its size, of its reference and of its bytes
pub length_of_item : (base : ℕ) (item : AppData)
    → length (item_short base item) ≡ length (bs.short (length item.bytes)) + length ((reference base).short item.application) + 8 * length item.bytes
unfolding chain
length_of_item base item =
    omega (
      arith,
      length-append (bs.short (length item.bytes)) ((reference base).short item.application ++ short_all rc item.bytes),
      length-append ((reference base).short item.application) (short_all rc item.bytes),
      length_of_run item.bytes,
    )
