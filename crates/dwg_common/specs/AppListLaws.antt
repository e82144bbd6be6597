-- Application data are a code.
use Rattle.std.proofs.Common.{◌≡◌, refl, ℕ, ◌^◌, ◌<◌, length, arith}
use Rattle.std.specs.Prelude.{◌==◌, ◌≢◌}
use Rattle.std.proofs.lemmas.Bool.Decides.{nat_tests}
use Rattle.dwg_grammar.specs.Codes.{bs, rc}
use Rattle.dwg_grammar.specs.Combinators.{chain}
use Rattle.dwg_grammar.proofs.CombinatorLemmas.{any_letters_closed}
use Rattle.dwg_grammar.specs.Grammar.{IsCode, AnyLetters}
use Rattle.dwg_grammar.proofs.ListLemmas.{until_is_code}
use Rattle.dwg_grammar.proofs.NumberLemmas.{bytes_of_items, items_of_bytes}
use Rattle.dwg_grammar.proofs.TableLemmas.{bs_is_code}
use Rattle.dwg_grammar.proofs.ToEndLemmas.{bs_least}
use Rattle.dwg_grammar.specs.ReferenceCodes.{reference}
use Rattle.dwg_common.specs.declared.app_data.AppData.{AppData}
use Rattle.dwg_common.specs.LawSets.{codes}
use Rattle.dwg_common.specs.AppList.{IsAppData, app_item, app_list}

-- an item of so many bytes is a code
pub app_item_is_code : (base size : ℕ) → base < 2 ^ 63 → IsCode AnyLetters (app_item base size)
app_item_is_code base size small = search codes depth 8

-- a value of so many bytes is an item of that size
value_is_item : (base size : ℕ) (item : AppData) → size < 2 ^ 16 → size ≢ 0 → (app_item base size).IsValue item → IsAppData base item × (length item.bytes ≡ size)
unfolding reference chain
value_is_item base size item small some fits = (
  record {
    application = fits.0;
    some = omega (arith, fits.1.0);
    few = omega (arith, fits.1.0);
    bytes = bytes_of_items rc (λ value byte. byte) item.bytes fits.1.1;
  },
  fits.1.0,
)

-- and an item is a value of as many bytes as it has
item_is_value : (base : ℕ) (item : AppData) → IsAppData base item → bs.IsValue (length item.bytes) × (length item.bytes ≢ 0) × (app_item base (length item.bytes)).IsValue item
unfolding reference chain
item_is_value base item is = (is.few, (λ none. omega (arith, is.some, none)), (is.application, (refl, items_of_bytes rc (λ value byte. byte) item.bytes is.bytes)))

-- the list is a code
pub app_list_is_code : (base : ℕ) → base < 2 ^ 63 → IsCode AnyLetters (app_list base)
unfolding app_list
app_list_is_code base small =
    until_is_code AnyLetters bs 0 (λ size. size == 0) (app_item base) (λ item. length item.bytes) (IsAppData base) any_letters_closed record {
      tag_is_code = bs_is_code;
      item_is_code = λ size fits some. app_item_is_code base size small;
      mark_is_tag = omega arith;
      mark_passes = refl;
      only_mark_passes = λ size fits passed. grind (arith, nat_tests);
      some_letters = λ size prefix spelled. omega (arith, bs_least size prefix spelled);
      value_is_item = λ size item fits some value. value_is_item base size item fits some value;
      item_is_value = λ item is. item_is_value base item is;
    }
