-- The application data of an object, which stand in its main bits (Open Design Specification, "Extended object data").
use Rattle.std.specs.Prelude.{◌≡◌, ◌==◌, ℕ, ◌^◌, ◌<◌, ◌≤◌, Bool, true, List, ◌++◌, length}
use Rattle.dwg_base.specs.Bytes.{AreBytes}
use Rattle.dwg_grammar.specs.Codes.{bs, rc}
use Rattle.dwg_grammar.specs.Combinators.{seq, items, until, shaped}
use Rattle.dwg_grammar.specs.Grammar.{Grammar}
use Rattle.dwg_grammar.specs.Reference.{reaches}
use Rattle.dwg_grammar.specs.ReferenceCodes.{reference}
use Rattle.dwg_common.specs.declared.app_data.AppData.{AppData}

-- the parts of one item lie in their ranges: a reference that the object can make, and some bytes
pub record IsAppData (base : ℕ) (item : AppData) : Type 0 where
  pub application : reaches base item.application ≡ true
  pub some : 1 ≤ length item.bytes
  pub few : length item.bytes < 2 ^ 16
  pub bytes : AreBytes item.bytes

-- an item of so many bytes: H application, the bytes
abbrev pub app_item : ℕ → ℕ → Grammar Bool AppData
app_item base size =
    shaped (λ parts. record { application = parts.0; bytes = parts.1 }) (λ item. (item.application, item.bytes))
    (seq (reference base) (λ application. items rc size))

-- BS size, at least 1, and an item of that size, as often as there are items; then BS 0
unfoldable pub app_list : ℕ → Grammar Bool (List AppData)
app_list base = until bs 0 (λ size. size == 0) (app_item base) (λ item. length item.bytes) (IsAppData base)

-- an item after its size, as both are written
abbrev pub item_short : ℕ → AppData → List Bool
item_short base item = bs.short (length item.bytes) ++ (app_item base (length item.bytes)).short item
