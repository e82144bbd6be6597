-- What was skipped: a value that is parsed, whichever it is. A rule of this project.
use Rattle.std.specs.Prelude.{◌≡◌, ⊤, ℕ, Bool, List, Option, Some, None}
use Rattle.dwg_bits.specs.Cursor.{rest}
use Rattle.dwg_bits.specs.declared.cursor.BitCursor.{BitCursor}
use Rattle.dwg_grammar.specs.Grammar.{Grammar}
use Rattle.dwg_common.specs.declared.app_data.AppData.{AppData}
use Rattle.dwg_common.specs.BitSizes.{sized_prefix}

-- some value of the code is parsed, and the cursor is after it; None where none is parsed
abbrev pub Skips : {V : Type 0} → Grammar Bool V → Option ⊤ → BitCursor → BitCursor → Type 0
Skips {V} code (Some done) old new = (value : V) × (code.parse (rest old) ≡ Some (value, rest new))
Skips {V} code None old new = code.parse (rest old) ≡ None

-- what stands before the bit size is parsed, whatever it is, and then the size; None where that isn't there
abbrev pub FindsSize : Bool → ℕ → Option ℕ → BitCursor → BitCursor → Type 0
FindsSize entity base (Some size) old new =
    (app : List AppData) × (picture : Option (List ℕ)) × ((sized_prefix entity base).parse (rest old) ≡ Some ((app, (picture, size)), rest new))
FindsSize entity base None old new = (sized_prefix entity base).parse (rest old) ≡ None
