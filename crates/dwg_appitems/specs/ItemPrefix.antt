-- An item at the begin of bytes. A rule of this project.
use Rattle.std.specs.Prelude.{ℕ, ◌≤◌, List, length, take, Option, Some, None}
use Rattle.dwg_bits.specs.Bits.{bits}
use Rattle.dwg_grammar.specs.Grammar.{BeginsWith}
use Rattle.dwg_appitems.specs.declared.item.AppItem.{AppItem}
use Rattle.dwg_appitems.specs.Items.{item}

-- so many bytes at the begin of bytes spell an item
pub record IsPrefix (bytes : List ℕ) (value : AppItem) (count : ℕ) : Type 0 where
  pub spelled : item.Spells value (bits (take count bytes))
  pub some : 1 ≤ count
  pub within : count ≤ length bytes

-- what a call read of the item at the begin of bytes, and how many bytes that are; None where no item begins them
abbrev pub ReadsItem : Option (AppItem × ℕ) → List ℕ → Type 0
ReadsItem (Some found) bytes = IsPrefix bytes found.0 found.1
ReadsItem None bytes = BeginsWith item (bits bytes) → ⊥
