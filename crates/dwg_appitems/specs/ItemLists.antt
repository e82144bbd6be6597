-- Bytes that are items, one after the other. A rule of this project.
use Rattle.std.specs.Prelude.{ℕ, ◌<◌, ◌≤◌, ◌^◌, ⊤, List, length}
use Rattle.dwg_bits.specs.Bits.{bits}
use Rattle.dwg_bits.specs.WholeBytes.{whole_bytes}
use Rattle.dwg_grammar.specs.ToEnd.{SpellsAll, short_all}
use Rattle.dwg_appitems.specs.declared.item.AppItem.{AppItem}
use Rattle.dwg_appitems.specs.declared.item.AppItem.TheVariants.{Text, Bytes, Point, Word}
use Rattle.dwg_appitems.specs.Items.{item}

-- the bytes are these items and nothing else
abbrev pub AreItems : List AppItem → List ℕ → Type 0
AreItems all bytes = SpellsAll item all (bits bytes)

-- an item can be written: it counts at most 255 bytes, and its code is one of its variant
abbrev pub CanBeWritten : AppItem → Type 0
CanBeWritten (Text mark text) = length text < 2 ^ 8
CanBeWritten (Bytes bytes) = length bytes < 2 ^ 8
CanBeWritten (Point code words) = (10 ≤ code) × (code ≤ 13)
CanBeWritten (Word code value) = (40 ≤ code) × (code ≤ 42)
CanBeWritten other = ⊤

-- the bytes that are written of items
abbrev pub items_bytes : List AppItem → List ℕ
items_bytes all = whole_bytes (short_all item all)
