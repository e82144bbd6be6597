-- What every entry of a table begins with (Open Design Specification, "LAYER", "SHAPEFILE", "LTYPE", "APPID" and "BLOCK HEADER").
use Rattle.std.specs.Prelude.{ℕ, Bool, List}
use Rattle.dwg_grammar.specs.Codes.{bs, tv, b}
use Rattle.dwg_grammar.specs.Combinators.{◌⋄◌}
use Rattle.dwg_grammar.specs.Grammar.{Grammar}
use Rattle.dwg_grammar.specs.Reference.{Reference}
use Rattle.dwg_tables.specs.declared.entry.Entry.{Entry}

-- what the main bits of an entry give, in their order
abbrev pub TitleParts : Type 0
TitleParts = List ℕ × (Bool × (ℕ × Bool))

-- TV name; B flag64; BS xref_index; B xref_dependent
unfoldable pub entry_main : Grammar Bool TitleParts
entry_main = tv ⋄ b ⋄ bs ⋄ b

-- what the main bits of an entry give
abbrev pub title_of : Entry → TitleParts
title_of entry = (entry.name, (entry.flag64, (entry.xref_index, entry.xref_dependent)))

-- an entry from these and from its reference, xref, which stands before the other own references
abbrev pub entry_of : TitleParts → Reference → Entry
entry_of (name, (flag64, (xref_index, xref_dependent))) xref = record { name = name; flag64 = flag64; xref_index = xref_index; xref_dependent = xref_dependent; xref = xref }
