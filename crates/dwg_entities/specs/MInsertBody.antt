-- An insert of a block in columns and rows (Open Design Specification, "MINSERT").
use Rattle.std.specs.Prelude.{ℕ, Bool, Option}
use Rattle.dwg_base.specs.declared.version.Version.TheVariants.{Ac1015}
use Rattle.dwg_grammar.specs.Codes.{bs, bd}
use Rattle.dwg_grammar.specs.Combinators.{◌⋄◌}
use Rattle.dwg_grammar.specs.Grammar.{Grammar}
use Rattle.dwg_grammar.specs.Bodies.{BodyGrammar}
use Rattle.dwg_grammar.specs.MakingBodies.{body}
use Rattle.dwg_grammar.specs.Reference.{Reference}
use Rattle.dwg_entities.specs.declared.insert.Attributes.{Attributes}
use Rattle.dwg_entities.specs.declared.minsert.MInsert.{MInsert}
use Rattle.dwg_entities.specs.InsertBody.{Setting, insert_main, insert_refs, setting_of, insert_of}

-- after those of its insert: BS columns; BS rows; BD column spacing; BD row spacing
abbrev pub minsert_more : Grammar Bool (ℕ × (ℕ × (ℕ × ℕ)))
minsert_more = bs ⋄ bs ⋄ bd ⋄ bd

-- its main bits, which AC1015 alone has
unfoldable pub minsert_main : Grammar Bool (Setting × (ℕ × (ℕ × (ℕ × ℕ))))
minsert_main = insert_main Ac1015 ⋄ minsert_more

-- what the main bits of such an insert give of it
abbrev pub repeats_of : MInsert → Setting × (ℕ × (ℕ × (ℕ × ℕ)))
repeats_of minsert = (setting_of minsert.insert, (minsert.columns, (minsert.rows, (minsert.column_spacing, minsert.row_spacing))))

-- such an insert from these and from what its insert names
abbrev pub minsert_of : Setting × (ℕ × (ℕ × (ℕ × ℕ))) → Reference × Option Attributes → MInsert
minsert_of (setting, (columns, (rows, (column_spacing, row_spacing)))) named =
    record { insert = insert_of setting named; columns = columns; rows = rows; column_spacing = column_spacing; row_spacing = row_spacing }

-- the main bits, and the references of its insert
unfoldable pub minsert_body : ℕ → BodyGrammar MInsert
minsert_body base =
    body minsert_main (λ parsed. insert_refs base parsed.0.1.1.1.1) minsert_of repeats_of (λ minsert. (minsert.insert.block, minsert.insert.attributes))
