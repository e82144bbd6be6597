-- A linetype (Open Design Specification, "LTYPE").
use Rattle.std.specs.Prelude.{ℕ, Bool, List, length, map}
use Rattle.dwg_grammar.specs.Codes.{rc, rd, bs, bd, tv}
use Rattle.dwg_grammar.specs.Combinators.{◌⋄◌, items, counted}
use Rattle.dwg_grammar.specs.Grammar.{Grammar}
use Rattle.dwg_grammar.specs.Bodies.{BodyGrammar}
use Rattle.dwg_grammar.specs.MakingBodies.{body}
use Rattle.dwg_grammar.specs.References.{ReferencePart, one_ref, some_refs, then_refs}
use Rattle.dwg_grammar.specs.Reference.{Reference}
use Rattle.dwg_tables.specs.declared.ltype.Dash.{Dash}
use Rattle.dwg_tables.specs.declared.ltype.Ltype.{Ltype}
use Rattle.dwg_tables.specs.Entries.{TitleParts, entry_main, title_of, entry_of}
use Rattle.dwg_common.specs.Members.{joined}

-- what the main bits of a dash give, in their order
abbrev pub StrokeParts : Type 0
StrokeParts = ℕ × (ℕ × (ℕ × (ℕ × (ℕ × (ℕ × ℕ)))))

-- BD length; BS code; RD x; RD y; BD scale; BD rotation; BS flag
unfoldable pub stroke : Grammar Bool StrokeParts
stroke = bd ⋄ bs ⋄ rd ⋄ rd ⋄ bd ⋄ bd ⋄ bs

-- what the main bits of a dash give, and the dash of these and of its style
abbrev pub stroke_of : Dash → StrokeParts
stroke_of dash = (dash.length, (dash.code, (dash.x, (dash.y, (dash.scale, (dash.rotation, dash.flag))))))

abbrev pub dash_of : StrokeParts → Reference → Dash
dash_of (length, (code, (x, (y, (scale, (rotation, flag)))))) style = record {
  length = length;
  code = code;
  x = x;
  y = y;
  scale = scale;
  rotation = rotation;
  flag = flag;
  style = style;
}

-- what a dash names
abbrev pub style_of : Dash → Reference
style_of dash = dash.style

-- what the main bits of a linetype give, in their order
abbrev pub PatternParts : Type 0
PatternParts = TitleParts × (List ℕ × (ℕ × (ℕ × (List StrokeParts × List ℕ))))

-- the entry's; TV description; BD length; RC alignment; RC count of dashes; what the main bits of each give; 256 bytes
unfoldable pub ltype_main : Grammar Bool PatternParts
ltype_main = entry_main ⋄ tv ⋄ bd ⋄ rc ⋄ counted rc stroke ⋄ items rc 256

-- xref; the style of each dash
abbrev pub ltype_refs : ℕ → PatternParts → ReferencePart (Reference × List Reference)
ltype_refs base (title, (description, (extent, (alignment, (strokes, texts))))) = then_refs (one_ref base) (some_refs base (length strokes))

-- what the main bits of a linetype give, and what it names
abbrev pub pattern_of : Ltype → PatternParts
pattern_of ltype = (title_of ltype.entry, (ltype.description, (ltype.length, (ltype.alignment, (map stroke_of ltype.dashes, ltype.texts)))))

abbrev pub named_of_ltype : Ltype → Reference × List Reference
named_of_ltype ltype = (ltype.entry.xref, map style_of ltype.dashes)

-- a linetype from these
abbrev pub ltype_of : PatternParts → Reference × List Reference → Ltype
ltype_of (title, (description, (length, (alignment, (strokes, texts))))) (xref, styles) = record {
  entry = entry_of title xref;
  description = description;
  length = length;
  alignment = alignment;
  dashes = joined dash_of strokes styles;
  texts = texts;
}

-- the main bits, and the references
unfoldable pub ltype_body : ℕ → BodyGrammar Ltype
ltype_body base = body ltype_main (ltype_refs base) ltype_of pattern_of named_of_ltype
