-- A text style (Open Design Specification, "SHAPEFILE").
use Rattle.std.specs.Prelude.{ℕ, Bool, List}
use Rattle.dwg_grammar.specs.Codes.{rc, bd, tv, b}
use Rattle.dwg_grammar.specs.Combinators.{◌⋄◌}
use Rattle.dwg_grammar.specs.Grammar.{Grammar}
use Rattle.dwg_grammar.specs.Bodies.{BodyGrammar}
use Rattle.dwg_grammar.specs.MakingBodies.{body}
use Rattle.dwg_grammar.specs.Reference.{Reference}
use Rattle.dwg_grammar.specs.References.{one_ref}
use Rattle.dwg_tables.specs.declared.style.Style.{Style}
use Rattle.dwg_tables.specs.Entries.{TitleParts, entry_main, title_of, entry_of}

-- how the letters of a text style are formed, in the order of the bits
abbrev pub FormParts : Type 0
FormParts = Bool × (Bool × (ℕ × (ℕ × (ℕ × (ℕ × ℕ)))))

-- B flag_a; B flag_b; BD height; BD width; BD oblique; RC generation; BD last_height
unfoldable pub style_form : Grammar Bool FormParts
style_form = b ⋄ b ⋄ bd ⋄ bd ⋄ bd ⋄ rc ⋄ bd

-- the form of the letters of a text style
abbrev pub form_of : Style → FormParts
form_of style = (style.flag_a, (style.flag_b, (style.height, (style.width, (style.oblique, (style.generation, style.last_height))))))

-- a text style from what its main bits give and from its reference
abbrev pub text_style_of : TitleParts × (FormParts × (List ℕ × List ℕ)) → Reference → Style
text_style_of (title, ((flag_a, (flag_b, (height, (width, (oblique, (generation, last_height)))))), (font, big_font))) xref = record {
  entry = entry_of title xref;
  flag_a = flag_a;
  flag_b = flag_b;
  height = height;
  width = width;
  oblique = oblique;
  generation = generation;
  last_height = last_height;
  font = font;
  big_font = big_font;
}

-- the entry's; the form of its letters; TV font; TV big_font; and among the references xref
unfoldable pub style_body : ℕ → BodyGrammar Style
style_body base =
    body (entry_main ⋄ style_form ⋄ tv ⋄ tv) (λ parsed. one_ref base) text_style_of
    (λ style. (title_of style.entry, (form_of style, (style.font, style.big_font)))) (λ style. style.entry.xref)
