-- Bodies made of codes: each says what it spells of what its main bits and its references spell. A rule of this project.
use Rattle.dwg_grammar.specs.ReferenceCodes.{reference}
use Rattle.dwg_grammar.specs.Reference.{Reference}
use Rattle.dwg_grammar.specs.ToEnd.{SpellsAll, AreValues, short_all}
use Rattle.std.specs.Prelude.{◌≡◌, ⊤, Bool, List, [], Option, option_map, option_and_then, ℕ, zero, suc, Some, None, length, nat_lt, if◌then◌else◌, ◌<◌, ◌∷◌}
use Rattle.std.specs.Option.{option_map_or}
use Rattle.dwg_grammar.specs.Grammar.{Grammar}
use Rattle.dwg_grammar.specs.Bodies.{BodyGrammar}
use Rattle.dwg_grammar.specs.References.{ReferencePart, no_refs}

-- a struct by what its main bits give and by its references, of which the main bits give how many there are
abbrev pub body : {A R V : Type 0} → Grammar Bool A → (A → ReferencePart R) → (A → R → V) → (V → A) → (V → R) → BodyGrammar V
body {A} {R} {V} main references into main_of references_of = record {
  Spells = λ value main_bits reference_bits over.
      (parsed : A) × (named : R) × (value ≡ into parsed named) × main.Spells parsed main_bits × (references parsed).grammar.Spells named reference_bits;
  Fits = λ value. main.IsValue (main_of value) × (references (main_of value)).grammar.IsValue (references_of value);
  MayFollow = λ over. ⊤;
  parse = λ main_bits reference_bits.
      option_and_then
      (λ (parsed : A × List Bool). option_map (λ (named : R × List Bool). (into parsed.0 named.0, (parsed.1, named.1))) ((references parsed.0).grammar.parse reference_bits))
      (main.parse main_bits);
  short_main = λ value. main.short (main_of value);
  short_references = λ value. (references (main_of value)).grammar.short (references_of value);
  references = λ value. (references (main_of value)).list (references_of value);
}

-- what its main bits give alone: no references
abbrev pub main_body : {V : Type 0} → Grammar Bool V → BodyGrammar V
main_body {V} main = body main (λ parsed. no_refs) (λ parsed named. parsed) (λ value. value) (λ value. tt)

-- a body as one variant of an enum
abbrev pub variant : {V W : Type 0} → (V → W) → (W → Option V) → BodyGrammar V → BodyGrammar W
variant {V} {W} into back inner = record {
  Spells = λ value main references over. (held : V) × (value ≡ into held) × inner.Spells held main references over;
  Fits = λ value. (held : V) × (value ≡ into held) × inner.Fits held;
  MayFollow = inner.MayFollow;
  parse = λ main references. option_map (λ (found : V × (List Bool × List Bool)). (into found.0, found.1)) (inner.parse main references);
  short_main = λ value. option_map_or inner.short_main (back value) [];
  short_references = λ value. option_map_or inner.short_references (back value) [];
  references = λ value. option_map_or inner.references (back value) [];
}

-- what was read of the main bits and what was read of the references, put together
abbrev pub put_together : {A R V : Type 0} → (A → R → V) → A × List Bool → R × List Bool → V × (List Bool × List Bool)
put_together {A} {R} {V} into parsed named = (into parsed.0 named.0, (parsed.1, named.1))

-- the values that letters hold while so many are left as the shortest has, and what is left of the letters; None where one of them isn't spelled
unfoldable pub parse_to_end : {V : Type 0} → ℕ → Grammar Bool V → ℕ → List Bool → Option (List V × List Bool)
parse_to_end {V} least code zero letters = None
parse_to_end {V} least code (suc fuel) letters =
    if nat_lt (length letters) least then Some ([], letters)
    else option_and_then (λ (one : V × List Bool). option_map (λ (after : List V × List Bool). (one.0 ∷ after.0, after.1)) (parse_to_end least code fuel one.1)) (code.parse letters)

-- a struct by what its main bits give and by its references, which are all until fewer than eight bits are left
abbrev pub to_end : {A V : Type 0} → ℕ → Grammar Bool A → (A → List Reference → V) → (V → A) → (V → List Reference) → BodyGrammar V
to_end {A} {V} base main into main_of references_of = record {
  Spells = λ value main_bits reference_bits over.
      (parsed : A) × (named : List Reference) × (value ≡ into parsed named) × main.Spells parsed main_bits × SpellsAll (reference base) named reference_bits × (over < 8);
  Fits = λ value. main.IsValue (main_of value) × AreValues (reference base) (references_of value);
  MayFollow = λ over. over < 8;
  parse = λ main_bits reference_bits.
      option_and_then (λ (parsed : A × List Bool). option_map (put_together into parsed) (parse_to_end 8 (reference base) (suc (length reference_bits)) reference_bits)) (main.parse main_bits);
  short_main = λ value. main.short (main_of value);
  short_references = λ value. short_all (reference base) (references_of value);
  references = λ value. references_of value;
}
