-- What it is that the calls of a part go by a definition. A rule of this project.
use Rattle.std.specs.Prelude.{◌≡◌, ◌↔◌, ℕ, Bool, List}
use Rattle.dwg_grammar.specs.Bodies.{BodyGrammar}

-- a grammar spells just what the definition spells, takes the same values, parses alike, and writes the same bits and references
pub record IsDefinedBy {V : Type 0} (grammar body : BodyGrammar V) : Type 0 where
  pub spells : (value : V) (main references : List Bool) (over : ℕ) → grammar.Spells value main references over ↔ body.Spells value main references over
  pub fits : (value : V) → grammar.Fits value ↔ body.Fits value
  pub may_follow : (over : ℕ) → grammar.MayFollow over ↔ body.MayFollow over
  pub parse : (main references : List Bool) → grammar.parse main references ≡ body.parse main references
  pub short_main : (value : V) → grammar.short_main value ≡ body.short_main value
  pub short_references : (value : V) → grammar.short_references value ≡ body.short_references value
  pub references : (value : V) → grammar.references value ≡ body.references value
