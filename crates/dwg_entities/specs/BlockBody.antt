-- The begin of a block (Open Design Specification, "BLOCK").
use Rattle.std.specs.Prelude.{ℕ, Bool}
use Rattle.dwg_grammar.specs.Codes.{tv}
use Rattle.dwg_grammar.specs.Grammar.{Grammar}
use Rattle.dwg_grammar.specs.Bodies.{BodyGrammar}
use Rattle.dwg_grammar.specs.MakingBodies.{main_body}
use Rattle.dwg_grammar.specs.Combinators.{shaped}
use Rattle.dwg_entities.specs.declared.block.Block.{Block}

-- TV name
abbrev pub block_main : Grammar Bool Block
block_main = shaped (λ name. record { name = name }) (λ block. block.name) tv

-- the main bits, and no references
unfoldable pub block_body : ℕ → BodyGrammar Block
block_body base = main_body block_main
