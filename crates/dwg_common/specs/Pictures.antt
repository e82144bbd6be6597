-- The picture of an entity (Open Design Specification, "Common entity data").
use Rattle.std.specs.Prelude.{ℕ, Bool, List, Option, is_some}
use Rattle.dwg_grammar.specs.Codes.{rc, rl, b}
use Rattle.dwg_grammar.specs.Combinators.{seq, when, counted, shaped}
use Rattle.dwg_grammar.specs.Grammar.{Grammar}

-- B, and where it is 1 RL size and so many bytes
unfoldable pub graphic : Grammar Bool (Option (List ℕ))
graphic = shaped (λ parts. parts.1) (λ bytes. (is_some bytes, bytes)) (seq b (λ there. when there (counted rl rc)))
