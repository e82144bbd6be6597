-- The counts of the marks of the inserts of a block (Open Design Specification, "BLOCK HEADER").
use Rattle.std.specs.Prelude.{◌==◌, ℕ, ◌^◌, ◌<◌, ◌≤◌, Bool, List}
use Rattle.dwg_grammar.specs.Codes.{rc}
use Rattle.dwg_grammar.specs.Combinators.{always, until}
use Rattle.dwg_grammar.specs.Grammar.{Grammar}

-- a count that a mark may have: it isn't 0
pub record IsMarkCount (count : ℕ) : Type 0 where
  pub some : 1 ≤ count
  pub few : count < 2 ^ 8

-- an RC that isn't 0, as often as there are marks; then RC 0
unfoldable pub mark_counts : Grammar Bool (List ℕ)
mark_counts = until rc 0 (λ count. count == 0) (λ count. always count) (λ count. count) IsMarkCount
