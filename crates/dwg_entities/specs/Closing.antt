-- What closes others: the end of a block, and the end of a sequence (Open Design Specification, "ENDBLK" and "SEQEND").
use Rattle.std.specs.Prelude.{ℕ, Bool}
use Rattle.dwg_grammar.specs.Combinators.{always}
use Rattle.dwg_grammar.specs.Grammar.{Grammar}
use Rattle.dwg_grammar.specs.Bodies.{BodyGrammar}
use Rattle.dwg_grammar.specs.MakingBodies.{main_body}
use Rattle.dwg_entities.specs.declared.block_ends.EndBlk.{EndBlk}
use Rattle.dwg_entities.specs.declared.block_ends.SeqEnd.{SeqEnd}

-- no bits
abbrev pub endblk_main : Grammar Bool EndBlk
endblk_main = always (record {})

abbrev pub seqend_main : Grammar Bool SeqEnd
seqend_main = always (record {})

-- and no references
unfoldable pub endblk_body : ℕ → BodyGrammar EndBlk
endblk_body base = main_body endblk_main

unfoldable pub seqend_body : ℕ → BodyGrammar SeqEnd
seqend_body base = main_body seqend_main
