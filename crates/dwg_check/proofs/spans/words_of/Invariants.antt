use Rattle.std.specs.Prelude.{◌≡◌, ◌+◌, take}
use Rattle.dwg_check.specs.CheckWord.{check_word}
use Rattle.dwg_check.specs.Spans.{words_before}
use Rattle.dwg_check.proofs.spans.words_of.Given as goal

-- the words of all prefixes so far, the last of them at hand
abbrev pub invariant-bytes : goal.invariant-bytes
invariant-bytes l = (l.words.items ≡ words_before l.bytes (l.byte-index + 1)) × (l.word ≡ check_word 0 (take l.byte-index l.bytes))
