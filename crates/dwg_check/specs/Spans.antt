-- The check words of the prefixes of a run of bytes, and of its spans (a rule of this project).
use Rattle.std.proofs.Common.{ℕ, ◌+◌, List, length, map, take}
use Rattle.std.specs.List.{range_with_len}
use Rattle.dwg_check.specs.CheckWord.{check_word}

-- the check words, begun as 0, of the first n prefixes of the bytes, from the empty one on
unfoldable pub words_before : List ℕ → ℕ → List ℕ
words_before bytes n = map (λ k. check_word 0 (take k bytes)) (range_with_len 0 n)

-- the check word of each prefix of the bytes, begun as 0, from the empty one to all
unfoldable pub prefix_words : List ℕ → List ℕ
prefix_words bytes = words_before bytes (length bytes + 1)
