use Rattle.std.proofs.Common.{◌≡◌, ◌≤◌, ◌-◌, length, drop}
use Rattle.dwg_check.specs.CheckWord.{check_word}
use Rattle.dwg_check.proofs.check.Given as goal

-- the word so far gives with the bytes that are left the check word of all
abbrev pub invariant-words : goal.invariant-words
invariant-words l = (l.at ≤ length l.bytes) × (check_word l.word (drop l.at l.bytes) ≡ check_word l.start l.bytes)

abbrev pub decreases-words : goal.decreases-words
decreases-words l = length l.bytes - l.at
