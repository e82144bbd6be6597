use Rattle.std.proofs.Common.{◌≡◌, drop}
use Rattle.dwg_check.specs.CheckWord.{check_word}
use Rattle.dwg_check.proofs.table.after_rest.Given as goal

-- the word so far gives with the bytes that are left the check word of all
abbrev pub invariant-bytes : goal.invariant-bytes
invariant-bytes l = check_word l.after (drop l.place l.bytes) ≡ check_word l.fn.word (drop l.fn.at l.fn.bytes)
