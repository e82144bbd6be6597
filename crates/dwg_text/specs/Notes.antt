-- The notes that the program writes on standard error. A rule of this project.
use Rattle.std.specs.Prelude.{ℕ, List, ◌++◌, codes, decimal}
use Rattle.dwg_base.specs.Refusals.{part_word_of, reason_word_of}
use Rattle.dwg_base.specs.Refusal.{Refusal}
use Rattle.dwg_text.specs.Lines.{line}

-- which words the program takes
unfoldable pub usage_note : List ℕ
usage_note = line (codes "dwg: usage: sections | classes | show | rewrite | audit | recover | make N SEED | drill N | appdata | certify | accept | carry")

-- a drawing has no certificate
unfoldable pub unsound_note : List ℕ
unsound_note = line (codes "dwg: not sound")

-- no preview stands where the file header says
unfoldable pub preview_dropped_note : List ℕ
preview_dropped_note = line (codes "dwg: preview dropped")

-- how many entities a made drawing may be asked for
unfoldable pub size_note : List ℕ
size_note = line (codes "dwg: size must be 1 to 200000")

-- the words of a refusal: which part of the input is faulty, where, and why
unfoldable pub refusal_words : Refusal → List ℕ
refusal_words refusal = part_word_of refusal.line ++ codes " " ++ decimal refusal.index ++ codes " at " ++ decimal refusal.place ++ codes ": " ++ reason_word_of refusal.line

-- the note of a refusal
unfoldable pub refusal_note : Refusal → List ℕ
refusal_note refusal = line (codes "dwg: refused: " ++ refusal_words refusal)

-- the input could not be read
unfoldable pub read_fault_note : List ℕ
read_fault_note = line (codes "dwg: read fault")

-- the input is longer than the limit
unfoldable pub too_long_note : List ℕ
too_long_note = line (codes "dwg: input too long")

-- the canonical file would be longer than the limit
unfoldable pub too_large_note : ℕ → List ℕ
too_large_note size = line (codes "dwg: drawing too large: " ++ decimal size ++ codes " bytes")
