-- The lines of the table of refusals on a framed section at a place. A rule of this project, over the sections of the Open Design Specification, "R13 to R2000 file layout".
use Rattle.std.specs.Prelude.{ℕ, ◌+◌, not, List, [], ◌∷◌, length, bytes_eq, nat_lt, ◌==◌}
use Rattle.dwg_base.specs.Refusals.{RefusalRow, refuse_if}
use Rattle.dwg_check.specs.CheckWord.{CHECK_SEED, check_word}
use Rattle.dwg_sections.specs.declared.framed.Framed.{Framed}
use Rattle.dwg_sections.specs.declared.framed.Framed.TheVariants.{Variables, Classes}
use Rattle.dwg_sections.specs.Framed.{begin_sentinel, end_sentinel}
use Rattle.dwg_sections.specs.HeaderLines.{bytes_at, rs_at, rl_at}

-- the first of a section's five lines
abbrev pub first_line : Framed → ℕ
first_line Variables = 9
first_line Classes = 14

-- the size that a section at a place says its content has
abbrev pub size_at : List ℕ → ℕ → ℕ
size_at bytes place = rl_at bytes (place + 16)

-- how many bytes of a section stand before its content
abbrev pub BEFORE_CONTENT : ℕ
BEFORE_CONTENT = 20

-- the content of the section at a place, where no line on it fails
abbrev pub content_at : List ℕ → ℕ → List ℕ
content_at bytes place = bytes_at bytes (place + BEFORE_CONTENT) (size_at bytes place)

-- fewer bytes than a section has up to its content
unfoldable pub framed_short_line : Framed → ℕ → RefusalRow
framed_short_line which place bytes = refuse_if (nat_lt (length bytes) (place + 20)) (first_line which) 0 place

-- another begin sentinel
unfoldable pub begin_line : Framed → ℕ → RefusalRow
begin_line which place bytes = refuse_if (not (bytes_eq (bytes_at bytes place 16) (begin_sentinel which))) (first_line which + 1) 0 place

-- fewer bytes than a section of this size has
unfoldable pub length_line : Framed → ℕ → RefusalRow
length_line which place bytes = refuse_if (nat_lt (length bytes) (place + 38 + size_at bytes place)) (first_line which + 2) 0 (place + 16)

-- a wrong check word
unfoldable pub framed_check_line : Framed → ℕ → RefusalRow
framed_check_line which place bytes =
    refuse_if (not (rs_at bytes (place + 20 + size_at bytes place) == check_word CHECK_SEED (bytes_at bytes (place + 16) (4 + size_at bytes place))))
    (first_line which + 3) 0 (place + 20 + size_at bytes place)

-- another end sentinel
unfoldable pub end_line : Framed → ℕ → RefusalRow
end_line which place bytes =
    refuse_if (not (bytes_eq (bytes_at bytes (place + 22 + size_at bytes place) 16) (end_sentinel which)))
    (first_line which + 4) 0 (place + 22 + size_at bytes place)

-- the lines on a framed section at a place, in the order in which they are tried
abbrev pub framed_lines : Framed → ℕ → List RefusalRow
framed_lines which place =
    framed_short_line which place ∷ begin_line which place ∷ length_line which place ∷ framed_check_line which place ∷ end_line which place ∷ []
