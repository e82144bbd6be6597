-- Which line on a framed section at a place is the first that fails. A rule of this project, over the sections of the Open Design Specification, "R13 to R2000 file layout".
use Rattle.std.specs.Prelude.{◌≡◌, ◌⊎◌, ℕ, ◌+◌, ◌<◌, ◌≤◌, ◌↔◌, List, length, Some}
use Rattle.dwg_base.specs.Refusals.{first_fault}
use Rattle.dwg_base.specs.Refusal.{Refusal}
use Rattle.dwg_check.specs.CheckWord.{CHECK_SEED, check_word}
use Rattle.dwg_sections.specs.declared.framed.Framed.{Framed}
use Rattle.dwg_sections.specs.Framed.{begin_sentinel, end_sentinel}
use Rattle.dwg_sections.specs.HeaderLines.{bytes_at, rs_at}
use Rattle.dwg_sections.specs.FramedLines.{first_line, size_at, framed_lines}

-- the refusal of a section by one of its lines
abbrev pub framed_refusal : ℕ → ℕ → Refusal
framed_refusal line place = record { line = line; index = 0; place = place }

-- the input has room for the begin sentinel and the size of a section at a place, and the sentinel stands there
pub record HasBegin (which : Framed) (bytes : List ℕ) (place : ℕ) : Type 0 where
  pub long : place + 20 ≤ length bytes
  pub sentinel : bytes_at bytes place 16 ≡ begin_sentinel which

-- and it has room for the whole section
pub record HasRoom (which : Framed) (bytes : List ℕ) (place : ℕ) : Type 0 where
  pub begins : HasBegin which bytes place
  pub room : place + 38 + size_at bytes place ≤ length bytes

-- the check word of the section at a place is right
abbrev pub HasSectionCheckWord : List ℕ → ℕ → Type 0
HasSectionCheckWord bytes place = rs_at bytes (place + 20 + size_at bytes place) ≡ check_word CHECK_SEED (bytes_at bytes (place + 16) (4 + size_at bytes place))

-- the end sentinel of the section at a place stands after it
abbrev pub HasEnd : Framed → List ℕ → ℕ → Type 0
HasEnd which bytes place = bytes_at bytes (place + 22 + size_at bytes place) 16 ≡ end_sentinel which

-- the refusal is that of the section at a place: the input is too short for its begin, its begin sentinel is another, the input is too short for the section, its check word is wrong, or its end sentinel is another, and nothing before that
abbrev pub RefusesFramed : Framed → ℕ → List ℕ → Refusal → Type 0
RefusesFramed which place bytes refusal =
    ((refusal ≡ framed_refusal (first_line which) place) × (length bytes < place + 20))
    ⊎ ((refusal ≡ framed_refusal (first_line which + 1) place) × (place + 20 ≤ length bytes) × (bytes_at bytes place 16 ≡ begin_sentinel which → ⊥))
    ⊎ ((refusal ≡ framed_refusal (first_line which + 2) (place + 16)) × HasBegin which bytes place × (length bytes < place + 38 + size_at bytes place))
    ⊎ ((refusal ≡ framed_refusal (first_line which + 3) (place + 20 + size_at bytes place)) × HasRoom which bytes place × (HasSectionCheckWord bytes place → ⊥))
    ⊎ ((refusal ≡ framed_refusal (first_line which + 4) (place + 22 + size_at bytes place)) × HasRoom which bytes place × HasSectionCheckWord bytes place × (HasEnd which bytes place → ⊥))

-- the lines on a section at a place refuse an input exactly as the section there is refused
abbrev pub SectionIsRefused : Type 0
SectionIsRefused =
    (which : Framed) (place : ℕ) (bytes : List ℕ) (refusal : Refusal)
    → (first_fault (framed_lines which place) bytes ≡ Some refusal) ↔ RefusesFramed which place bytes refusal
