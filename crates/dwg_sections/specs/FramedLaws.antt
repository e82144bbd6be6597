-- Laws of framed sections: what stands at a place, and what the lines on a section there say, are one.
use Rattle.std.specs.Prelude.{◌≡◌, ℕ, ◌+◌, List, length, None}
use Rattle.dwg_base.specs.Bytes.{AreBytes}
use Rattle.dwg_base.specs.Refusals.{first_fault}
use Rattle.dwg_sections.specs.declared.framed.Framed.{Framed}
use Rattle.dwg_sections.specs.Framed.{FramedAt, WITHOUT_CONTENT, framed_bytes}
use Rattle.dwg_sections.specs.FramedLines.{framed_lines, content_at}

-- where no line on a section at a place fails, the section with the content that is read stands there
abbrev pub PassingBytesHaveSection : Type 0
PassingBytesHaveSection =
    (which : Framed) (place : ℕ) (bytes : List ℕ) → AreBytes bytes → first_fault (framed_lines which place) bytes ≡ None
    → FramedAt bytes place which (content_at bytes place)

-- where a section stands at a place, no line on it fails, and its content is the one that is read: so there is no other
abbrev pub SectionIsRead : Type 0
SectionIsRead =
    (which : Framed) (place : ℕ) (bytes content : List ℕ) → FramedAt bytes place which content
    → (first_fault (framed_lines which place) bytes ≡ None) × (content ≡ content_at bytes place)

-- a section has so many bytes, and those of its content
abbrev pub SectionIsCounted : Type 0
SectionIsCounted = (which : Framed) (content : List ℕ) → length (framed_bytes which content) ≡ WITHOUT_CONTENT + length content
