-- Framed sections: the header variables and the classes (Open Design Specification, "R13 to R2000 file layout").
use Rattle.std.specs.Prelude.{ℕ, ◌-◌, ◌^◌, ◌<◌, List, [], ◌∷◌, ◌++◌, length, map}
use Rattle.std.specs.Int.{w16, w32, to_le_bytes}
use Rattle.dwg_base.specs.Bytes.{StandsAt}
use Rattle.dwg_check.specs.CheckWord.{CHECK_SEED, check_word}
use Rattle.dwg_sections.specs.declared.framed.Framed.{Framed}
use Rattle.dwg_sections.specs.declared.framed.Framed.TheVariants.{Variables, Classes}

-- the sixteen bytes before the size of the header variables
abbrev pub VARIABLES_SENTINEL : List ℕ
VARIABLES_SENTINEL = 0xCF ∷ 0x7B ∷ 0x1F ∷ 0x23 ∷ 0xFD ∷ 0xDE ∷ 0x38 ∷ 0xA9 ∷ 0x5F ∷ 0x7C ∷ 0x68 ∷ 0xB8 ∷ 0x4E ∷ 0x6D ∷ 0x33 ∷ 0x5F ∷ []

-- the sixteen bytes before the size of the classes
abbrev pub CLASSES_SENTINEL : List ℕ
CLASSES_SENTINEL = 0x8D ∷ 0xA1 ∷ 0xC4 ∷ 0xB8 ∷ 0xC4 ∷ 0xA9 ∷ 0xF8 ∷ 0xC5 ∷ 0xC0 ∷ 0xDC ∷ 0xF4 ∷ 0x5F ∷ 0xE7 ∷ 0xCF ∷ 0xB6 ∷ 0x8A ∷ []

-- every byte with each of its bits turned
abbrev pub complemented : List ℕ → List ℕ
complemented bytes = map (λ byte. 255 - byte) bytes

-- what a section begins with
abbrev pub begin_sentinel : Framed → List ℕ
begin_sentinel Variables = VARIABLES_SENTINEL
begin_sentinel Classes = CLASSES_SENTINEL

-- what a section ends with: the complement of what it begins with
abbrev pub end_sentinel : Framed → List ℕ
end_sentinel which = complemented (begin_sentinel which)

-- what the check word of a section is over: the RL size of the content in bytes, and the content
abbrev pub sized_content : List ℕ → List ℕ
sized_content content = to_le_bytes w32 (length content) ++ content

-- the whole section: begin sentinel, size, content, RS check word, end sentinel
abbrev pub framed_bytes : Framed → List ℕ → List ℕ
framed_bytes which content =
    begin_sentinel which ++ sized_content content ++ to_le_bytes w16 (check_word CHECK_SEED (sized_content content)) ++ end_sentinel which

-- how many bytes a section has without its content
abbrev pub WITHOUT_CONTENT : ℕ
WITHOUT_CONTENT = 38

-- a section with this content stands at a place of the input
pub record FramedAt (bytes : List ℕ) (place : ℕ) (which : Framed) (content : List ℕ) : Type 0 where
  pub size : length content < 2 ^ 32
  pub stands : StandsAt bytes place (framed_bytes which content)
