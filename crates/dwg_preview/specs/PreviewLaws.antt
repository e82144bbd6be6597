-- Laws of preview sections.
use Rattle.std.specs.Prelude.{◌≡◌, ℕ, ◌+◌, ◌^◌, ◌<◌, List, ◌++◌, Some, length, map}
use Rattle.dwg_base.specs.Bytes.{AreBytes}
use Rattle.dwg_sections.specs.Framed.{complemented}
use Rattle.dwg_preview.specs.ContentAt.{content_at}
use Rattle.dwg_preview.specs.Previews.{IsContent, PREVIEW_SENTINEL, PreviewAt, WITHOUT_CONTENT, content_bytes, prefix_bytes, further_bytes, moved, moved_entry, preview_bytes}

-- at a place of an input stands a section of one content at the most
abbrev pub PreviewIsOne : Type 0
PreviewIsOne = (bytes : List ℕ) (place : ℕ) (content other : List ℕ) → PreviewAt bytes place content → PreviewAt bytes place other → content ≡ other

-- a section has so many bytes, and those of its content
abbrev pub PreviewIsCounted : Type 0
PreviewIsCounted = (content : List ℕ) → length (preview_bytes content) ≡ WITHOUT_CONTENT + length content

-- what is moved has each entry as it is at the other place, and all else as it was
abbrev pub EntriesAreMoved : Type 0
EntriesAreMoved = (from to : ℕ) (content : List ℕ) (is : IsContent from content) → moved from to content ≡ content_bytes (map (moved_entry from to) is.entries) is.further

-- it has as many bytes, and is a content at the other place
abbrev pub MovedIsContent : Type 0
MovedIsContent =
    (from to : ℕ) (content : List ℕ) → IsContent from content → to + WITHOUT_CONTENT + length content < 2 ^ 32
    → (length (moved from to content) ≡ length content) × IsContent to (moved from to content)

-- what is moved twice is moved at once
abbrev pub MovedTwiceIsMoved : Type 0
MovedTwiceIsMoved =
    (from by to : ℕ) (content : List ℕ) → IsContent from content → by + WITHOUT_CONTENT + length content < 2 ^ 32
    → moved by to (moved from by content) ≡ moved from to content

-- and to where it stands already, it stays as it is
abbrev pub MovedStays : Type 0
MovedStays =
    (from to : ℕ) (content : List ℕ) → IsContent from content → to + WITHOUT_CONTENT + length content < 2 ^ 32
    → moved to to (moved from to content) ≡ moved from to content

-- a section at another place is what stands before its further bytes, these, and the end sentinel
abbrev pub SectionIsPieces : Type 0
SectionIsPieces =
    (from to : ℕ) (content : List ℕ) → IsContent from content → to + WITHOUT_CONTENT + length content < 2 ^ 32
    → prefix_bytes from to content ++ further_bytes content ++ complemented PREVIEW_SENTINEL ≡ preview_bytes (moved from to content)

-- the function finds exactly what stands there
abbrev pub ContentIsFound : Type 0
ContentIsFound =
    (bytes : List ℕ) (place : ℕ) → AreBytes bytes
    → ((content : List ℕ) → content_at bytes place ≡ Some content → PreviewAt bytes place content)
    × ((content : List ℕ) → PreviewAt bytes place content → content_at bytes place ≡ Some content)
