-- Preview sections (Open Design Specification, "R13 to R2000 file layout"), whose entries say where in the file pictures lie. That these lie in the section, and how a content is moved, are rules of this project.
use Rattle.std.specs.Prelude.{◌≡◌, ℕ, zero, suc, ◌+◌, ◌-◌, ◌*◌, ◌^◌, ◌<◌, ◌≤◌, List, [], ◌∷◌, ◌++◌, drop, flat_map, if◌then◌else◌, length, nat_lt, slice_index, take}
use Rattle.std.specs.List.{AllByRecursion}
use Rattle.std.specs.Int.{w32, to_le_bytes}
use Rattle.dwg_base.specs.Bytes.{StandsAt}
use Rattle.dwg_sections.specs.Framed.{complemented}
use Rattle.dwg_sections.specs.HeaderLines.{rl_at}

-- the sixteen bytes before the size of the content
abbrev pub PREVIEW_SENTINEL : List ℕ
PREVIEW_SENTINEL = 0x1F ∷ 0x25 ∷ 0x6D ∷ 0x07 ∷ 0xD4 ∷ 0x36 ∷ 0x28 ∷ 0x28 ∷ 0x9D ∷ 0x57 ∷ 0xCA ∷ 0x3F ∷ 0x9D ∷ 0x44 ∷ 0x10 ∷ 0x2B ∷ []

-- the whole section: begin sentinel, RL size of the content, content, end sentinel
abbrev pub preview_bytes : List ℕ → List ℕ
preview_bytes content = PREVIEW_SENTINEL ++ to_le_bytes w32 (length content) ++ content ++ complemented PREVIEW_SENTINEL

-- how many bytes a section has without its content
abbrev pub WITHOUT_CONTENT : ℕ
WITHOUT_CONTENT = 36

-- an entry: what kind of picture it names, and where that lies
pub record Entry : Type 0 where
  pub code : ℕ
  pub place : ℕ
  pub size : ℕ

-- RC code, RL place, RL size
abbrev pub entry_bytes : Entry → List ℕ
entry_bytes entry = entry.code ∷ (to_le_bytes w32 entry.place ++ to_le_bytes w32 entry.size)

-- its numbers lie in the ranges of their codes
pub record IsEntry (entry : Entry) : Type 0 where
  pub code : entry.code < 2 ^ 8
  pub place : entry.place < 2 ^ 32
  pub size : entry.size < 2 ^ 32

-- a content: RC count of entries, the entries, further bytes
abbrev pub content_bytes : List Entry → List ℕ → List ℕ
content_bytes entries further = length entries ∷ (flat_map entry_bytes entries ++ further)

-- the picture of an entry, where it has a byte, lies between two places
abbrev pub LiesBetween : ℕ → ℕ → Entry → Type 0
LiesBetween from end entry = 0 < entry.size → (from ≤ entry.place) × (entry.place + entry.size ≤ end)

-- a content of a preview section that stands at a place: its pictures lie after its entries and in it
pub record IsContent (place : ℕ) (content : List ℕ) : Type 0 where
  pub size : length content < 2 ^ 32
  pub entries : List Entry
  pub further : List ℕ
  pub few : length entries < 2 ^ 8
  pub are : AllByRecursion IsEntry entries
  pub whole : content ≡ content_bytes entries further
  pub within : AllByRecursion (LiesBetween (place + 21 + 9 * length entries) (place + 20 + length content)) entries

-- a preview section with this content stands at a place of the input
pub record PreviewAt (bytes : List ℕ) (place : ℕ) (content : List ℕ) : Type 0 where
  pub is : IsContent place content
  pub stands : StandsAt bytes place (preview_bytes content)

-- an entry of a section that stood at one place as it is in a section at another; without a picture its place is 0
abbrev pub moved_entry : ℕ → ℕ → Entry → Entry
moved_entry from to entry = record { code = entry.code; place = if nat_lt 0 entry.size then entry.place - from + to else 0; size = entry.size }

-- the entry at a place of a content
abbrev pub entry_at : List ℕ → ℕ → Entry
entry_at content place = record { code = slice_index content place; place = rl_at content (place + 1); size = rl_at content (place + 5) }

-- so many entries from a place of a content, each as it is elsewhere
unfoldable pub entries_moved : ℕ → ℕ → ℕ → List ℕ → ℕ → List ℕ
entries_moved from to zero content place = []
entries_moved from to (suc count) content place = entry_bytes (moved_entry from to (entry_at content place)) ++ entries_moved from to count content (place + 9)

-- a content of a section that stood at one place as it is in a section at another
unfoldable pub moved : ℕ → ℕ → List ℕ → List ℕ
moved from to content = take 1 content ++ entries_moved from to (slice_index content 0) content 1 ++ drop (1 + 9 * slice_index content 0) content

-- the further bytes of a content, after its entries
abbrev pub further_bytes : List ℕ → List ℕ
further_bytes content = drop (1 + 9 * slice_index content 0) content

-- a section that stood at one place as it is at another, up to its further bytes
abbrev pub prefix_bytes : ℕ → ℕ → List ℕ → List ℕ
prefix_bytes from to content =
    PREVIEW_SENTINEL ++ to_le_bytes w32 (length content) ++ (take 1 content ++ entries_moved from to (slice_index content 0) content 1)
