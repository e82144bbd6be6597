-- The content of the preview section at a place as a function of the input: what `Previews` says of a section, as tests.
use Rattle.std.specs.Prelude.{ℕ, zero, suc, ◌+◌, ◌*◌, Bool, true, ◌&&◌, ◌||◌, ◌==◌, List, length, Option, Some, None, bytes_eq, nat_le, nat_lt, if◌then◌else◌, slice_index}
use Rattle.dwg_sections.specs.HeaderLines.{bytes_at, rl_at}
use Rattle.dwg_preview.specs.Previews.{Entry, WITHOUT_CONTENT, entry_at, preview_bytes}
use Rattle.dwg_preview.specs.declared.preview.Preview.{Preview}

-- whether the picture of an entry, where it has a byte, lies between two places
unfoldable pub picture_lies : ℕ → ℕ → Entry → Bool
picture_lies from end entry = entry.size == 0 || (nat_le from entry.place && nat_le (entry.place + entry.size) end)

-- whether the pictures of so many entries from a place of a content do
unfoldable pub pictures_lie : ℕ → ℕ → ℕ → List ℕ → ℕ → Bool
pictures_lie from end zero content place = true
pictures_lie from end (suc count) content place = picture_lies from end (entry_at content place) && pictures_lie from end count content (place + 9)

-- whether bytes are the content of a section at a place: a count, so many entries, and the pictures of these after them and in it
unfoldable pub is_content : ℕ → List ℕ → Bool
is_content place content =
    nat_lt 0 (length content) && nat_le (1 + 9 * slice_index content 0) (length content)
    && pictures_lie (place + 21 + 9 * slice_index content 0) (place + 20 + length content) (slice_index content 0) content 1

-- whether the section with a content stands at a place of the input, to its last byte
unfoldable pub is_section : List ℕ → ℕ → List ℕ → Bool
is_section bytes place content = bytes_eq (bytes_at bytes place (WITHOUT_CONTENT + length content)) (preview_bytes content)

-- the bytes after the size of a section at a place of the input, as many as the size says
abbrev pub bytes_within : List ℕ → ℕ → List ℕ
bytes_within bytes place = bytes_at bytes (place + 20) (rl_at bytes (place + 16))

-- the content of the preview section at a place of the input, where one stands there
unfoldable pub content_at : List ℕ → ℕ → Option (List ℕ)
content_at bytes place =
    if is_section bytes place (bytes_within bytes place) && is_content place (bytes_within bytes place) then Some (bytes_within bytes place) else None

-- the content of a section that was read
abbrev pub content_of : Option Preview → Option (List ℕ)
content_of None = None
content_of (Some preview) = Some preview.content.now
