-- The lines of the table of refusals over a whole file, in their order. A rule of this project.
use Rattle.std.specs.Prelude.{ℕ, ◌+◌, Bool, not, ◌&&◌, List, [], ◌∷◌, ◌++◌, length, nat_lt, ◌==◌, Option, Some, None, Ok, Err, unwrap_or, if◌then◌else◌}
use Rattle.dwg_base.specs.Versions.{version_at}
use Rattle.std.specs.List.{list_any}
use Rattle.std.specs.Result.{result_unwrap_or}
use Rattle.dwg_base.specs.Refusals.{RefusalRow, Tried, first_fault, fault_of}
use Rattle.dwg_base.specs.Refusal.{Refusal}
use Rattle.dwg_classes.specs.declared.class.Class.{Class}
use Rattle.dwg_classes.specs.ClassLines.{tried_classes}
use Rattle.dwg_object.specs.declared.span.Span.{Span}
use Rattle.dwg_object.specs.Objects.{HeadParts}
use Rattle.dwg_object.specs.FrameLines.{frame_refusal, tried_span, tried_frame}
use Rattle.dwg_objmap.specs.declared.pair.Pair.{Pair}
use Rattle.dwg_objmap.specs.MapLines.{tried_map}
use Rattle.dwg_sections.specs.declared.framed.Framed.TheVariants.{Variables, Classes}
use Rattle.dwg_sections.specs.declared.header.Locator.{Locator}
use Rattle.dwg_sections.specs.HeaderLines.{HEADER_LINES, header_at, place_of}
use Rattle.dwg_sections.specs.FramedLines.{BEFORE_CONTENT, framed_lines, content_at}

-- where the section of a number lies: the place in the locator of that number, which a header has in which no line fails
abbrev pub section_place : ℕ → List ℕ → ℕ
section_place number bytes = unwrap_or (place_of number (header_at bytes).locators) 0

-- the lines on the section of the header variables
unfoldable pub variables_row : RefusalRow
variables_row bytes = first_fault (framed_lines Variables (section_place 0 bytes)) bytes

-- the lines on the section of the classes
unfoldable pub classes_section_row : RefusalRow
classes_section_row bytes = first_fault (framed_lines Classes (section_place 1 bytes)) bytes

-- the classes that the content of their section is cut into, or the first of them that fails a line
unfoldable pub classes_tried : List ℕ → Tried (List Class)
classes_tried bytes = tried_classes (section_place 1 bytes + BEFORE_CONTENT) (content_at bytes (section_place 1 bytes))

-- the lines on the classes, class by class
unfoldable pub classes_row : RefusalRow
classes_row bytes = fault_of (classes_tried bytes)

-- the pairs of the map, or the first page or pair of it that fails a line
unfoldable pub map_tried : List ℕ → Tried (List Pair)
map_tried bytes = tried_map (section_place 2 bytes) bytes

-- the lines on the map, page by page and pair by pair
unfoldable pub map_row : RefusalRow
map_row bytes = fault_of (map_tried bytes)

-- what is found of the frame of a pair: where its parts lie, and its head
abbrev pub FoundFrame : Type 0
FoundFrame = Span × HeadParts

-- whether the bytes from a place to another share one with an earlier frame
abbrev pub touches : List FoundFrame → ℕ → ℕ → Bool
touches earlier from end = list_any (λ (found : FoundFrame). nat_lt from found.0.end && nat_lt found.0.from end) earlier

-- a frame that was found, or its refusal where its own handle isn't the pair's
abbrev pub with_handle : Pair → ℕ → Tried FoundFrame → Tried FoundFrame
with_handle pair index (Err refusal) = Err refusal
with_handle pair index (Ok found) = if found.1.own == pair.handle then Ok found else Err (frame_refusal 32 index pair.place)

-- the frame at a span, or the first refusal: it shares a byte with an earlier one, or fails by itself
abbrev pub with_span : List ℕ → List FoundFrame → Pair → ℕ → Tried Span → Tried FoundFrame
with_span bytes earlier pair index (Err refusal) = Err refusal
with_span bytes earlier pair index (Ok span) =
    if touches earlier span.from span.end then Err (frame_refusal 29 index pair.place)
    else with_handle pair index (tried_frame (version_at bytes) pair.place index bytes)

-- the frame of a pair after those of earlier pairs, or the first of its lines that fails: place, length, overlap, check word, head, handle
unfoldable pub tried_pair : List ℕ → List FoundFrame → ℕ → Pair → Tried FoundFrame
tried_pair bytes earlier index pair = with_span bytes earlier pair index (tried_span pair.place index bytes)

-- what the pairs after one give, if its frame was found
abbrev pub with_found : (FoundFrame → Tried (List FoundFrame)) → Tried FoundFrame → Tried (List FoundFrame)
with_found others (Err refusal) = Err refusal
with_found others (Ok found) = others found

-- the frames of earlier pairs and those of the pairs after them, or the first refusal
unfoldable pub frames_after : List ℕ → ℕ → List FoundFrame → List Pair → Tried (List FoundFrame)
frames_after bytes index earlier [] = Ok earlier
frames_after bytes index earlier (pair ∷ pairs) =
    with_found (λ found. frames_after bytes (index + 1) (earlier ++ found ∷ []) pairs) (tried_pair bytes earlier index pair)

-- the frames of the pairs of the map, or the first pair that fails a line
unfoldable pub frames_tried : List ℕ → Tried (List FoundFrame)
frames_tried bytes = frames_after bytes 0 [] (result_unwrap_or (map_tried bytes) [])

-- the lines on frames, pair by pair in map order
unfoldable pub frames_row : RefusalRow
frames_row bytes = fault_of (frames_tried bytes)

-- whether the bytes of a locator's unknown section pass the end of the input
abbrev pub is_cut : List ℕ → Locator → Bool
is_cut bytes locator = not (nat_lt locator.number 3) && nat_lt 0 locator.size && nat_lt (length bytes) (locator.place + locator.size)

-- the refusal of the first unknown section that passes the end of the input, locator by locator
unfoldable pub first_cut : List ℕ → ℕ → List Locator → Option Refusal
first_cut bytes index [] = None
first_cut bytes index (locator ∷ locators) =
    if is_cut bytes locator then Some (record { line = 33; index = index; place = locator.place }) else first_cut bytes (index + 1) locators

-- the line on unknown sections
unfoldable pub sections_row : RefusalRow
sections_row bytes = first_cut bytes 0 (header_at bytes).locators

-- all lines of the table, in their order
abbrev pub ALL_LINES : List RefusalRow
ALL_LINES = HEADER_LINES ++ variables_row ∷ classes_section_row ∷ classes_row ∷ map_row ∷ frames_row ∷ sections_row ∷ []
