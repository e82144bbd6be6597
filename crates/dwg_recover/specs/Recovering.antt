-- What is recovered of an input: its drawing, its refusal, its losses and the frames that are kept, where it spells a drawing and where it is damaged. A rule of this project.
-- The order in which recovery goes: an input in which no line of the table fails is that of its drawing, with the frames of its map (`recovered_whole`). Of any
-- other (`recovered_damaged`) the file header is taken (`header_of`), where no line on it fails; the header variables and the classes, where their sections are found
-- (`section_found`, `classes_found`); and the pairs (`pairs_read`) of the pages that the walk over the map goes over (`walk_of`). Of the frames that the pairs lead to,
-- in order of place, each is kept that lies after those kept before it and has a new handle (`frames_mapped`); and then at each place of the input, from the first
-- on, the frame that shares no byte and no handle with those kept and whose object is Typed or Plain (`frames_kept`). Their objects in order of handle (`objects_of`) and those parts are the drawing
-- (`drawing_recovered`). Losses are reported in the order of `losses_of`, and frames in order of place (`reported`).
use Rattle.std.specs.Prelude.{ℕ, ◌+◌, List, [], ◌∷◌, ◌++◌, length, map, replicate, Option, Some, None, if◌then◌else◌}
use Rattle.dwg_base.specs.Versions.{version_at}
use Rattle.std.specs.Option.{is_none}
use Rattle.std.specs.Result.{result_unwrap_or}
use Rattle.dwg_base.specs.Refusals.{first_fault}
use Rattle.dwg_base.specs.Refusal.{Refusal}
use Rattle.dwg_classes.specs.declared.class.Class.{Class}
use Rattle.dwg_file.specs.Contents.{Contents}
use Rattle.dwg_file.specs.DrawingAt.{drawing_at}
use Rattle.dwg_file.specs.FileLines.{ALL_LINES, FoundFrame, frames_tried}
use Rattle.dwg_file.specs.ReadAs.{sections_at, whole_locators}
use Rattle.dwg_file.specs.SortedObjects.{sorted}
use Rattle.dwg_object.proofs.FormLaws.{form_at}
use Rattle.dwg_object.specs.FrameLines.{span_body}
use Rattle.dwg_object.specs.Objects.{ObjectValue}
use Rattle.dwg_object.specs.declared.span.Span.{Span}
use Rattle.dwg_objmap.specs.declared.pair.Pair.{Pair}
use Rattle.dwg_sections.specs.declared.framed.Framed.TheVariants as framed
use Rattle.dwg_sections.specs.declared.header.FileHeader.{FileHeader}
use Rattle.dwg_sections.specs.HeaderLines.{place_of}
use Rattle.dwg_recover.specs.declared.frame.Frame.{Frame}
use Rattle.dwg_recover.specs.declared.loss.Kept.{Kept}
use Rattle.dwg_recover.specs.declared.loss.Loss.{Loss}
use Rattle.dwg_recover.specs.declared.loss.Loss.TheVariants as losses
use Rattle.dwg_recover.specs.Frames.{in_order_of_place, kept_of, lost_pairs, mapped_frames, span_found, with_scanned}
use Rattle.dwg_recover.specs.Sections.{classes_of, header_of, locators_of, lost_if, lost_sections, section_found, variables_of}
use Rattle.dwg_recover.specs.Walks.{Walk, lost_end, lost_pages, pairs_of, walk_from}

-- what recovery answers
pub record RecoveredValue : Type 0 where
  pub drawing : Contents
  pub refusal : Option Refusal
  pub losses : List Loss
  pub kept : List Kept

-- the walk of an input: from the place of the map's locator; where the header is lost there is none
abbrev pub walk_located : List ℕ → Option ℕ → Walk
walk_located bytes None = record { pages = []; lost = None }
walk_located bytes (Some place) = walk_from bytes place

unfoldable pub walk_of : List ℕ → Walk
walk_of bytes = walk_located bytes (place_of 2 (locators_of (header_of bytes)))

-- the pairs of the map that are read of an input
unfoldable pub pairs_read : List ℕ → List Pair
pairs_read bytes = pairs_of bytes (walk_of bytes).pages

-- the classes that are found
unfoldable pub classes_found : List ℕ → List Class
classes_found bytes = classes_of bytes (section_found framed.Classes bytes)

-- the frames that are kept for pairs of the map, and all that are kept
unfoldable pub frames_mapped : List ℕ → List Frame
frames_mapped bytes = mapped_frames bytes (pairs_read bytes)

unfoldable pub frames_kept : List ℕ → List Frame
frames_kept bytes = with_scanned (classes_found bytes) bytes (frames_mapped bytes)

-- the body of a span that was tried
abbrev pub body_tried : List ℕ → Option Span → List ℕ
body_tried bytes None = []
body_tried bytes (Some span) = span_body bytes span

-- the body of the frame at a place
unfoldable pub frame_body : List ℕ → ℕ → List ℕ
frame_body bytes place = body_tried bytes (span_found bytes place)

-- the object that the body of a frame is read as: the one of which `FormOf` holds (`form_at`)
abbrev pub object_of : List Class → List ℕ → Frame → ObjectValue
object_of classes bytes frame = form_at (version_at bytes) classes (frame_body bytes frame.from)

-- the objects of frames, in ascending order of handle
abbrev pub objects_of : List Class → List ℕ → List Frame → List ObjectValue
objects_of classes bytes frames = sorted (map (object_of classes bytes) frames)

-- what the header reports of a drawing; without one these are zeros
abbrev pub lead_of : Option FileHeader → List ℕ
lead_of None = replicate 7 0
lead_of (Some header) = header.lead

abbrev pub mark_of : Option FileHeader → List ℕ
mark_of None = replicate 2 0
mark_of (Some header) = header.mark

abbrev pub code_page_of : Option FileHeader → ℕ
code_page_of None = 0
code_page_of (Some header) = header.code_page

-- the drawing that is recovered of a damaged input: of the version by which that is read, also where the header is lost
unfoldable pub drawing_recovered : List ℕ → Contents
drawing_recovered bytes = record {
  version = version_at bytes;
  lead = lead_of (header_of bytes);
  mark = mark_of (header_of bytes);
  code_page = code_page_of (header_of bytes);
  variables = variables_of bytes (section_found framed.Variables bytes);
  classes = classes_found bytes;
  others = sections_at bytes (whole_locators bytes (locators_of (header_of bytes)));
  objects = objects_of (classes_found bytes) bytes (frames_kept bytes);
}

-- the losses of a damaged input, in their order: the file header, the header variables, the classes; unknown sections in the order of their locators; pages of the map as the walk goes over them, and its end; objects in the order of their pairs
unfoldable pub losses_of : List ℕ → List Loss
losses_of bytes =
    lost_if (is_none (header_of bytes)) losses.Header
    ++ lost_if (is_none (section_found framed.Variables bytes)) losses.Variables
    ++ lost_if (is_none (section_found framed.Classes bytes)) losses.Classes
    ++ lost_sections bytes (locators_of (header_of bytes))
    ++ lost_pages bytes 0 (walk_of bytes).pages
    ++ lost_end (walk_of bytes).lost
    ++ lost_pairs (frames_mapped bytes) 0 (pairs_read bytes)

-- frames as they are reported, in order of place
unfoldable pub reported : List ℕ → List Frame → List Kept
reported bytes frames = map kept_of (in_order_of_place (length bytes) frames)

-- what is recovered of a damaged input
unfoldable pub recovered_damaged : List ℕ → RecoveredValue
recovered_damaged bytes = record {
  drawing = drawing_recovered bytes;
  refusal = first_fault ALL_LINES bytes;
  losses = losses_of bytes;
  kept = reported bytes (frames_kept bytes);
}

-- the frames that were found of pairs, of which the first has this number
abbrev pub frames_found : ℕ → List FoundFrame → List Frame
frames_found number [] = []
frames_found number (found ∷ founds) = record { pair = Some number; handle = found.1.own; from = found.0.from; end = found.0.end } ∷ frames_found (number + 1) founds

-- what is recovered of an input that spells a drawing: that drawing, and all frames of its map
unfoldable pub recovered_whole : List ℕ → RecoveredValue
recovered_whole bytes = record {
  drawing = drawing_at bytes;
  refusal = None;
  losses = [];
  kept = reported bytes (frames_found 0 (result_unwrap_or (frames_tried bytes) []));
}

-- what is recovered of an input; it spells a drawing exactly where no line of the table fails
unfoldable pub recovered : List ℕ → RecoveredValue
recovered bytes = if is_none (first_fault ALL_LINES bytes) then recovered_whole bytes else recovered_damaged bytes
