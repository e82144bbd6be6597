-- What an input spells: the drawing that its parts, each at its place, say (Open Design Specification, "R13 to R2000 file layout"). That frames share no byte, and the order of objects, are rules of this project.
use Rattle.std.specs.Prelude.{◌≡◌, ◌⊎◌, ℕ, ◌<◌, ◌≤◌, List, [], ◌∷◌, length, map, Some, AllPairs}
use Rattle.dwg_base.specs.Versions.{version_at}
use Rattle.std.specs.List.{AllByRecursion}
use Rattle.std.specs.List.Sorted.{IsPermutation}
use Rattle.dwg_base.specs.Bytes.{StandsAt}
use Rattle.dwg_classes.specs.declared.class.Class.{Class}
use Rattle.dwg_classes.specs.Class.{AreClasses}
use Rattle.dwg_object.specs.Objects.{ObjectValue, handle_of}
use Rattle.dwg_object.specs.Forms.{FormOf}
use Rattle.dwg_object.specs.Frames.{FrameAt}
use Rattle.dwg_objmap.specs.declared.pair.Pair.{Pair}
use Rattle.dwg_objmap.specs.Pages.{MapOf}
use Rattle.dwg_sections.specs.declared.framed.Framed.TheVariants as framed
use Rattle.dwg_sections.specs.declared.header.Locator.{Locator}
use Rattle.dwg_sections.specs.declared.header.FileHeader.{FileHeader}
use Rattle.dwg_sections.specs.FileHeader.{BeginsWithHeader}
use Rattle.dwg_sections.specs.HeaderLines.{place_of}
use Rattle.dwg_sections.specs.Framed.{FramedAt}
use Rattle.dwg_file.specs.Contents.{OtherValue, Contents}

-- a pair of the map, the body and the end of the frame at its place, and the object that the body is read as
pub record PairFrame : Type 0 where
  pub pair : Pair
  pub body : List ℕ
  pub end : ℕ
  pub object : ObjectValue

-- the frame of a pair stands at the pair's place, and its body is read, under the classes, as an object with the pair's handle
pub record IsFrameOfPair (classes : List Class) (bytes : List ℕ) (frame : PairFrame) : Type 0 where
  pub stands : FrameAt bytes frame.pair.place frame.body frame.end
  pub form : FormOf (version_at bytes) classes frame.body frame.object
  pub own : handle_of frame.object ≡ frame.pair.handle

-- two frames share no byte
abbrev pub AreApart : PairFrame → PairFrame → Type 0
AreApart one other = (one.end ≤ other.pair.place) ⊎ (other.end ≤ one.pair.place)

-- objects stand in ascending order of their handles
abbrev pub AreAscending : List ObjectValue → Type 0
AreAscending objects = AllPairs (λ one other. handle_of one < handle_of other) objects

-- the unknown section of a locator: no bytes where its size is 0, wherever its place points, and else the bytes at its place
pub record IsSectionOf (bytes : List ℕ) (locator : Locator) (other : OtherValue) : Type 0 where
  pub number : other.number ≡ locator.number
  pub size : length other.bytes ≡ locator.size
  pub stands : (locator.size ≡ 0) ⊎ StandsAt bytes locator.place other.bytes

-- the unknown sections of locators in file order: one for each number from 3 on
abbrev pub AreSectionsOf : List ℕ → List Locator → List OtherValue → Type 0
AreSectionsOf bytes [] others = others ≡ []
AreSectionsOf bytes (locator ∷ locators) others =
    ((locator.number < 3) × AreSectionsOf bytes locators others)
    ⊎ ((3 ≤ locator.number) × (other : OtherValue) × (after : List OtherValue) × (others ≡ other ∷ after)
    × IsSectionOf bytes locator other × AreSectionsOf bytes locators after)

-- an input spells a drawing
pub record Spelled (drawing : Contents) (bytes : List ℕ) : Type 0 where
  -- the file header, and where its locators say that the sections lie
  pub header : FileHeader
  pub begins : BeginsWithHeader bytes header
  pub version : drawing.version ≡ header.version
  pub lead : drawing.lead ≡ header.lead
  pub mark : drawing.mark ≡ header.mark
  pub code_page : drawing.code_page ≡ header.code_page
  pub variables_place : ℕ
  pub variables_located : place_of 0 header.locators ≡ Some variables_place
  pub classes_place : ℕ
  pub classes_located : place_of 1 header.locators ≡ Some classes_place
  pub map_place : ℕ
  pub map_located : place_of 2 header.locators ≡ Some map_place
  -- the framed sections
  pub variables : FramedAt bytes variables_place framed.Variables drawing.variables
  pub class_content : List ℕ
  pub classes_framed : FramedAt bytes classes_place framed.Classes class_content
  pub classes : AreClasses class_content drawing.classes
  -- the map and, for each of its pairs, a frame
  pub pairs : List Pair
  pub mapped : MapOf bytes map_place pairs
  pub frames : List PairFrame
  pub framed : pairs ≡ map (λ (frame : PairFrame). frame.pair) frames
  pub stand : AllByRecursion (IsFrameOfPair drawing.classes bytes) frames
  pub apart : AllPairs AreApart frames
  -- the objects are those of the frames, in ascending order of handle
  pub objects : IsPermutation (map (λ (frame : PairFrame). frame.object) frames) drawing.objects
  pub ascending : AreAscending drawing.objects
  -- the unknown sections
  pub others : AreSectionsOf bytes header.locators drawing.others
