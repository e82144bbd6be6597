-- The parts that recovery finds are those that stand in the input: its file header, whole sections, the walk over its map, and the pairs of a page. A rule of this project.
use Rattle.std.proofs.Common.{◌≡◌, ℕ, true, List, [], Some, None}
use Rattle.std.specs.Prelude.{◌↔◌, ⊤, replicate}
use Rattle.dwg_base.specs.Bytes.{AreBytes}
use Rattle.dwg_base.specs.Versions.{version_at}
use Rattle.dwg_classes.specs.declared.class.Class.{Class}
use Rattle.dwg_classes.specs.Class.{AreClasses}
use Rattle.dwg_file.specs.ReadAs.{whole_locators}
use Rattle.dwg_file.specs.Spelled.{AreSectionsOf}
use Rattle.dwg_objmap.specs.MapLines.{HasPageWord, body_at}
use Rattle.dwg_objmap.specs.Walking.{AreLongest}
use Rattle.dwg_sections.specs.declared.framed.Framed.{Framed}
use Rattle.dwg_sections.specs.declared.framed.Framed.TheVariants as framed
use Rattle.dwg_sections.specs.declared.header.FileHeader.{FileHeader}
use Rattle.dwg_sections.specs.FileHeader.{BeginsWithHeader}
use Rattle.dwg_sections.specs.Framed.{FramedAt}
use Rattle.dwg_sections.specs.HeaderLines.{place_of}
use Rattle.dwg_recover.specs.Recovering.{drawing_recovered, walk_of}
use Rattle.dwg_recover.specs.Sections.{classes_of, header_of, is_whole, section_found, variables_of}
use Rattle.dwg_recover.specs.Walks.{IsWalk, pairs_at}

-- the header that is found is the one that the input begins with
abbrev pub HeaderIsFound : Type 0
HeaderIsFound = (bytes : List ℕ) (header : FileHeader) → AreBytes bytes → (header_of bytes ≡ Some header) ↔ BeginsWithHeader bytes header

-- the content of a section is what it has to be: that of the classes is cut into classes
abbrev pub IsContent : Framed → List ℕ → Type 0
IsContent framed.Variables content = ⊤
IsContent framed.Classes content = (classes : List Class) × AreClasses content classes

-- a section is whole exactly where it stands with its sentinels, size and check word around such a content
abbrev pub SectionIsWhole : Type 0
SectionIsWhole =
    (which : Framed) (bytes : List ℕ) (place : ℕ) → AreBytes bytes
    → (is_whole which bytes place ≡ true) ↔ ((content : List ℕ) × FramedAt bytes place which content × IsContent which content)

-- and what is taken of it is its content, or the classes that this is cut into
abbrev pub ContentIsTaken : Type 0
ContentIsTaken =
    (bytes : List ℕ) (place : ℕ) (content : List ℕ)
    → (FramedAt bytes place framed.Variables content → variables_of bytes (Some place) ≡ content)
    × ((classes : List Class) → FramedAt bytes place framed.Classes content → AreClasses content classes → classes_of bytes (Some place) ≡ classes)

-- where the header is found the walk goes from the place of the map's locator, and else there is none
abbrev pub WalkIsLocated : Type 0
WalkIsLocated =
    (bytes : List ℕ)
    → (header_of bytes ≡ None → walk_of bytes ≡ record { pages = []; lost = None })
    × ((header : FileHeader) (place : ℕ) → header_of bytes ≡ Some header → place_of 2 header.locators ≡ Some place → IsWalk bytes place (walk_of bytes).pages (walk_of bytes).lost)

-- a page with a right check word gives the longest list of leading pairs of its bytes, and one with a wrong check word gives none
abbrev pub PagesGivePairs : Type 0
PagesGivePairs =
    (bytes : List ℕ) (page : ℕ) → AreBytes bytes
    → (HasPageWord bytes page → AreLongest (body_at bytes page) (pairs_at bytes page)) × ((HasPageWord bytes page → ⊥) → pairs_at bytes page ≡ [])

-- what a drawing that is recovered of a damaged input has: the version by which the input is read, also where the header is lost; what is of the header, or without one, and of the sections that are found; of the unknown sections it has those that don't pass the end of the input
pub record ArePartsKept (bytes : List ℕ) : Type 0 where
  pub version : (drawing_recovered bytes).version ≡ version_at bytes
  pub header : (header : FileHeader) → header_of bytes ≡ Some header
      → ((drawing_recovered bytes).lead ≡ header.lead) × ((drawing_recovered bytes).mark ≡ header.mark) × ((drawing_recovered bytes).code_page ≡ header.code_page)
      × AreSectionsOf bytes (whole_locators bytes header.locators) (drawing_recovered bytes).others
  pub without : header_of bytes ≡ None
      → ((drawing_recovered bytes).lead ≡ replicate 7 0) × ((drawing_recovered bytes).mark ≡ replicate 2 0) × ((drawing_recovered bytes).code_page ≡ 0) × ((drawing_recovered bytes).others ≡ [])
  pub variables : (drawing_recovered bytes).variables ≡ variables_of bytes (section_found framed.Variables bytes)
  pub classes : (drawing_recovered bytes).classes ≡ classes_of bytes (section_found framed.Classes bytes)

abbrev pub PartsAreKept : Type 0
PartsAreKept = (bytes : List ℕ) → ArePartsKept bytes
