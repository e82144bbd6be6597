-- Which losses are reported of a damaged input: each of what is lost, no other, and in which order. A rule of this project.
use Rattle.std.proofs.Common.{◌≡◌, ℕ, ◌+◌, ◌<◌, ◌≤◌, List, length, map, Some, None}
use Rattle.std.specs.Prelude.{◌↔◌, ◌≢◌, ◌⊎◌, AllPairs}
use Rattle.dwg_objmap.specs.MapLines.{HasPageWord}
use Rattle.dwg_sections.specs.declared.framed.Framed.TheVariants as framed
use Rattle.dwg_sections.specs.declared.header.Locator.{Locator}
use Rattle.dwg_recover.specs.declared.frame.Frame.{Frame}
use Rattle.dwg_recover.specs.declared.loss.Loss.{Loss}
use Rattle.dwg_recover.specs.declared.loss.Loss.TheVariants.{Header, Variables, Classes, Section, Page, MapEnd, Object}
use Rattle.dwg_recover.specs.ListMembers.{IsAt, IsOneOf}
use Rattle.dwg_recover.specs.Recovering.{frames_mapped, losses_of, pairs_read, walk_of}
use Rattle.dwg_recover.specs.Sections.{header_of, locators_of, section_found}

-- what is lost: the header, where none is found; a section, where none is found; an unknown section that passes the end of the input; a page of the walk whose check word is wrong; the end of the map, where no page stands; a pair for which no frame is kept
abbrev pub IsLoss : List ℕ → Loss → Type 0
IsLoss bytes Header = header_of bytes ≡ None
IsLoss bytes Variables = section_found framed.Variables bytes ≡ None
IsLoss bytes Classes = section_found framed.Classes bytes ≡ None
IsLoss bytes (Section number place) =
    (locator : Locator) × IsOneOf locator (locators_of (header_of bytes)) × (number ≡ locator.number) × (place ≡ locator.place)
    × (3 ≤ number) × (0 < locator.size) × (length bytes < place + locator.size)
IsLoss bytes (Page index place) = IsAt index place (walk_of bytes).pages × (HasPageWord bytes place → ⊥)
IsLoss bytes (MapEnd place) = (walk_of bytes).lost ≡ Some place
IsLoss bytes (Object handle place) =
    (number : ℕ) × IsAt number (record { handle = handle; place = place }) (pairs_read bytes) × ((frame : Frame) → IsOneOf frame (frames_mapped bytes) → frame.pair ≢ Some number)

-- just these are reported
abbrev pub LossesAreReported : Type 0
LossesAreReported = (bytes : List ℕ) (loss : Loss) → IsOneOf loss (losses_of bytes) ↔ IsLoss bytes loss

-- a loss, and its number among those of its part: of a section that of its locator, of a page that of the page in the walk, of an object that of its pair
pub record NumberedLoss : Type 0 where
  pub number : ℕ
  pub loss : Loss

-- the part that a loss is of, in the order in which losses are reported
abbrev pub part_of : Loss → ℕ
part_of Header = 0
part_of Variables = 1
part_of Classes = 2
part_of (Section number place) = 3
part_of (Page index place) = 4
part_of (MapEnd place) = 5
part_of (Object handle place) = 6

-- what is lost, by its number: of the header, the variables, the classes and the end of the map one is lost at the most
abbrev pub IsLossAt : List ℕ → ℕ → Loss → Type 0
IsLossAt bytes at Header = (at ≡ 0) × (header_of bytes ≡ None)
IsLossAt bytes at Variables = (at ≡ 0) × (section_found framed.Variables bytes ≡ None)
IsLossAt bytes at Classes = (at ≡ 0) × (section_found framed.Classes bytes ≡ None)
IsLossAt bytes at (Section number place) =
    (locator : Locator) × IsAt at locator (locators_of (header_of bytes)) × (number ≡ locator.number) × (place ≡ locator.place)
    × (3 ≤ number) × (0 < locator.size) × (length bytes < place + locator.size)
IsLossAt bytes at (Page index place) = (at ≡ index) × IsAt index place (walk_of bytes).pages × (HasPageWord bytes place → ⊥)
IsLossAt bytes at (MapEnd place) = (at ≡ 0) × ((walk_of bytes).lost ≡ Some place)
IsLossAt bytes at (Object handle place) =
    IsAt at (record { handle = handle; place = place }) (pairs_read bytes) × ((frame : Frame) → IsOneOf frame (frames_mapped bytes) → frame.pair ≢ Some at)

-- a loss stands before another: by its part, then by its number
abbrev pub StandsBefore : NumberedLoss → NumberedLoss → Type 0
StandsBefore one other = (part_of one.loss < part_of other.loss) ⊎ ((part_of one.loss ≡ part_of other.loss) × (one.number < other.number))

-- just what is lost, each strictly before those after it
pub record AreLossesInOrder (bytes : List ℕ) (list : List NumberedLoss) : Type 0 where
  pub just : (one : NumberedLoss) → IsOneOf one list ↔ IsLossAt bytes one.number one.loss
  pub ordered : AllPairs StandsBefore list

-- the losses that a list reports
abbrev pub losses_in : List NumberedLoss → List Loss
losses_in list = map (λ (one : NumberedLoss). one.loss) list

-- the losses are these, in this order
abbrev pub LossesAreInOrder : Type 0
LossesAreInOrder = (bytes : List ℕ) → (list : List NumberedLoss) × AreLossesInOrder bytes list × (losses_of bytes ≡ losses_in list)

-- and a list that has just them, in this order, reports the losses
abbrev pub LossesAreDetermined : Type 0
LossesAreDetermined = (bytes : List ℕ) (list : List NumberedLoss) → AreLossesInOrder bytes list → losses_of bytes ≡ losses_in list
