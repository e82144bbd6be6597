-- The canonical file of a valid drawing that isn't too large spells it, has the size that is counted, and is bytes.
use Rattle.std.proofs.Common.{◌≡◌, ℕ, ◌≤◌, List, [], ◌∷◌, length, None}
use Rattle.dwg_base.specs.Bytes.{AreBytes}
use Rattle.dwg_base.specs.Devices.{MOST_BYTES}
use Rattle.dwg_base.specs.Refusals.{first_fault}
use Rattle.dwg_file.specs.Contents.{Contents}
use Rattle.dwg_file.specs.Canonical.{Carried, IsCarried, NO_PICTURE, canonical, canonical_with, header_with, preview_at, preview_place, size_of, size_with}
use Rattle.dwg_preview.specs.Previews.{PreviewAt, moved, preview_bytes}
use Rattle.dwg_file.specs.DrawingAt.{drawing_at}
use Rattle.dwg_file.specs.FileLines.{ALL_LINES}
use Rattle.dwg_file.specs.Spelled.{Spelled}
use Rattle.dwg_file.specs.Valid.{IsValid}

-- with each preview the canonical file of a valid drawing that isn't too large spells it
abbrev pub CarryingSpells : Type 0
CarryingSpells =
    (carried : Carried) (drawing : Contents) → IsCarried carried → IsValid drawing → size_with carried drawing ≤ MOST_BYTES → Spelled drawing (canonical_with carried drawing)

-- it has the size that is counted, and is bytes
abbrev pub CarryingIsCounted : Type 0
CarryingIsCounted =
    (carried : Carried) (drawing : Contents) → IsCarried carried → IsValid drawing → size_with carried drawing ≤ MOST_BYTES
    → (length (canonical_with carried drawing) ≡ size_with carried drawing) × AreBytes (canonical_with carried drawing)

-- it spells no other drawing
abbrev pub CarryingSpellsNoOther : Type 0
CarryingSpellsNoOther =
    (carried : Carried) (drawing other : Contents) → IsCarried carried → IsValid drawing → size_with carried drawing ≤ MOST_BYTES → Spelled other (canonical_with carried drawing) → other ≡ drawing

-- the preview stands where its header says, with the places of its pictures moved there
abbrev pub PreviewIsCarried : Type 0
PreviewIsCarried =
    (carried : Carried) (drawing : Contents) → IsCarried carried → IsValid drawing → size_with carried drawing ≤ MOST_BYTES
    → PreviewAt (canonical_with carried drawing) (header_with carried drawing).preview (moved carried.place (header_with carried drawing).preview carried.content)

-- carrying it once more gives the same file
abbrev pub CarryingIsDoneOnce : Type 0
CarryingIsDoneOnce =
    (carried : Carried) (drawing : Contents) → IsCarried carried → size_with carried drawing ≤ MOST_BYTES
    → canonical_with (record { place = preview_place drawing; content = moved carried.place (preview_place drawing) carried.content }) drawing ≡ canonical_with carried drawing

-- where none is carried it is a section of one byte, the count of no entries
abbrev pub NoneIsEmpty : Type 0
NoneIsEmpty = (place : ℕ) → preview_at NO_PICTURE place ≡ preview_bytes (0 ∷ [])

-- the canonical file of a valid drawing that isn't too large spells it
abbrev pub CanonicalSpells : Type 0
CanonicalSpells = (drawing : Contents) → IsValid drawing → size_of drawing ≤ MOST_BYTES → Spelled drawing (canonical drawing)

-- it has the size that is counted, and is bytes
abbrev pub CanonicalIsCounted : Type 0
CanonicalIsCounted = (drawing : Contents) → IsValid drawing → size_of drawing ≤ MOST_BYTES → (length (canonical drawing) ≡ size_of drawing) × AreBytes (canonical drawing)

-- the canonical file spells no other drawing
abbrev pub CanonicalSpellsNoOther : Type 0
CanonicalSpellsNoOther = (drawing other : Contents) → IsValid drawing → size_of drawing ≤ MOST_BYTES → Spelled other (canonical drawing) → other ≡ drawing

-- two valid drawings that have one canonical file are one
abbrev pub CanonicalGivesDrawing : Type 0
CanonicalGivesDrawing =
    (drawing other : Contents) → IsValid drawing → IsValid other → size_of drawing ≤ MOST_BYTES → size_of other ≤ MOST_BYTES → canonical drawing ≡ canonical other
    → drawing ≡ other

-- what is read of the canonical file is its drawing, and no line fails on it
abbrev pub CanonicalIsRead : Type 0
CanonicalIsRead = (drawing : Contents) → IsValid drawing → size_of drawing ≤ MOST_BYTES → (first_fault ALL_LINES (canonical drawing) ≡ None) × (drawing_at (canonical drawing) ≡ drawing)

-- rewriting twice is rewriting once: where no line fails on an input and its canonical file isn't too large, no line fails on that file, which is written again as it is
abbrev pub RewritingIsDoneOnce : Type 0
RewritingIsDoneOnce =
    (bytes : List ℕ) → AreBytes bytes → length bytes ≤ MOST_BYTES → first_fault ALL_LINES bytes ≡ None → size_of (drawing_at bytes) ≤ MOST_BYTES
    → (first_fault ALL_LINES (canonical (drawing_at bytes)) ≡ None) × (canonical (drawing_at (canonical (drawing_at bytes))) ≡ canonical (drawing_at bytes))
