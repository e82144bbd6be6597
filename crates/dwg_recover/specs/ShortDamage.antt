-- Canonical files, with any preview, in which one byte, or two neighbouring ones, of one object's frame are changed: that object alone is lost. A rule of this project.
use Rattle.std.proofs.Common.{◌≡◌, ℕ, ◌≤◌, List, [], ◌∷◌, ◌++◌, length, Some}
use Rattle.dwg_base.specs.Bytes.{AreBytes}
use Rattle.dwg_base.specs.Devices.{MOST_BYTES}
use Rattle.dwg_base.specs.Refusal.{Refusal}
use Rattle.dwg_file.specs.CanonicalFrames.{canonical_frames_with}
use Rattle.dwg_file.specs.Canonical.{Carried, IsCarried, size_with}
use Rattle.dwg_file.specs.Contents.{Contents}
use Rattle.dwg_file.specs.ShortDamage.{IsDamagedShortly}
use Rattle.dwg_file.specs.Spelled.{PairFrame}
use Rattle.dwg_file.specs.Valid.{IsValid}
use Rattle.dwg_object.specs.FrameLines.{frame_refusal}
use Rattle.dwg_recover.specs.declared.loss.Loss.TheVariants.{Object}
use Rattle.dwg_recover.specs.ListMembers.{IsOneOf}
use Rattle.dwg_recover.specs.Recovering.{recovered}

-- the refusal of the object of a frame after others for its check word
abbrev pub word_refusal : List PairFrame → PairFrame → Refusal
word_refusal earlier frame = frame_refusal 30 (length earlier) frame.pair.place

-- recovery of an input reports the refusal of the object of a frame for its check word, loses that object and nothing else, and has every other one
pub record CostsOneObject (bytes : List ℕ) (earlier : List PairFrame) (frame : PairFrame) (later : List PairFrame) : Type 0 where
  pub refusal : (recovered bytes).refusal ≡ Some (word_refusal earlier frame)
  pub losses : (recovered bytes).losses ≡ Object frame.pair.handle frame.pair.place ∷ []
  pub others : (other : PairFrame) → IsOneOf other (earlier ++ later) → IsOneOf other.object (recovered bytes).drawing.objects

-- an input that differs from the canonical file of a drawing with a preview in one byte, or in two neighbouring ones, in the body and the check word of one object's frame costs that object alone
abbrev pub ShortDamageCostsOneObject : Type 0
ShortDamageCostsOneObject =
    (carried : Carried) (drawing : Contents) (bytes : List ℕ) (earlier : List PairFrame) (frame : PairFrame) (later : List PairFrame) → IsCarried carried → IsValid drawing → size_with carried drawing ≤ MOST_BYTES → AreBytes bytes
    → canonical_frames_with carried drawing ≡ earlier ++ frame ∷ later → IsDamagedShortly carried drawing frame bytes → CostsOneObject bytes earlier frame later
