-- The notes of a recovery. A rule of this project.
use Rattle.std.specs.Prelude.{ℕ, List, [], ◌++◌, length, codes, decimal, flat_map, if◌then◌else◌}
use Rattle.dwg_base.specs.Refusal.{Refusal}
use Rattle.dwg_recover.specs.declared.loss.Kept.{Kept}
use Rattle.dwg_recover.specs.declared.loss.Loss.{Loss}
use Rattle.dwg_recover.specs.declared.loss.Loss.TheVariants as losses
use Rattle.dwg_text.specs.Lines.{line}
use Rattle.dwg_text.specs.Notes.{refusal_note}
use Rattle.dwg_text.specs.Values.{upper_digits}

-- an object and its place: the handle in upper-case hexadecimal digits without leading zeros, 0 for null
abbrev pub object_at : ℕ → ℕ → List ℕ
object_at handle place = codes "object " ++ upper_digits handle ++ codes " at " ++ decimal place

-- what is lost
unfoldable pub loss_line : Loss → List ℕ
loss_line losses.Header = line (codes "lost: file header")
loss_line losses.Variables = line (codes "lost: header variables")
loss_line losses.Classes = line (codes "lost: classes")
loss_line (losses.Section number place) = line (codes "lost: section " ++ decimal number ++ codes " at " ++ decimal place)
loss_line (losses.Page index place) = line (codes "lost: map page " ++ decimal index ++ codes " at " ++ decimal place)
loss_line (losses.MapEnd place) = line (codes "lost: map end at " ++ decimal place)
loss_line (losses.Object handle place) = line (codes "lost: " ++ object_at handle place)

-- a frame that is kept without a pair; one that is kept for a pair has no line
unfoldable pub found_line : Kept → List ℕ
found_line kept = if kept.mapped then [] else line (codes "found: " ++ object_at kept.handle kept.from)

-- how many objects are kept
unfoldable pub count_line : ℕ → List ℕ
count_line count = line (codes "kept " ++ decimal count)

-- why the input spells no drawing, the losses in their order, the frames that are kept without a pair in order of place, and how many objects are kept
unfoldable pub recovery_note : Refusal → List Loss → List Kept → List ℕ
recovery_note refusal lost kept = refusal_note refusal ++ flat_map loss_line lost ++ flat_map found_line kept ++ count_line (length kept)
