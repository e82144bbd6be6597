-- Recovery as a whole: of an input that spells a drawing the frames of its map, and of a damaged one what is kept.
use Rattle.std.proofs.Common.{◌≡◌, refl, sym, ◌∙◌, ap, ap₂, subst, ℕ, ◌+◌, ◌<◌, ◌≤◌, List, [], ◌∷◌, ◌++◌, length, drop, map, get_or, Option, Some, None}
use Rattle.std.specs.Prelude.{if◌then◌else◌}
use Rattle.std.specs.List.{AllByRecursion}
use Rattle.std.specs.Option.{is_none}
use Rattle.std.specs.Result.{result_unwrap_or}
use Rattle.std.proofs.lemmas.List.{drop_all}
use Rattle.dwg_base.specs.Refusals.{first_fault}
use Rattle.dwg_base.specs.Refusal.{Refusal}
use Rattle.dwg_classes.specs.declared.class.Class.{Class}
use Rattle.dwg_file.specs.Contents.{Contents}
use Rattle.dwg_file.specs.DrawingAt.{drawing_at}
use Rattle.dwg_file.specs.declared.frames.ObjectFrame.{ObjectFrame}
use Rattle.dwg_file.specs.FileLines.{ALL_LINES, FoundFrame, frames_tried}
use Rattle.dwg_file.specs.ObjectFrames.{frame_of}
use Rattle.dwg_sections.specs.declared.framed.Framed.TheVariants as framed
use Rattle.dwg_recover.specs.declared.frame.Frame.{Frame}
use Rattle.dwg_recover.specs.declared.objects.KeptObjects.{KeptObjects}
use Rattle.dwg_recover.specs.declared.loss.Kept.{Kept}
use Rattle.dwg_recover.specs.declared.loss.Loss.{Loss}
use Rattle.dwg_recover.proofs.FoundLemmas.{all_placed, mapped_found}
use Rattle.dwg_recover.specs.Frames.{with_scanned}
use Rattle.dwg_recover.specs.KeptObjects.{HoldsObjects}
use Rattle.dwg_recover.specs.MapFrames.{all_numbered, numbered}
use Rattle.dwg_recover.proofs.LossesAlong.{left_of, nothing_left, part_put}
use Rattle.dwg_recover.specs.Placing.{IsFound, IsPlaced}
use Rattle.dwg_recover.proofs.RecoveredLaws.{frames_are_kept}
use Rattle.dwg_recover.specs.Recovering.{classes_found, drawing_recovered, frames_found, frames_kept, frames_mapped, losses_of, pairs_read, recovered, recovered_damaged, recovered_whole, reported}
use Rattle.dwg_recover.specs.Sections.{classes_of, section_found}
use Rattle.dwg_recover.proofs.WholeLemmas.{map_stands}

-- frames of a map that were found, each kept for its pair
same_numbered : (number : ℕ) (founds : List FoundFrame) → all_numbered number (map frame_of founds) ≡ frames_found number founds
same_numbered number [] = refl
same_numbered number (found ∷ founds) = ap (λ (others : List Frame). numbered number (frame_of found) ∷ others) (same_numbered (number + 1) founds)

-- so the frames that are listed of a map are those that were found
pub listed_found : (bytes : List ℕ) (listed : List ObjectFrame) (all : List Frame) → listed ≡ map frame_of (result_unwrap_or (frames_tried bytes) []) → all ≡ all_numbered 0 listed
    → all ≡ frames_found 0 (result_unwrap_or (frames_tried bytes) [])
listed_found bytes listed all are is = is ∙ ap (all_numbered 0) are ∙ same_numbered 0 (result_unwrap_or (frames_tried bytes) [])

-- and they lie in the input
pub listed_placed : (bytes : List ℕ) (listed : List ObjectFrame) (all : List Frame) → listed ≡ map frame_of (result_unwrap_or (frames_tried bytes) []) → all ≡ all_numbered 0 listed
    → AllByRecursion (IsPlaced (length bytes)) all
listed_placed bytes listed all are is =
    subst (AllByRecursion (IsPlaced (length bytes))) (sym (listed_found bytes listed all are is)) (all_placed bytes (frames_found 0 (result_unwrap_or (frames_tried bytes) [])) (map_stands bytes))

-- with the next frame put, what is left gives the whole
pub numbered_on : (index : ℕ) (frames : List ObjectFrame) (frame none : ObjectFrame) (put more whole : List Frame) → index < length frames → frame ≡ get_or frames index none
    → more ≡ put ++ numbered index frame ∷ [] → put ++ all_numbered index (drop index frames) ≡ whole → more ++ all_numbered (index + 1) (drop (index + 1) frames) ≡ whole
numbered_on index frames frame none put more whole within is added =
    part_put put more (numbered index frame ∷ []) (all_numbered (index + 1) (drop (index + 1) frames)) _ whole added (ap (all_numbered index) (left_of frames index frame none within is))

-- after the last frame, what was put is the whole
pub numbered_over : (index : ℕ) (frames : List ObjectFrame) (put whole : List Frame) → length frames ≤ index → put ++ all_numbered index (drop index frames) ≡ whole → put ≡ whole
numbered_over index frames put whole past = nothing_left put _ whole (ap (all_numbered index) (drop_all index frames past))

-- what is recovered where no line fails, and where one does
pub recovered_of_whole : (bytes : List ℕ) → first_fault ALL_LINES bytes ≡ None → recovered_whole bytes ≡ recovered bytes
unfolding recovered
recovered_of_whole bytes none = sym (ap (λ (fault : Option Refusal). if is_none fault then recovered_whole bytes else recovered_damaged bytes) none)

pub recovered_of_damaged : (bytes : List ℕ) (refusal : Refusal) → first_fault ALL_LINES bytes ≡ Some refusal → recovered_damaged bytes ≡ recovered bytes
unfolding recovered
recovered_of_damaged bytes refusal some = sym (ap (λ (fault : Option Refusal). if is_none fault then recovered_whole bytes else recovered_damaged bytes) some)

-- the value that is recovered of a whole input
pub whole_value : (bytes : List ℕ) (drawing : Contents) (losses : List Loss) (kept : List Kept) → drawing ≡ drawing_at bytes → losses ≡ []
    → kept ≡ reported bytes (frames_found 0 (result_unwrap_or (frames_tried bytes) [])) → record { drawing = drawing; refusal = None; losses = losses; kept = kept } ≡ recovered_whole bytes
unfolding recovered_whole
whole_value bytes drawing losses kept a b c =
    ap (λ (d : Contents). record { drawing = d; refusal = None; losses = losses; kept = kept }) a
    ∙ ap (λ (l : List Loss). record { drawing = drawing_at bytes; refusal = None; losses = l; kept = kept }) b
    ∙ ap (λ (k : List Kept). record { drawing = drawing_at bytes; refusal = None; losses = []; kept = k }) c

-- and of a damaged one
pub damaged_value : (bytes : List ℕ) (drawing : Contents) (refusal : Refusal) (losses : List Loss) (kept : List Kept) → first_fault ALL_LINES bytes ≡ Some refusal → drawing ≡ drawing_recovered bytes
    → losses ≡ losses_of bytes → kept ≡ reported bytes (frames_kept bytes) → record { drawing = drawing; refusal = Some refusal; losses = losses; kept = kept } ≡ recovered_damaged bytes
unfolding recovered_damaged
damaged_value bytes drawing refusal losses kept first a b c =
    ap (λ (r : Option Refusal). record { drawing = drawing; refusal = r; losses = losses; kept = kept }) (sym first)
    ∙ ap (λ (d : Contents). record { drawing = d; refusal = first_fault ALL_LINES bytes; losses = losses; kept = kept }) a
    ∙ ap (λ (l : List Loss). record { drawing = drawing_recovered bytes; refusal = first_fault ALL_LINES bytes; losses = l; kept = kept }) b
    ∙ ap (λ (k : List Kept). record { drawing = drawing_recovered bytes; refusal = first_fault ALL_LINES bytes; losses = losses_of bytes; kept = k }) c

-- all frames that are kept lie in the input
pub kept_placed : (bytes : List ℕ) (frames : List Frame) → frames ≡ frames_kept bytes → AllByRecursion (IsPlaced (length bytes)) frames
kept_placed bytes frames is = subst (AllByRecursion (IsPlaced (length bytes))) (sym is) (all_placed bytes (frames_kept bytes) (frames_are_kept bytes).found)

-- the classes of the section that is found are those that are
pub classes_are : (bytes : List ℕ) (classes : List Class) (place : Option ℕ) → classes ≡ classes_of bytes place → place ≡ section_found framed.Classes bytes → classes ≡ classes_found bytes
unfolding classes_found
classes_are bytes classes place is at = is ∙ ap (classes_of bytes) at

-- the frames that the scan leaves are all that are kept
pub frames_are : (bytes : List ℕ) (classes list : List Class) (mapped kept : List Frame) → classes ≡ classes_found bytes → list ≡ classes → mapped ≡ frames_mapped bytes
    → kept ≡ with_scanned list bytes mapped → kept ≡ frames_kept bytes
unfolding frames_kept
frames_are bytes classes list mapped kept found same are scan = scan ∙ ap₂ (λ (l : List Class) (m : List Frame). with_scanned l bytes m) (same ∙ found) are

-- and their objects are read under the classes that are found
pub objects_are : (bytes : List ℕ) (classes list : List Class) (kept : KeptObjects) → classes ≡ classes_found bytes → list ≡ classes → HoldsObjects list bytes kept → HoldsObjects (classes_found bytes) bytes kept
objects_are bytes classes list kept found same holds = subst (λ (some : List Class). HoldsObjects some bytes kept) (same ∙ found) holds

-- the frames that are kept for pairs of the map were found
pub mapped_stand : (bytes : List ℕ) (mapped : List Frame) → mapped ≡ frames_mapped bytes → AllByRecursion (IsFound bytes) mapped
unfolding frames_mapped
mapped_stand bytes mapped is = subst (AllByRecursion (IsFound bytes)) (sym is) (mapped_found bytes (pairs_read bytes))
