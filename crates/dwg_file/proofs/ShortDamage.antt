-- A canonical file with a short change in one object's frame is refused at that object, for its check word.
use Rattle.std.proofs.Common.{◌≡◌, ap, subst, refl, ℕ, ◌+◌, List, length}
use Rattle.dwg_base.specs.Bytes.{AreBytes}
use Rattle.dwg_base.specs.Refusals.{fault_of}
use Rattle.dwg_check.specs.ShortDamage.{DamageUnderSealShows}
use Rattle.dwg_classes.specs.Class.{AreClasses}
use Rattle.dwg_classes.proofs.ClassLineLemmas.{tried_ok}
use Rattle.dwg_object.specs.FrameLines.{frame_refusal}
use Rattle.dwg_objmap.proofs.MapLemmas.{map_is_tried}
use Rattle.dwg_objmap.specs.Pages.{MapOf}
use Rattle.dwg_sections.specs.declared.framed.Framed.TheVariants.{Variables, Classes}
use Rattle.dwg_sections.specs.Framed.{FramedAt}
use Rattle.dwg_sections.specs.FramedLines.{content_at}
use Rattle.dwg_file.specs.Canonical.{Carried, class_content, classes_place, header_with, map_place_with, objects_place_with, placed, variables_place}
use Rattle.dwg_file.proofs.CanonicalParts.{content_is_classes}
use Rattle.dwg_file.specs.Contents.{Contents}
use Rattle.dwg_file.proofs.DamagedFrame.{damaged_is_first, frame_damaged, no_frame}
use Rattle.dwg_file.proofs.DamagedParts.{DamagedStands, damaged_stands}
use Rattle.dwg_file.specs.FileLines.{classes_tried, map_tried, section_place}
use Rattle.dwg_file.proofs.FrameRefusalLemmas.{frames_are_refused}
use Rattle.dwg_file.proofs.PassingLines.{EachBefore, frames_first}
use Rattle.dwg_file.proofs.ReadingLemmas.{SectionLaws, located_same}
use Rattle.dwg_file.specs.ShortDamage.{DamagedFrameFails, ShortDamageIsRefused}
use Rattle.dwg_file.specs.Valid.{IsValid}

-- where header, framed sections and map of a valid drawing stand, no line before those on frames fails
each_before : SectionLaws → (carried : Carried) (drawing : Contents) (bytes : List ℕ) → AreBytes bytes → IsValid drawing → DamagedStands carried drawing bytes → EachBefore bytes
unfolding classes_tried map_tried
each_before laws carried drawing bytes are is stands =
    let header = laws.header_complete bytes (header_with carried drawing) stands.begins in
    let first : variables_place drawing ≡ section_place 0 bytes = located_same bytes (header_with carried drawing) 0 (variables_place drawing) header.1 refl in
    let second : classes_place drawing ≡ section_place 1 bytes = located_same bytes (header_with carried drawing) 1 (classes_place drawing) header.1 refl in
    let third : map_place_with carried drawing ≡ section_place 2 bytes = located_same bytes (header_with carried drawing) 2 (map_place_with carried drawing) header.1 refl in
    let content : List ℕ = class_content drawing.classes in
    let variables = laws.section_complete Variables (section_place 0 bytes) bytes drawing.variables (subst (λ n. FramedAt bytes n Variables drawing.variables) first stands.variables) in
    let section = laws.section_complete Classes (section_place 1 bytes) bytes content (subst (λ n. FramedAt bytes n Classes content) second stands.classes) in
    record {
      header = header.0;
      variables = variables.0;
      class_section = section.0;
      classes =
          ap fault_of ((tried_ok (section_place 1 bytes + 20) (content_at bytes (section_place 1 bytes)) drawing.classes).1
          (subst (λ (c : List ℕ). AreClasses c drawing.classes) section.1 (content_is_classes drawing.classes is.classes)));
      map =
          ap fault_of ((map_is_tried (section_place 2 bytes) bytes (placed drawing.version (objects_place_with carried drawing) drawing.objects) are).1
          (subst (λ n. MapOf bytes n (placed drawing.version (objects_place_with carried drawing) drawing.objects)) third stands.mapped));
    }

-- so it is
pub short_damage_is_refused : SectionLaws → DamageUnderSealShows → ShortDamageIsRefused
short_damage_is_refused laws shows carried drawing bytes earlier frame later kept is small are whole damaged =
    let stands = damaged_stands carried drawing bytes earlier frame later kept is small whole damaged in
    let refusal = frame_refusal 30 (length earlier) frame.pair.place in
    frames_first bytes refusal (each_before laws carried drawing bytes are is stands)
    ((frames_are_refused laws.header_complete drawing.classes bytes (header_with carried drawing) (map_place_with carried drawing) (placed drawing.version (objects_place_with carried drawing) drawing.objects) refusal are stands.begins refl
    stands.mapped).1 (damaged_is_first shows carried drawing bytes earlier frame later kept is small are whole damaged))

-- and no frame with its pair's handle holds there
pub damaged_frame_fails : DamageUnderSealShows → DamagedFrameFails
damaged_frame_fails shows carried drawing bytes earlier frame later kept is small are whole damaged end (body, number, framed, begins) =
    no_frame bytes frame.pair.place (frame_damaged shows carried drawing bytes earlier frame later kept is small are whole damaged) body end framed
