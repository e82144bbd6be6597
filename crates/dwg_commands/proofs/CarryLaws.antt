-- What `carry` answers, said of the drawing that the input spells and of the preview that stands where its header says.
use Rattle.std.proofs.Common.{◌≡◌, refl, sym, ◌∙◌, ap, subst, ℕ, ◌+◌, ◌≤◌, List, [], ◌++◌, length, Some, None, arith}
use Rattle.std.specs.Prelude.{IfSome, Option, codes}
use Rattle.dwg_base.specs.Bytes.{AreBytes}
use Rattle.dwg_base.specs.Devices.{MOST_BYTES}
use Rattle.dwg_base.specs.Refusals.{first_fault}
use Rattle.dwg_file.specs.Canonical.{Carried, IsCarried, NO_PICTURE, canonical_with, carried_of, frames_bytes, header_with, others_bytes, placed, preview_place, size_with}
use Rattle.dwg_file.specs.CanonicalLaws.{CarryingIsCounted, CarryingIsDoneOnce, CarryingSpells, CarryingSpellsNoOther, PreviewIsCarried}
use Rattle.dwg_file.specs.Contents.{Contents}
use Rattle.dwg_file.specs.DrawingAt.{drawing_at}
use Rattle.dwg_file.specs.FileLines.{ALL_LINES}
use Rattle.dwg_file.specs.Spelled.{Spelled}
use Rattle.dwg_file.specs.Valid.{IsValid}
use Rattle.dwg_file.proofs.CanonicalHeader.{header_fits}
use Rattle.dwg_file.proofs.CanonicalLaws.{canonical_begins}
use Rattle.dwg_file.proofs.CanonicalParts.{no_picture}
use Rattle.dwg_preview.specs.ContentAt.{content_at, content_of}
use Rattle.dwg_preview.specs.declared.preview.Preview.{Preview}
use Rattle.dwg_preview.specs.PreviewLaws.{ContentIsFound}
use Rattle.dwg_preview.specs.Previews.{PREVIEW_SENTINEL, PreviewAt, moved}
use Rattle.dwg_preview.proofs.Moving.{moved_is_content}
use Rattle.dwg_object.proofs.StandingLemmas.{stands_bytes, stands_first, stands_next}
use Rattle.dwg_objmap.specs.Writing.{map_bytes}
use Rattle.dwg_sections.specs.Framed.{complemented}
use Rattle.dwg_sections.specs.FileHeader.{BeginsWithHeader}
use Rattle.dwg_sections.specs.HeaderLaws.{HeaderIsRead}
use Rattle.std.specs.Int.{w32, to_le_bytes}
use Rattle.dwg_sections.specs.HeaderLines.{header_at}
use Rattle.dwg_sections.specs.declared.header.FileHeader.{FileHeader}
use Rattle.dwg_text.specs.Notes.{preview_dropped_note}
use Rattle.dwg_commands.specs.declared.outcome.Outcome.{Outcome}
use Rattle.dwg_commands.specs.declared.status.Status.TheVariants.{Done}
use Rattle.dwg_commands.specs.declared.words.Command.TheVariants.{Carry}
use Rattle.dwg_commands.specs.Answered.{carried_from, carried_in, carrying_note, content_in, filed_with}
use Rattle.dwg_commands.specs.Commands.{READERS, row_of}
use Rattle.dwg_commands.specs.Outcome.{outcome_within}
use Rattle.dwg_commands.specs.OutcomeLaws.{Carries, CarryNotesNone, CarryWritesPreview, IsInput, NoneIsCarried, said}
use Rattle.dwg_commands.specs.Words.{command_of, reading_of}
use Rattle.dwg_commands.proofs.OutcomeLaws.{DrawingLaws, carried_large, carried_within, first_failing, of_input, passed, read_is, refused}

-- what is known of canonical files that carry a preview
pub record CarryingLaws : Type 0 where
  pub spells : CarryingSpells
  pub counted : CarryingIsCounted
  pub no_other : CarryingSpellsNoOther
  pub preview : PreviewIsCarried
  pub once : CarryingIsDoneOnce
  pub found : ContentIsFound
  pub header : HeaderIsRead

-- `carry` names its command
carry_said : (bytes : List ℕ) → IsInput bytes → said (codes "carry") bytes ≡ outcome_within Carry bytes
unfolding command_of reading_of READERS row_of
carry_said bytes input = of_input Carry bytes input refl

-- it refuses an input that spells no drawing
pub none_is_carried : DrawingLaws → NoneIsCarried
unfolding row_of
none_is_carried laws bytes input none =
    let fails = first_failing laws bytes input none in
    record { refusal = fails.0; first = fails.1; answers = carry_said bytes input ∙ refused Carry bytes fails.0 fails.1 }

-- what it answers by what stands where the header says, whatever the size
carry_is_filed : DrawingLaws → HeaderIsRead → (header : FileHeader) (drawing : Contents) (bytes : List ℕ) (found : Option (List ℕ)) → IsInput bytes → Spelled drawing bytes
    → BeginsWithHeader bytes header → content_at bytes header.preview ≡ found
    → said (codes "carry") bytes ≡ filed_with (carried_from header.preview found) drawing (carrying_note found) Done
unfolding row_of
carry_is_filed laws is_read header drawing bytes found input spelled begins is =
    carry_said bytes input ∙ passed Carry bytes (laws.passes bytes drawing input.are spelled)
    ∙ ap (λ (one : Contents). filed_with (carried_in bytes) one (carrying_note (content_in bytes)) Done) (read_is laws drawing bytes input.are spelled)
    ∙ ap (λ (one : FileHeader). filed_with (carried_from one.preview (content_at bytes one.preview)) drawing (carrying_note (content_at bytes one.preview)) Done)
    (sym (is_read bytes header begins).1)
    ∙ ap (λ (some : Option (List ℕ)). filed_with (carried_from header.preview some) drawing (carrying_note some) Done) is

-- the size of the file of a drawing with a preview of so many bytes
abbrev sized : Contents → ℕ → ℕ
sized drawing count =
    let from = preview_place drawing + (36 + count) in
    from + length (frames_bytes drawing.version drawing.objects) + length (map_bytes (placed drawing.version from drawing.objects)) + length (others_bytes drawing.others)

-- a preview that stands in an input can be carried
carried_is : (bytes : List ℕ) (place : ℕ) (content : List ℕ) → AreBytes bytes → PreviewAt bytes place content → IsCarried (record { place = place; content = content })
carried_is bytes place content are there =
    let prefix = PREVIEW_SENTINEL ++ to_le_bytes w32 (length content) in
    record {
      is = there.is;
      are =
          stands_bytes bytes (place + length prefix) content are
          (stands_next bytes place prefix content (stands_first bytes place (prefix ++ content) (complemented PREVIEW_SENTINEL) there.stands));
    }

-- what it wrote it carries as it is
carried_again : DrawingLaws → CarryingLaws → (carried : Carried) (drawing : Contents) → IsCarried carried → IsValid drawing → size_with carried drawing ≤ MOST_BYTES
    → said (codes "carry") (canonical_with carried drawing) ≡ record { output = canonical_with carried drawing; note = []; status = Done }
carried_again laws files carried drawing is valid small =
    carry_is_filed laws files.header (header_with carried drawing) drawing whole (Some content) input (files.spells carried drawing is valid small)
    (canonical_begins carried drawing is small (header_fits carried drawing valid small)) there
    ∙ carried_within again drawing [] Done (subst (λ n. n ≤ MOST_BYTES) (sym same) small)
    ∙ ap (λ bytes. record { output = bytes; note = []; status = Done }) (files.once carried drawing is small)
  where
    whole : List ℕ
    whole = canonical_with carried drawing

    content : List ℕ
    content = moved carried.place (preview_place drawing) carried.content

    again : Carried
    again = record { place = preview_place drawing; content = content }

    counted : (length whole ≡ size_with carried drawing) × AreBytes whole
    counted = files.counted carried drawing is valid small

    input : IsInput whole
    input = record { are = counted.1; within = subst (λ n. n ≤ MOST_BYTES) (sym counted.0) small }

    there : content_at whole (preview_place drawing) ≡ Some content
    there = (files.found whole (preview_place drawing) counted.1).1 content (files.preview carried drawing is valid small)

    same : size_with again drawing ≡ size_with carried drawing
    same = ap (sized drawing) (moved_is_content carried.place (preview_place drawing) carried.content is.is (omega (arith, small))).0

-- so it writes a file of which all this holds
carry_writes : DrawingLaws → CarryingLaws → (carried : Carried) (drawing : Contents) (note bytes : List ℕ) → IsCarried carried → IsValid drawing → size_with carried drawing ≤ MOST_BYTES
    → said (codes "carry") bytes ≡ filed_with carried drawing note Done → Carries carried drawing note (said (codes "carry") bytes)
carry_writes laws files carried drawing note bytes is valid small says =
    subst (λ (answer : Outcome). Carries carried drawing note answer) (sym (says ∙ carried_within carried drawing note Done small)) (record {
      answers = refl;
      spells = files.spells carried drawing is valid small;
      no_other = λ other also. files.no_other carried drawing other is valid small also;
      once = carried_again laws files carried drawing is valid small;
    })

-- with the preview that stands where the header says
pub carry_writes_preview : DrawingLaws → CarryingLaws → CarryWritesPreview
carry_writes_preview laws files header drawing content bytes input spelled begins there =
    let place = header.preview in
    let carried : Carried = record { place = place; content = content } in
    let is : IsCarried carried = carried_is bytes place content input.are there in
    let says = carry_is_filed laws files.header header drawing bytes (Some content) input spelled begins ((files.found bytes place input.are).1 content there) in (
      λ small. carry_writes laws files carried drawing [] bytes is (laws.valid bytes drawing input.are input.within spelled) small says,
      λ large. says ∙ carried_large carried drawing [] Done large,
    )

-- and without one where none does
pub carry_notes_none : DrawingLaws → CarryingLaws → CarryNotesNone
carry_notes_none laws files header drawing bytes input spelled begins none =
    let says = carry_is_filed laws files.header header drawing bytes None input spelled begins (of_found (content_at bytes header.preview) refl) in (
      λ small. carry_writes laws files NO_PICTURE drawing preview_dropped_note bytes no_picture (laws.valid bytes drawing input.are input.within spelled) small says,
      λ large. says ∙ carried_large NO_PICTURE drawing preview_dropped_note Done large,
    )
  where
    of_found : (found : Option (List ℕ)) → content_at bytes header.preview ≡ found → content_at bytes header.preview ≡ None
    of_found None is = is
    of_found (Some content) is = absurd (none content ((files.found bytes header.preview input.are).0 content is))

-- what is read where the header says is what is carried
carried_of_read : (bytes : List ℕ) (place : ℕ) (read : Option Preview) → IfSome read (λ preview. (preview.place ≡ place) × PreviewAt bytes place preview.content.now)
    → carried_of read ≡ carried_from place (content_of read)
carried_of_read bytes place None is = refl
carried_of_read bytes place (Some preview) is = ap (λ at. record { place = at; content = preview.content.now }) is.0

-- and the file with it is what `carry` answers
pub carry_reported : (bytes : List ℕ) (drawing : Contents) (place : ℕ) (read : Option Preview) (note : List ℕ) → first_fault ALL_LINES bytes ≡ None → drawing ≡ drawing_at bytes
    → place ≡ (header_at bytes).preview → IfSome read (λ preview. (preview.place ≡ place) × PreviewAt bytes place preview.content.now) → content_of read ≡ content_at bytes place
    → note ≡ carrying_note (content_of read) → filed_with (carried_of read) drawing note Done ≡ outcome_within Carry bytes
unfolding row_of
carry_reported bytes drawing place read note holds is header some found noted_is =
    ap (λ (one : Carried). filed_with one drawing note Done) (carried_of_read bytes place read some)
    ∙ ap (λ (reported : List ℕ). filed_with (carried_from place (content_of read)) drawing reported Done) noted_is
    ∙ ap (λ (content : Option (List ℕ)). filed_with (carried_from place content) drawing (carrying_note content) Done) found
    ∙ ap (λ at. filed_with (carried_from at (content_at bytes at)) drawing (carrying_note (content_at bytes at)) Done) header
    ∙ ap (λ (one : Contents). filed_with (carried_in bytes) one (carrying_note (content_in bytes)) Done) is
    ∙ sym (passed Carry bytes holds)
