use Rattle.dwg_object.proofs.FormLaws.{form_at_same}
use Rattle.dwg_sections.specs.HeaderLaws.{PassingBytesBeginWithHeader, HeaderIsRead}
use Rattle.dwg_sections.specs.FramedLaws.{PassingBytesHaveSection, SectionIsRead}
use Rattle.dwg_file.proofs.ReadingLemmas.{SectionLaws, reads_spelled, spelled_reads, spelled_passes, spelled_once}
use Rattle.dwg_file.proofs.PassingLemmas.{passing_is_spelled}
use Rattle.dwg_file.proofs.FrameRefusalLemmas.{frames_are_refused}
use Rattle.dwg_file.proofs.PartRefusals.{variables_are_refused, class_section_is_refused, classes_are_refused, map_lines_are_refused}
use Rattle.dwg_file.proofs.SectionRefusalLemmas.{sections_are_refused}
use Rattle.dwg_file.proofs.ValidLaws.{parts_are_valid, whole_sections_are_read, spelled_is_valid}
use Rattle.dwg_file.proofs.laws.drawing_laws.Goals as goal

laws : PassingBytesBeginWithHeader → HeaderIsRead → PassingBytesHaveSection → SectionIsRead → SectionLaws
laws header_sound header_complete section_sound section_complete =
    record { header_sound = header_sound; header_complete = header_complete; section_sound = section_sound; section_complete = section_complete }

pub returns-clause-one : goal.returns-clause-one
returns-clause-one c bytes drawing other are spelled also =
    spelled_once (laws c.file_header_laws.ensures.sound c.file_header_laws.ensures.complete c.framed_laws.ensures.sound c.framed_laws.ensures.complete) bytes drawing other are spelled also

pub returns-clause-passes : goal.returns-clause-passes
returns-clause-passes c bytes drawing are spelled =
    spelled_passes (laws c.file_header_laws.ensures.sound c.file_header_laws.ensures.complete c.framed_laws.ensures.sound c.framed_laws.ensures.complete) drawing bytes are spelled

pub returns-clause-read : goal.returns-clause-read
returns-clause-read c bytes drawing are reads =
    reads_spelled (laws c.file_header_laws.ensures.sound c.file_header_laws.ensures.complete c.framed_laws.ensures.sound c.framed_laws.ensures.complete) drawing bytes are reads

pub returns-clause-again : goal.returns-clause-again
returns-clause-again c bytes drawing are spelled =
    spelled_reads (laws c.file_header_laws.ensures.sound c.file_header_laws.ensures.complete c.framed_laws.ensures.sound c.framed_laws.ensures.complete) drawing bytes are spelled

pub returns-clause-spelled : goal.returns-clause-spelled
returns-clause-spelled c bytes are none =
    passing_is_spelled (laws c.file_header_laws.ensures.sound c.file_header_laws.ensures.complete c.framed_laws.ensures.sound c.framed_laws.ensures.complete) bytes are none

pub returns-clause-form : goal.returns-clause-form
returns-clause-form c = form_at_same

pub returns-clause-parts : goal.returns-clause-parts
returns-clause-parts c = parts_are_valid

pub returns-clause-whole : goal.returns-clause-whole
returns-clause-whole c = whole_sections_are_read

pub returns-clause-valid : goal.returns-clause-valid
returns-clause-valid c bytes drawing are few spelled =
    spelled_is_valid (laws c.file_header_laws.ensures.sound c.file_header_laws.ensures.complete c.framed_laws.ensures.sound c.framed_laws.ensures.complete) drawing bytes are few spelled

pub returns-clause-frames : goal.returns-clause-frames
returns-clause-frames c = frames_are_refused c.file_header_laws.ensures.complete

pub returns-clause-sections : goal.returns-clause-sections
returns-clause-sections c = sections_are_refused c.file_header_laws.ensures.complete

pub returns-clause-variables : goal.returns-clause-variables
returns-clause-variables c = variables_are_refused c.file_header_laws.ensures.complete c.framed_laws.ensures.refused

pub returns-clause-class_section : goal.returns-clause-class_section
returns-clause-class_section c = class_section_is_refused c.file_header_laws.ensures.complete c.framed_laws.ensures.refused

pub returns-clause-classes : goal.returns-clause-classes
returns-clause-classes c = classes_are_refused c.file_header_laws.ensures.complete c.framed_laws.ensures.complete

pub returns-clause-map : goal.returns-clause-map
returns-clause-map c = map_lines_are_refused c.file_header_laws.ensures.complete
