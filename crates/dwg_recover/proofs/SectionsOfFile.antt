-- The laws of the file header and of framed sections as one value, which the laws of recovery take.
use Rattle.dwg_file.proofs.ReadingLemmas.{SectionLaws}
use Rattle.dwg_sections.specs.FramedLaws.{PassingBytesHaveSection, SectionIsRead}
use Rattle.dwg_sections.specs.HeaderLaws.{HeaderIsRead, PassingBytesBeginWithHeader}

pub section_laws : PassingBytesBeginWithHeader → HeaderIsRead → PassingBytesHaveSection → SectionIsRead → SectionLaws
section_laws header_sound header_complete section_sound section_complete =
    record { header_sound = header_sound; header_complete = header_complete; section_sound = section_sound; section_complete = section_complete }
