use Rattle.dwg_recover.proofs.LossOrder.{losses_in_order, losses_determined}
use Rattle.dwg_recover.proofs.ReportedLosses.{losses_reported}
use Rattle.dwg_recover.proofs.ResultLemmas.{damaged_is_answered, mapped_are_reported, recovered_is_valid, spelled_is_answered}
use Rattle.dwg_recover.proofs.SectionsOfFile.{section_laws}
use Rattle.dwg_recover.proofs.laws.answer_laws.Goals as goal

pub returns-clause-valid : goal.returns-clause-valid
returns-clause-valid c =
    recovered_is_valid (section_laws c.file_header_laws.ensures.sound c.file_header_laws.ensures.complete c.framed_laws.ensures.sound c.framed_laws.ensures.complete)

pub returns-clause-spelled : goal.returns-clause-spelled
returns-clause-spelled c =
    spelled_is_answered (section_laws c.file_header_laws.ensures.sound c.file_header_laws.ensures.complete c.framed_laws.ensures.sound c.framed_laws.ensures.complete)

pub returns-clause-damaged : goal.returns-clause-damaged
returns-clause-damaged c = damaged_is_answered

pub returns-clause-mapped : goal.returns-clause-mapped
returns-clause-mapped c = mapped_are_reported

pub returns-clause-losses : goal.returns-clause-losses
returns-clause-losses c = losses_reported

pub returns-clause-losses_ordered : goal.returns-clause-losses_ordered
returns-clause-losses_ordered c = losses_in_order

pub returns-clause-losses_determined : goal.returns-clause-losses_determined
returns-clause-losses_determined c = losses_determined
