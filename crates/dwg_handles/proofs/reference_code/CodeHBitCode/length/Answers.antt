use Rattle.std.proofs.Common.{◌∙◌, ap, length}
use Rattle.dwg_grammar.specs.Reference.{Reference}
use Rattle.dwg_handles.proofs.ReferenceReading.{value_reached, ref_written}
use Rattle.dwg_handles.proofs.reference_code.CodeHBitCode.length.Goals as goal

pub number_after-requires : goal.number_after-requires
number_after-requires c = value_reached _ _ c.requires.value

pub returns-clause-length : goal.returns-clause-length
returns-clause-length c =
    c.parts_bits.ensures.length
    ∙ ap length (ref_written _ _ _ c.args.value.now c.requires.value (ap (λ (one : Reference). one.code) c.value.view_is) c.number_after.ensures)
