use Rattle.std.proofs.Common.{sym, ap, subst, ◌≤◌, Bool, List, length}
use Rattle.dwg_bits.specs.Sink.{Extends}
use Rattle.dwg_grammar.specs.Reference.{Reference}
use Rattle.dwg_handles.proofs.ReferenceReading.{value_reached, ref_written}
use Rattle.dwg_handles.proofs.reference_code.CodeHBitCode.write.Goals as goal

pub number_after-requires : goal.number_after-requires
number_after-requires c = value_reached _ _ c.requires.value

pub write_parts-requires-clause-room : goal.write_parts-requires-clause-room
write_parts-requires-clause-room c =
    let written = ref_written _ _ _ c.args.value.now c.requires.value (ap (λ (one : Reference). one.code) c.value.view_is) c.number_after.ensures in
    subst (λ (bits : List Bool). length bits ≤ c.args.sink.now.spare) (sym written) c.requires.room

pub returns : goal.returns
returns c =
    let written = ref_written _ _ _ c.args.value.now c.requires.value (ap (λ (one : Reference). one.code) c.value.view_is) c.number_after.ensures in
    subst (Extends c.args.sink.now c.write_parts.new.sink) written c.write_parts.ensures
