use Rattle.std.proofs.Common.{◌∙◌, ap, ℕ, ◌/◌}
use Rattle.dwg_check.specs.CheckWord.{CHECK_SEED, check_word}
use Rattle.dwg_object.specs.Objects.{value_of}
use Rattle.dwg_object.specs.Written.{body_bytes}
use Rattle.dwg_object.proofs.FrameWriting.{sized_are_bytes, written_after, frame_written}
use Rattle.dwg_object.proofs.writing.write_frame.Goals as goal

pub returns : goal.returns
returns c =
    let value = value_of c.args.object.now in
    let both = c.write_sized_body.ensures.written in
    let are = sized_are_bytes (body_bytes c.args.version value) c.write_sized_body.ensures.bytes c.requires.few in
    let after = written_after _ _ _ _ c.requires.aligned (ap (λ (n : ℕ). n / 8) c.length-from.ensures) are both in
    frame_written _ _ _ c.args.version value c.to_le_bytes.result c.word_after-word.result (c.word_after-word.ensures ∙ ap (check_word CHECK_SEED) after) c.to_le_bytes.ensures both c.push_bytes.ensures
