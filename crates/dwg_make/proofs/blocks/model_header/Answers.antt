-- There are no marks.
use Rattle.std.proofs.Common.{◌∙◌, ap, ◌+◌, false, [], codes}
use Rattle.dwg_make.specs.Fixed.{block_header, model_header}
use Rattle.dwg_make.proofs.blocks.model_header.Goals as goal

pub returns : goal.returns
unfolding model_header
returns c =
    c.in_ok-header.ensures
    ∙ ap (λ marks. block_header 0x18 (codes "*MODEL_SPACE") false marks 0x19 0x30 (0x30 + c.from.result) 0x1A) c.new-no_marks.ensures
    ∙ ap (λ count. block_header 0x18 (codes "*MODEL_SPACE") false [] 0x19 0x30 (0x30 + count) 0x1A) c.from.ensures
