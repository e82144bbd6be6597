-- There are no marks.
use Rattle.std.proofs.Common.{◌∙◌, ap, false, codes}
use Rattle.dwg_make.specs.Fixed.{block_header, paper_header}
use Rattle.dwg_make.proofs.blocks.paper_header.Goals as goal

pub returns : goal.returns
unfolding paper_header
returns c = c.in_ok-header.ensures ∙ ap (λ marks. block_header 0x1B (codes "*PAPER_SPACE") false marks 0x1C 0 0 0x1D) c.new-no_marks.ensures
