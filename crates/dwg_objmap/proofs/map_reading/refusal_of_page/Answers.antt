use Rattle.std.proofs.Common.{sym, ◌∙◌, ap, arith}
use Rattle.std.specs.Prelude.{Err}
use Rattle.dwg_objmap.proofs.PageLemmas.{page_short, page_cut, page_small}
use Rattle.dwg_objmap.proofs.StepReading.{not_so, refused_word}
use Rattle.dwg_objmap.proofs.map_reading.refusal_of_page.Goals as goal

pub returns-then-saturating_sub-lt2-clause-refused : goal.returns-then-saturating_sub-lt2-clause-refused
returns-then-saturating_sub-lt2-clause-refused c = λ seen. page_short seen c.args.place c.args.index c.args.bytes.now (omega arith) ∙ ap Err (sym c.new.ensures)

pub returns-then-size-lt2-clause-refused : goal.returns-then-size-lt2-clause-refused
returns-then-size-lt2-clause-refused c = λ seen.
    page_small seen c.args.place c.args.index c.args.bytes.now (omega arith) (omega arith) ∙ ap Err (sym c.new-then-size-lt2.ensures)

pub returns-then-length-place-clause-refused : goal.returns-then-length-place-clause-refused
returns-then-length-place-clause-refused c = λ seen.
    page_cut seen c.args.place c.args.index c.args.bytes.now (omega arith) (omega arith) (omega arith) ∙ ap Err (sym c.new-then-length-place.ensures)

pub returns-then-not-is_right-clause-refused : goal.returns-then-not-is_right-clause-refused
returns-then-not-is_right-clause-refused c = λ seen.
    refused_word seen c.args.place c.args.index _ c.args.bytes.now _ (omega arith, omega arith) (not_so _ _ c.is_right.ensures.right.1 c.if-not-is_right.true) c.word_at-size.ensures.word
    c.new-then-not-is_right.ensures
