use Rattle.std.proofs.Common.{sym, ◌∙◌, arith}
use Rattle.std.proofs.lemmas.Result.{err_from_is_err_and}
use Rattle.dwg_objmap.proofs.Answered.{pages_wrong, pages_over, pages_out, pages_on}
use Rattle.dwg_objmap.proofs.map_reading.read_pages.Goals as goal

pub returns-in_err-gathered : goal.returns-in_err-gathered
returns-in_err-gathered c =
    let p = err_from_is_err_and c.from_residual.result c.from_residual.ensures.1 in
    rw (p.1, p.2) (pages_wrong _ _ c.pages.index c.pages.at c.pages.gathered c.args.bytes.now _ (omega arith) c.pages.invariant c.in_err-gathered.ensures.tried)

pub returns-then-word_at-eq-END_SIZE : goal.returns-then-word_at-eq-END_SIZE
returns-then-word_at-eq-END_SIZE c =
    pages_over _ c.pages.index c.pages.at c.pages.gathered c.in_ok-gathered.gathered c.args.bytes.now _ (omega arith) c.pages.invariant c.in_ok-gathered.ensures.tried
    (sym c.word_at.ensures.word ∙ c.if-word_at-eq-END_SIZE.true)

pub pages-preserved : goal.pages-preserved
pages-preserved c =
    pages_on _ _ c.pages.index c.pages.at _ c.pages.gathered c.in_ok-gathered.gathered c.args.bytes.now _ (omega arith) c.pages.invariant c.in_ok-gathered.ensures.tried
    (λ two. omega (arith, c.word_at.ensures.word, c.if-word_at-eq-END_SIZE.false)) c.next_place-at.ensures

pub returns : goal.returns
returns c = pages_out _ c.pages.index c.pages.at c.pages.gathered c.args.bytes.now _ (omega arith) c.pages.invariant
