use Rattle.std.proofs.Common.{subst}
use Rattle.dwg_preview.specs.Previews.{IsContent}
use Rattle.dwg_preview.proofs.PreviewParts.{same_content}
use Rattle.dwg_preview.proofs.reading.read_preview.Goals as goal

pub returns-then-not-is_content-clause-none : goal.returns-then-not-is_content-clause-none
returns-then-not-is_content-clause-none c = λ content there.
    let read = c.in_ok-content.content.now in
    let same = same_content c.args.bytes.now c.args.place content read there.is.size c.in_ok-content.ensures.size there.stands c.in_ok-content.ensures.stands in
    let holds = c.is_content.ensures.1 (subst (IsContent c.args.place) same there.is) in
    absurd cc
