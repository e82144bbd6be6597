use Rattle.std.proofs.Common.{sym, ◌∙◌, ap, ◌++◌, Some}
use Rattle.dwg_recover.specs.Recovering.{pairs_read}
use Rattle.dwg_recover.specs.Walks.{Walk, lost_end, lost_pages, pairs_of}
use Rattle.dwg_recover.proofs.RecoveryParts.{walk_at, walk_nowhere}
use Rattle.dwg_recover.proofs.recovery.walk_of.Goals as goal

pub returns-in_default-clause-pairs : goal.returns-in_default-clause-pairs
unfolding pairs_read
returns-in_default-clause-pairs c =
    let none = walk_nowhere c.args.bytes.now c.args.header.now c.requires (sym c.in_default.is ∙ c.place_located.ensures) in
    c.new.ensures ∙ sym (ap (λ (walk : Walk). pairs_of c.args.bytes.now walk.pages) none)

pub returns-in_default-clause-losses : goal.returns-in_default-clause-losses
returns-in_default-clause-losses c =
    let none = walk_nowhere c.args.bytes.now c.args.header.now c.requires (sym c.in_default.is ∙ c.place_located.ensures) in
    c.new-in_default.ensures ∙ sym (ap (λ (walk : Walk). lost_pages c.args.bytes.now 0 walk.pages ++ lost_end walk.lost) none)

pub returns-clause-pairs : goal.returns-clause-pairs
unfolding pairs_read
returns-clause-pairs c =
    let located = walk_at c.args.bytes.now c.args.header.now c.from.result c.requires (ap Some c.from.ensures ∙ sym c.in-Some.is ∙ c.place_located.ensures) in
    c.in_ok-walked.ensures.pairs ∙ sym (ap (λ (walk : Walk). pairs_of c.args.bytes.now walk.pages) located)

pub returns-clause-losses : goal.returns-clause-losses
returns-clause-losses c =
    let located = walk_at c.args.bytes.now c.args.header.now c.from.result c.requires (ap Some c.from.ensures ∙ sym c.in-Some.is ∙ c.place_located.ensures) in
    c.in_ok-walked.ensures.losses ∙ sym (ap (λ (walk : Walk). lost_pages c.args.bytes.now 0 walk.pages ++ lost_end walk.lost) located)
