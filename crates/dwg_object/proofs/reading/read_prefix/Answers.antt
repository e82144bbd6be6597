use Rattle.std.proofs.Common.{arith, refl, ◌∙◌, ap}
use Rattle.dwg_kinds.specs.Kinds.{is_entity_kind}
use Rattle.dwg_object.proofs.CommonForms.{common_unread, common_read}
use Rattle.dwg_object.proofs.FormReading.{cut_of_cursors, size_unread, reported_after, unreported}
use Rattle.dwg_object.proofs.reading.read_prefix.Goals as goal

pub returns-in_default-clause-none : goal.returns-in_default-clause-none
returns-in_default-clause-none c = λ none classes same form.
    unreported c.args.body.now c.is_entity-entity.result c.requires.head (c.is_entity-entity.ensures ∙ ap is_entity_kind same) c.in_default.ensures.none form

pub returns-then-size-found-clause-none : goal.returns-then-size-found-clause-none
returns-then-size-found-clause-none c = λ none classes same form.
    let reported = reported_after classes c.args.body.now c.is_entity-entity.result _ c.requires.head (c.is_entity-entity.ensures ∙ ap is_entity_kind same) c.in-Some.ensures.some in
    size_unread _ c.requires.head reported (λ after within. omega (arith, after, within, c.then-size-found.either, c.from-size.ensures)) form

pub returns-in_default-2-clause-none : goal.returns-in_default-2-clause-none
returns-in_default-2-clause-none c = λ none classes same form.
    let reported = reported_after classes c.args.body.now c.is_entity-entity.result _ c.requires.head (c.is_entity-entity.ensures ∙ ap is_entity_kind same) c.in-Some.ensures.some in
    let cut = cut_of_cursors c.args.body.now _ _ c.new-main.result c.new-refs.result c.requires.head reported
    (omega (arith, c.if-size-found.false, c.from-size.ensures)) (omega (arith, c.if-end-size.false, c.from-size.ensures)) refl
    c.new-main.ensures.bytes c.new-main.ensures.place (c.new-main.ensures.end ∙ c.from-size.ensures) c.new-refs.ensures.bytes (c.new-refs.ensures.place ∙ c.from-size.ensures) c.new-refs.ensures.end in
    let clauses = rw c.in_default-2.is at c.in_ok-common.ensures in
    common_unread c.is_entity-entity.result _ cut (c.is_entity-entity.ensures ∙ ap is_entity_kind same) c.layout_in-layout.ensures clauses.parsed form

pub returns-clause-form : goal.returns-clause-form
returns-clause-form c = λ classes same.
    let reported = reported_after classes c.args.body.now c.is_entity-entity.result _ c.requires.head (c.is_entity-entity.ensures ∙ ap is_entity_kind same) c.in-Some.ensures.some in
    let cut = cut_of_cursors c.args.body.now _ _ c.new-main.result c.new-refs.result c.requires.head reported
    (omega (arith, c.if-size-found.false, c.from-size.ensures)) (omega (arith, c.if-end-size.false, c.from-size.ensures)) refl
    c.new-main.ensures.bytes c.new-main.ensures.place (c.new-main.ensures.end ∙ c.from-size.ensures) c.new-refs.ensures.bytes (c.new-refs.ensures.place ∙ c.from-size.ensures) c.new-refs.ensures.end in
    let clauses = rw c.in-Some-2.is at c.in_ok-common.ensures in
    common_read c.is_entity-entity.result _ cut (c.is_entity-entity.ensures ∙ ap is_entity_kind same) c.layout_in-layout.ensures clauses.parsed
