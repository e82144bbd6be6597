use Rattle.std.proofs.Common.{sym, ◌∙◌}
use Rattle.dwg_classes.proofs.ClassHints.{none_reported, first_reported, place_reported, never_absent}
use Rattle.dwg_classes.proofs.hinting.hint.Goals as goal

pub returns-in-Some-clause-reported : goal.returns-in-Some-clause-reported
returns-in-Some-clause-reported c =
    c.hint_of.ensures ∙ place_reported c.args.classes.now c.args.number c.in-Some.place c.index-classes-place.result c.in-Some.ensures.first c.index-classes-place.is

pub returns-in-Some-clause-absent : goal.returns-in-Some-clause-absent
returns-in-Some-clause-absent c = (
  λ absent. absurd (never_absent c.index-classes-place.result (sym c.hint_of.ensures ∙ absent)),
  λ others. returns-in-Some-clause-reported c ∙ none_reported c.args.classes.now c.args.number others,
)

pub returns-in-Some-clause-first : goal.returns-in-Some-clause-first
returns-in-Some-clause-first c = λ place is. returns-in-Some-clause-reported c ∙ first_reported c.args.classes.now c.args.number place is

pub returns-in-None-clause-reported : goal.returns-in-None-clause-reported
returns-in-None-clause-reported c = sym (none_reported c.args.classes.now c.args.number c.in-None.ensures.none)

pub returns-in-None-clause-first : goal.returns-in-None-clause-first
returns-in-None-clause-first c = λ place is. returns-in-None-clause-reported c ∙ first_reported c.args.classes.now c.args.number place is
