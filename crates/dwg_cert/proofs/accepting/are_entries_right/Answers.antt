use Rattle.std.proofs.Common.{◌≡◌, sym, ◌∙◌, ap, subst, map, List}
use Rattle.std.specs.Prelude.{is_some, false}
use Rattle.std.specs.List.{list_all}
use Rattle.dwg_cert.specs.AcceptTests.{is_right}
use Rattle.dwg_cert.proofs.Checking.{checker_holds, unmet_refused}
use Rattle.dwg_object.specs.Objects.{ObjectValue, value_of}
use Rattle.dwg_cert.proofs.accepting.are_entries_right.Goals as goal

pub returns-in_default : goal.returns-in_default
returns-in_default c =
    let objects = map value_of c.drawing.inside.objects.now in
    subst (λ (all : List ObjectValue). false ≡ list_all (is_right all c.args.entries.now) all) c.drawing.view_is
    (unmet_refused objects c.args.entries.now (sym c.in_ok-claimed.ensures.met ∙ ap is_some c.in_default.is))

pub invariant_of-checker : goal.invariant_of-checker
invariant_of-checker c =
    checker_holds c.args.drawing.now _ c.args.entries.now _ _ _ _ _ c.drawing.view_is c.requires.can c.requires.handles c.drawing.invariant.1 c.drawing.invariant.2 c.requires.owners c.in_ok-members.ensures
    (rw c.in-Some.is at c.in_ok-claimed.ensures.counted) (sym c.in_ok-claimed.ensures.met ∙ ap is_some c.in-Some.is)
