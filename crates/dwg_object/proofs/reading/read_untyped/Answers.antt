use Rattle.std.proofs.Common.{refl, sym, ◌∙◌, subst, List, Bool}
use Rattle.dwg_bits.specs.Cursor.{rest}
use Rattle.dwg_object.specs.Forms.{CommonForm, FormOf}
use Rattle.dwg_object.specs.Objects.{ObjectValue}
use Rattle.dwg_object.proofs.CommonForms.{has_common}
use Rattle.dwg_object.proofs.FormReading.{untyped, unread_rest}
use Rattle.dwg_object.proofs.PlainLemmas.{plain_of_cut}
use Rattle.dwg_object.proofs.reading.read_untyped.Goals as goal

pub returns-in_default-clause-form : goal.returns-in_default-clause-form
returns-in_default-clause-form c = λ classes same.
    let form = has_common (c.requires.form classes same) in
    let after = rw c.in_default.is at c.in_ok-after.ensures in
    c.raw_object.ensures.form classes (unread_rest form same (after.none refl)) (untyped form same c.requires.untyped)

pub returns-clause-form : goal.returns-clause-form
returns-clause-form c = λ classes same.
    let head = c.args.found.now.head in
    let form = c.requires.form classes same in
    let after = rw c.in-Some.is at c.in_ok-after.ensures in
    subst (λ (value : ObjectValue). FormOf c.args.version classes c.args.body.now value) (sym c.plain_object.ensures.value) (
      plain_of_cut (λ unknown. after.known (same ∙ unknown))
          (subst (λ (own : List Bool). CommonForm c.args.version classes c.args.body.now head.number head.own c.args.prefix.common own (rest c.args.prefix.refs)) (sym after.bits) form) after.refs.1,
      untyped (has_common form) same c.requires.untyped,
    )
