-- Typed forms of a body: one at the most, and they are decided by what its common part and its own bits are parsed as.
use Rattle.std.proofs.Common.{◌≡◌, refl, sym, ◌∙◌, ap, ap₂, subst, ℕ, ◌^◌, ◌<◌, Bool, true, false, List, [], ◌∷◌, ◌++◌, length, Option, Some, None, inl, inr, arith}
use Rattle.dwg_base.specs.declared.version.Version.{Version}
use Rattle.std.specs.Prelude.{◌⊎◌, nat_lt}
use Rattle.std.proofs.lemmas.Bool.Decides.{nat_tests}
use Rattle.std.proofs.lemmas.List.{append-nil}
use Rattle.dwg_bits.specs.Bits.{bits}
use Rattle.dwg_classes.specs.declared.class.Class.{Class}
use Rattle.dwg_grammar.proofs.BodyLemmas.{unique_body}
use Rattle.dwg_kinds.specs.declared.kind.Kind.{Kind}
use Rattle.dwg_object.specs.declared.body.Body.{Body}
use Rattle.dwg_object.specs.declared.common.Common.{Common}
use Rattle.dwg_object.specs.Objects.{HeadParts, TypedValue}
use Rattle.dwg_object.specs.Forms.{CommonForm, HasCommonForm, TypedForm, HasTypedForm, kind_under}
use Rattle.dwg_object.specs.Heads.{HasHead}
use Rattle.dwg_object.proofs.CommonForms.{none_begins, Parts, has_common, common_forms_same, fits_of_common, decided_after}
use Rattle.dwg_object.specs.OwnBodies.{own_body}
use Rattle.dwg_object.proofs.OwnLaws.{own_is_body}
use Rattle.dwg_object.specs.OwnBits.{AreOwn, HasOwn}

-- own bits and own references of which nothing of the kind is parsed aren't those of the kind
pub own_unread : (version : Version) (kind : Kind) (handle : ℕ) (own after : List Bool) → handle < 2 ^ 63 → (own_body version kind handle).parse own after ≡ None → HasOwn version kind handle own after → ⊥
own_unread version kind handle own after small none has =
    none_begins handle (own_body version kind handle) own after (own_is_body version kind handle small) none has.value [] has.left has.are.begins

-- nor are those after which own bits are left, or eight bits of the references
pub own_left_unread : (version : Version) (kind : Kind) (handle : ℕ) (own after own_left left : List Bool) (value : Body) → handle < 2 ^ 63 → (own_body version kind handle).parse own after ≡ Some (value, (own_left, left))
    → (length own_left ≡ 0 → length left < 8 → ⊥) → HasOwn version kind handle own after → ⊥
own_left_unread version kind handle own after own_left left value small parsed more has =
    let is = own_is_body version kind handle small in
    let alike = unique_body handle (own_body version kind handle) is has.value value own [] own_left after has.left left has.are.begins (is.sound own own_left after left value parsed) in
    more (ap length (sym alike.1)) (omega (arith, has.are.few, ap length alike.2))

-- all others are
pub own_read : (version : Version) (kind : Kind) (handle : ℕ) (own after own_left left : List Bool) (value : Body) → handle < 2 ^ 63 → (own_body version kind handle).parse own after ≡ Some (value, (own_left, left))
    → length own_left ≡ 0 → length left < 8 → AreOwn version kind handle value own after left
own_read version kind handle own after [] left value small parsed none few = record { begins = (own_is_body version kind handle small).sound own [] after left value parsed; few = few }
own_read version kind handle own after (letter ∷ more) left value small parsed none few = absurd cc

-- whether they are follows from them
own_decided : (version : Version) (kind : Kind) (handle : ℕ) (own after : List Bool) → handle < 2 ^ 63 → HasOwn version kind handle own after ⊎ (HasOwn version kind handle own after → ⊥)
own_decided version kind handle own after small = by_parse ((own_body version kind handle).parse own after) refl
  where
    by_left : (value : Body) (own_left left : List Bool) → (own_body version kind handle).parse own after ≡ Some (value, (own_left, left)) → (more few : Bool) → nat_lt 0 (length own_left) ≡ more
        → nat_lt (length left) 8 ≡ few → HasOwn version kind handle own after ⊎ (HasOwn version kind handle own after → ⊥)
    by_left value own_left left parsed false true none few =
        inl (record { value = value; left = left; are = own_read version kind handle own after own_left left value small parsed (grind (arith, nat_tests)) (grind (arith, nat_tests)) })
    by_left value own_left left parsed true few some any = inr (own_left_unread version kind handle own after own_left left value small parsed (λ none less. grind (arith, nat_tests)))
    by_left value own_left left parsed false false none many = inr (own_left_unread version kind handle own after own_left left value small parsed (λ none less. grind (arith, nat_tests)))

    by_parse : (found : Option (Body × (List Bool × List Bool))) → (own_body version kind handle).parse own after ≡ found
        → HasOwn version kind handle own after ⊎ (HasOwn version kind handle own after → ⊥)
    by_parse None none = inr (own_unread version kind handle own after small none)
    by_parse (Some (value, (own_left, left))) parsed = by_left value own_left left parsed (nat_lt 0 (length own_left)) (nat_lt (length left) 8) refl refl

-- a body in a Typed form has it, and so a common part
abbrev pub has_typed : {version : Version} {classes : List Class} {body : List ℕ} {number handle : ℕ} {common : Common} {value : Body} → TypedForm version classes body number handle common value → HasTypedForm version classes body
has_typed {version} {classes} {body} {number} {handle} {common} {value} is = record { number = number; handle = handle; common = common; value = value; form = is }

abbrev pub common_of_typed : {version : Version} {classes : List Class} {body : List ℕ} → HasTypedForm version classes body → HasCommonForm version classes body
common_of_typed has = has_common has.form.form

-- in any common part that it has stand the own bits and the own references of its value
pub own_of_typed : {version : Version} {classes : List Class} {body : List ℕ} (form : HasCommonForm version classes body) (has : HasTypedForm version classes body)
    → AreOwn version (kind_under classes form.number) form.handle has.value form.own form.after has.form.left
own_of_typed {version} {classes} form has =
    subst (λ (p : Parts). AreOwn version (kind_under classes p.number) p.handle has.value p.own p.after has.form.left) (common_forms_same (common_of_typed has) form) (record {
      begins = record {
        main_prefix = has.form.own;
        reference_prefix = has.form.own_refs;
        spelled = has.form.own_spelled;
        main_whole = sym (append-nil has.form.own);
        references_whole = refl;
      };
      few = has.form.few;
    })

pub typed_own : {version : Version} {classes : List Class} {body : List ℕ} (form : HasCommonForm version classes body) → HasTypedForm version classes body → HasOwn version (kind_under classes form.number) form.handle form.own form.after
typed_own form has = record { value = has.value; left = has.form.left; are = own_of_typed form has }

-- and where they stand, the form is a Typed one
pub typed_of_own : {version : Version} {classes : List Class} {body : List ℕ} {number handle : ℕ} {common : Common} {value : Body} {own after left : List Bool}
    → CommonForm version classes body number handle common own after → AreOwn version (kind_under classes number) handle value own after left → TypedForm version classes body number handle common value
typed_of_own {version} {classes} {body} {number} {handle} {common} {left = left} form are = record {
  own = are.begins.main_prefix;
  own_refs = are.begins.reference_prefix;
  left = left;
  form =
      subst (λ (o : List Bool). CommonForm version classes body number handle common o (are.begins.reference_prefix ++ left)) (are.begins.main_whole ∙ append-nil are.begins.main_prefix)
      (subst (CommonForm version classes body number handle common _) are.begins.references_whole form);
  own_spelled = are.begins.spelled;
  few = are.few;
}

-- a body is read as one Typed object at the most
pub typed_forms_same : {version : Version} {classes : List Class} {body : List ℕ} (is was : HasTypedForm version classes body)
    → TypedValue is.number is.handle is.common is.value ≡ TypedValue was.number was.handle was.common was.value
typed_forms_same {version} {classes} is was =
    let small = (fits_of_common was.form.form).own in
    let kind : Kind = kind_under classes was.number in
    let own = own_of_typed (common_of_typed was) is in
    let others = own_of_typed (common_of_typed was) was in
    let alike = unique_body was.handle (own_body version kind was.handle) (own_is_body version kind was.handle small) is.value was.value _ [] [] _ is.form.left was.form.left own.begins others.begins in
    ap₂ (λ (p : Parts) (value : Body). TypedValue p.number p.handle p.common value) (common_forms_same (common_of_typed is) (common_of_typed was)) alike.0

-- a body with a head has a Typed form or has none
pub typed_decided : {version : Version} {classes : List Class} {body : List ℕ} {parts : HeadParts} → HasHead version (bits body) parts → HasTypedForm version classes body ⊎ (HasTypedForm version classes body → ⊥)
typed_decided {version} {classes} {body} begins =
    decided_after (HasTypedForm version classes body) (λ form. HasOwn version (kind_under classes form.number) form.handle form.own form.after) begins common_of_typed typed_own
    (λ form own. has_typed (typed_of_own form.form own.are))
    (λ form. own_decided version (kind_under classes form.number) form.handle form.own form.after (fits_of_common form.form).own)
