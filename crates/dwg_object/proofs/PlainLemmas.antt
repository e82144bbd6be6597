-- Plain forms: a body has one at the most, and whether it has one follows from its bits.
use Rattle.std.proofs.Common.{◌≡◌, refl, ap₂, subst, ℕ, Bool, List, inl, inr, arith}
use Rattle.dwg_base.specs.declared.version.Version.{Version}
use Rattle.std.specs.Prelude.{◌≢◌, ◌⊎◌}
use Rattle.dwg_bits.specs.Bits.{bits}
use Rattle.dwg_classes.specs.declared.class.Class.{Class}
use Rattle.dwg_grammar.specs.Grammar.{AnyLetters}
use Rattle.dwg_grammar.specs.ToEnd.{SpellsToEnd}
use Rattle.dwg_grammar.proofs.ToEndDecided.{HasCut, cut_decided}
use Rattle.dwg_grammar.proofs.ToEndLemmas.{cut_uniquely}
use Rattle.dwg_grammar.specs.Reference.{Reference}
use Rattle.dwg_grammar.specs.ReferenceCodes.{reference}
use Rattle.dwg_grammar.proofs.ReferenceLemmas.{reference_is_code, reference_least}
use Rattle.dwg_kinds.specs.declared.kind.Kind.{Kind}
use Rattle.dwg_kinds.specs.declared.kind.Kind.TheVariants as kinds
use Rattle.dwg_object.specs.declared.common.Common.{Common}
use Rattle.dwg_object.specs.Objects.{HeadParts, PlainValue}
use Rattle.dwg_object.specs.Forms.{CommonForm, HasCommonForm, PlainForm, HasPlainForm, kind_under}
use Rattle.dwg_object.specs.Heads.{HasHead}
use Rattle.dwg_object.proofs.CommonForms.{Parts, has_common, common_forms_same, fits_of_common, decided_after}

-- a body in a Plain form has it, and so a common part
abbrev pub has_plain : {version : Version} {classes : List Class} {body : List ℕ} {number handle : ℕ} {common : Common} {rest : List Bool} {refs : List Reference} → PlainForm version classes body number handle common rest refs
    → HasPlainForm version classes body
has_plain {version} {classes} {body} {number} {handle} {common} {rest} {refs} is = record { number = number; handle = handle; common = common; rest = rest; refs = refs; form = is }

abbrev pub common_of_plain : {version : Version} {classes : List Class} {body : List ℕ} → HasPlainForm version classes body → HasCommonForm version classes body
common_of_plain has = has_common has.form.form

-- in any common part that it has, what stands after the references is cut into those of the form
pub refs_cut : {version : Version} {classes : List Class} {body : List ℕ} (form : HasCommonForm version classes body) (has : HasPlainForm version classes body) → SpellsToEnd 8 (reference form.handle) has.refs form.after has.form.left
refs_cut form has =
    subst (λ (p : Parts). SpellsToEnd 8 (reference p.handle) has.refs p.after has.form.left) (common_forms_same (common_of_plain has) form)
    (record { prefix = has.form.refs_bits; spelled = has.form.refs_spelled; whole = refl; short = has.form.few })

-- and its kind is known
pub record IsPlainCut {version : Version} {classes : List Class} {body : List ℕ} (form : HasCommonForm version classes body) : Type 0 where
  pub known : kind_under classes form.number ≢ kinds.Unknown
  pub cut : HasCut 8 (reference form.handle) form.after

pub plain_cut : {version : Version} {classes : List Class} {body : List ℕ} (form : HasCommonForm version classes body) → HasPlainForm version classes body → IsPlainCut form
plain_cut {version} {classes} form has = record {
  known = subst (λ (p : Parts). kind_under classes p.number ≢ kinds.Unknown) (common_forms_same (common_of_plain has) form) has.form.known;
  cut = record { values = has.refs; left = has.form.left; cut = refs_cut form has };
}

-- and where that holds, the form is a Plain one
pub plain_of_cut : {version : Version} {classes : List Class} {body : List ℕ} {number handle : ℕ} {common : Common} {rest after left : List Bool} {refs : List Reference} → kind_under classes number ≢ kinds.Unknown
    → CommonForm version classes body number handle common rest after → SpellsToEnd 8 (reference handle) refs after left → PlainForm version classes body number handle common rest refs
plain_of_cut {version} {classes} {body} {number} {handle} {common} {rest} {left = left} known form cut = record {
  known = known;
  refs_bits = cut.prefix;
  left = left;
  form = subst (CommonForm version classes body number handle common rest) cut.whole form;
  refs_spelled = cut.spelled;
  few = cut.short;
}

-- a body is read as one Plain object at the most
pub plain_forms_same : {version : Version} {classes : List Class} {body : List ℕ} (is was : HasPlainForm version classes body)
    → PlainValue is.number is.handle is.common is.rest is.refs ≡ PlainValue was.number was.handle was.common was.rest was.refs
plain_forms_same is was =
    let small = (fits_of_common was.form.form).own in
    let alike = cut_uniquely AnyLetters 8 (reference was.handle) (reference_is_code was.handle small) (reference_least was.handle) is.refs was.refs _ is.form.left was.form.left
    (refs_cut (common_of_plain was) is) (refs_cut (common_of_plain was) was) in
    ap₂ (λ (p : Parts) (refs : List Reference). PlainValue p.number p.handle p.common p.own refs) (common_forms_same (common_of_plain is) (common_of_plain was)) alike.0

-- a kind is unknown or it isn't
unknown_or_not : (kind : Kind) → (kind ≡ kinds.Unknown) ⊎ (kind ≢ kinds.Unknown)
unknown_or_not kinds.Unknown = inl refl
unknown_or_not kind = inr (λ same. cc)

-- a body with a head has a Plain form or has none
pub plain_decided : {version : Version} {classes : List Class} {body : List ℕ} {parts : HeadParts} → HasHead version (bits body) parts → HasPlainForm version classes body ⊎ (HasPlainForm version classes body → ⊥)
plain_decided {version} {classes} {body} begins =
    decided_after (HasPlainForm version classes body) IsPlainCut begins common_of_plain plain_cut (λ form is. has_plain (plain_of_cut is.known form.form is.cut.cut))
    (λ form. match_body form (unknown_or_not (kind_under classes form.number)))
  where
    by_cut : (form : HasCommonForm version classes body) → kind_under classes form.number ≢ kinds.Unknown
        → HasCut 8 (reference form.handle) form.after ⊎ (HasCut 8 (reference form.handle) form.after → ⊥) → IsPlainCut form ⊎ (IsPlainCut form → ⊥)
    by_cut form known (inl cut) = inl (record { known = known; cut = cut })
    by_cut form known (inr none) = inr (λ is. none is.cut)

    match_body : (form : HasCommonForm version classes body) → (kind_under classes form.number ≡ kinds.Unknown) ⊎ (kind_under classes form.number ≢ kinds.Unknown) → IsPlainCut form ⊎ (IsPlainCut form → ⊥)
    match_body form (inl unknown) = inr (λ is. is.known unknown)
    match_body form (inr known) =
        by_cut form known (cut_decided 8 (reference form.handle) form.after (reference_is_code form.handle (fits_of_common form.form).own) (reference_least form.handle) (omega arith))
