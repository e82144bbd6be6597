-- Plain objects as they are written: what is read is written no longer, and what is written is read again, with no stronger form.
use Rattle.std.proofs.Common.{◌≡◌, ◌≢◌, sym, ◌∙◌, subst, ℕ, ◌^◌, ◌<◌, ◌≤◌, Bool, List, ◌++◌, length, arith}
use Rattle.dwg_base.specs.declared.version.Version.{Version}
use Rattle.std.proofs.lemmas.List.{append-nil, length-append}
use Rattle.dwg_bits.proofs.PaddingLaw.{padding_fills}
use Rattle.dwg_bits.specs.Sink.{padding}
use Rattle.dwg_classes.specs.declared.class.Class.{Class}
use Rattle.dwg_grammar.specs.Grammar.{AnyLetters}
use Rattle.dwg_grammar.specs.ToEnd.{SpellsAll, SpellsToEnd, AreValues, short_all}
use Rattle.dwg_grammar.proofs.ToEndLemmas.{value_all, canonical_all, least_all, cut_uniquely}
use Rattle.dwg_grammar.specs.Reference.{Reference}
use Rattle.dwg_grammar.specs.ReferenceCodes.{reference}
use Rattle.dwg_grammar.proofs.ReferenceLemmas.{reference_is_code, reference_least}
use Rattle.dwg_kinds.specs.Kinds.{is_entity_kind}
use Rattle.dwg_kinds.specs.declared.kind.Kind.{Kind}
use Rattle.dwg_kinds.specs.declared.kind.Kind.TheVariants.{Unknown}
use Rattle.dwg_object.specs.declared.common.Common.{Common}
use Rattle.dwg_object.proofs.CommonForms.{fits_of_common}
use Rattle.dwg_object.specs.Forms.{HasTypedForm, PlainForm, kind_under}
use Rattle.dwg_object.specs.Objects.{PlainValue, is_of_entity}
use Rattle.dwg_object.specs.OwnBodies.{own_body}
use Rattle.dwg_object.proofs.OwnLaws.{own_is_body}
use Rattle.dwg_object.proofs.PlainLemmas.{has_plain, common_of_plain, refs_cut}
use Rattle.dwg_object.proofs.TypedLemmas.{own_of_typed, has_typed}
use Rattle.dwg_object.specs.Written.{object_bits, body_bytes, IsValidPlain}
use Rattle.dwg_object.proofs.WrittenLemmas.{AreWritten, object_short, common_fits, common_form_written, common_narrower}

-- what is read as a Plain object is written by no more bytes
pub plain_short : {version : Version} {classes : List Class} {body : List ℕ} {number handle : ℕ} {common : Common} {rest : List Bool} {refs : List Reference}
    → PlainForm version classes body number handle common rest refs → length (body_bytes version (PlainValue number handle common rest refs)) ≤ length body
plain_short {version} {handle = handle} {rest = rest} {refs = refs} is =
    let code = reference_is_code handle (fits_of_common is.form).own in
    object_short rest (short_all (reference handle) refs) is.form (omega arith)
    (omega (arith, least_all AnyLetters (reference handle) refs is.refs_bits code is.refs_spelled, length-append is.refs_bits is.left))

-- what is written of an object by a common part, bits and references has the Plain form of it
pub plain_written : (version : Version) (classes : List Class) (number handle : ℕ) (common : Common) (rest : List Bool) (refs : List Reference) → AreWritten version number handle common
    → kind_under classes number ≢ Unknown → is_of_entity common ≡ is_entity_kind (kind_under classes number) → AreValues (reference handle) refs
    → length (body_bytes version (PlainValue number handle common rest refs)) < 2 ^ 29 → PlainForm version classes (body_bytes version (PlainValue number handle common rest refs)) number handle common rest refs
plain_written version classes number handle common rest refs are known entity values small =
    let names : List Bool = short_all (reference handle) refs in
    let letters : List Bool = object_bits version number handle common rest names in
    record {
      known = known;
      refs_bits = names;
      left = padding letters;
      form = common_form_written version classes number handle common rest names are entity small;
      refs_spelled = canonical_all AnyLetters (reference handle) refs (reference_is_code handle are.handle_fits) values;
      few = (padding_fills letters).1;
    }

-- where other references spell the own references of a Plain object that are those of a Typed form, the object has a Typed form: so it had one before it was written, where it has one as it is written
plain_stays_plain : {version : Version} {classes : List Class} {body other : List ℕ} {number handle : ℕ} {common : Common} {rest : List Bool} {refs : List Reference}
    → PlainForm version classes body number handle common rest refs → PlainForm version classes other number handle common rest refs → HasTypedForm version classes other → HasTypedForm version classes body
plain_stays_plain {version} {classes} {number = number} {handle = handle} {common = common} {rest = rest} {refs = refs} is was has =
    let kind : Kind = kind_under classes number in
    let form = common_of_plain (has_plain was) in
    let are = own_of_typed form has in
    let own_refs : List Bool = are.begins.reference_prefix in
    let left : List Bool = has.form.left in
    let small = (fits_of_common was.form).own in
    let part = own_is_body version kind handle small in
    let spelled : (own_body version kind handle).Spells has.value rest own_refs (length left) =
    subst (λ (own : List Bool). (own_body version kind handle).Spells has.value own own_refs (length left)) (sym (are.begins.main_whole ∙ append-nil are.begins.main_prefix)) are.begins.spelled in
    let names : List Reference = (own_body version kind handle).references has.value in
    let named : SpellsToEnd 8 (reference handle) names (was.refs_bits ++ was.left) left =
    record { prefix = own_refs; spelled = part.listed has.value rest own_refs (length left) spelled; whole = are.begins.references_whole; short = are.few } in
    let same : names ≡ refs =
    (cut_uniquely AnyLetters 8 (reference handle) (reference_is_code handle small) (reference_least handle) names refs (was.refs_bits ++ was.left) left was.left
    named (refs_cut form (has_plain was))).0 in
    has_typed (record {
      own = rest;
      own_refs = is.refs_bits;
      left = is.left;
      form = is.form;
      own_spelled =
          part.respelled has.value rest own_refs is.refs_bits (length left) (length is.left) spelled
          (subst (λ (some : List Reference). SpellsAll (reference handle) some is.refs_bits) (sym same) is.refs_spelled)
          (part.padded (length is.left) is.few);
      few = is.few;
    })

-- what is read as a Plain object, and has no stronger form, can be written
pub plain_valid : {version : Version} {classes : List Class} {body : List ℕ} {number handle : ℕ} {common : Common} {rest : List Bool} {refs : List Reference}
    → length body < 2 ^ 29 → PlainForm version classes body number handle common rest refs → (HasTypedForm version classes body → ⊥) → IsValidPlain version classes number handle common rest refs
plain_valid {version} {classes} {number = number} {handle = handle} {common = common} {rest = rest} {refs = refs} small is untyped =
    let head_fits = fits_of_common is.form in
    let fitting = common_fits is.form in
    let values = value_all AnyLetters (reference handle) refs is.refs_bits (reference_is_code handle head_fits.own) is.refs_spelled in
    let are : AreWritten version number handle common =
    record { number_fits = head_fits.number; positive = head_fits.positive; handle_fits = head_fits.own; common_fits = fitting.fits } in
    let short = plain_short is in
    let written = plain_written version classes number handle common rest refs are is.known fitting.same values (omega (arith, short, small)) in
    record {
      whole = (head_fits.positive, common_narrower version handle common fitting.fits, values);
      fits = (head_fits.positive, fitting.fits, values);
      number_fits = head_fits.number;
      handle_fits = head_fits.own;
      known = is.known;
      entity = fitting.same;
      untyped = λ typed. untyped (plain_stays_plain is written typed);
    }

-- what is written of a valid one has the Plain form of it
pub plain_form_written : (version : Version) (classes : List Class) (number handle : ℕ) (common : Common) (rest : List Bool) (refs : List Reference)
    → IsValidPlain version classes number handle common rest refs → length (body_bytes version (PlainValue number handle common rest refs)) < 2 ^ 29
    → PlainForm version classes (body_bytes version (PlainValue number handle common rest refs)) number handle common rest refs
plain_form_written version classes number handle common rest refs is small =
    plain_written version classes number handle common rest refs
    (record { number_fits = is.number_fits; positive = is.fits.0; handle_fits = is.handle_fits; common_fits = is.fits.1 }) is.known is.entity is.fits.2 small
