-- Typed objects as they are written: what is read is valid and written no longer, and what is written is read again.
use Rattle.std.proofs.Common.{◌≡◌, sym, subst, ℕ, ◌^◌, ◌<◌, ◌≤◌, Bool, List, length, arith}
use Rattle.dwg_base.specs.declared.version.Version.{Version}
use Rattle.std.proofs.lemmas.List.{length-append}
use Rattle.dwg_bits.proofs.PaddingLaw.{padding_fills}
use Rattle.dwg_bits.specs.Sink.{padding}
use Rattle.dwg_classes.specs.declared.class.Class.{Class}
use Rattle.dwg_kinds.specs.Kinds.{is_entity_kind}
use Rattle.dwg_kinds.specs.declared.kind.Kind.{Kind}
use Rattle.dwg_object.specs.declared.body.Body.{Body}
use Rattle.dwg_object.specs.declared.common.Common.{Common}
use Rattle.dwg_object.proofs.CommonForms.{fits_of_common}
use Rattle.dwg_object.specs.Forms.{TypedForm, kind_under}
use Rattle.dwg_object.specs.Objects.{TypedValue, is_of_entity}
use Rattle.dwg_object.specs.OwnBodies.{body_kind, own_body}
use Rattle.dwg_object.proofs.OwnLaws.{own_is_body, own_narrower, own_of_kind}
use Rattle.dwg_object.specs.Written.{own_main, own_refs, object_bits, body_bytes, IsValidTyped}
use Rattle.dwg_object.proofs.WrittenLemmas.{object_short, common_fits, common_form_written, common_narrower}

-- the body of a Typed form is of the kind of its number
kind_of_form : {version : Version} {classes : List Class} {body : List ℕ} {number handle : ℕ} {common : Common} {value : Body} → TypedForm version classes body number handle common value → body_kind value ≡ kind_under classes number
kind_of_form {version} {classes} {number = number} {handle = handle} {value = value} is = own_of_kind version (kind_under classes number) handle value is.own is.own_refs (length is.left) is.own_spelled

-- what is read as a Typed object is written by no more bytes
pub typed_short : {version : Version} {classes : List Class} {body : List ℕ} {number handle : ℕ} {common : Common} {value : Body}
    → TypedForm version classes body number handle common value → length (body_bytes version (TypedValue number handle common value)) ≤ length body
typed_short {version} {classes} {number = number} {handle = handle} {value = value} is =
    let same = sym (kind_of_form is) in
    let part = own_is_body version (kind_under classes number) handle (fits_of_common is.form).own in
    let main : length (own_main version handle value) ≤ length is.own =
    subst (λ (k : Kind). length ((own_body version k handle).short_main value) ≤ length is.own) same (part.least_main value is.own is.own_refs (length is.left) is.own_spelled) in
    let refs : length (own_refs version handle value) ≤ length is.own_refs =
    subst (λ (k : Kind). length ((own_body version k handle).short_references value) ≤ length is.own_refs) same (part.least_references value is.own is.own_refs (length is.left) is.own_spelled) in
    object_short (own_main version handle value) (own_refs version handle value) is.form main (omega (arith, refs, length-append is.own_refs is.left))

-- and it can be written
pub typed_valid : {version : Version} {classes : List Class} {body : List ℕ} {number handle : ℕ} {common : Common} {value : Body}
    → TypedForm version classes body number handle common value → IsValidTyped version classes number handle common value
typed_valid {version} {classes} {number = number} {handle = handle} {common = common} {value = value} is =
    let same = sym (kind_of_form is) in
    let head_fits = fits_of_common is.form in
    let fitting = common_fits is.form in
    let part = own_is_body version (kind_under classes number) handle head_fits.own in
    let own_fits = part.value value is.own is.own_refs (length is.left) is.own_spelled in
    record {
      whole = (
        (head_fits.positive, common_narrower version handle common fitting.fits, own_narrower version (body_kind value) handle value (subst (λ (k : Kind). (own_body version k handle).Fits value) same own_fits)),
        subst (λ (k : Kind). is_of_entity common ≡ is_entity_kind k) same fitting.same,
      );
      fits = (head_fits.positive, fitting.fits, subst (λ (k : Kind). (own_body version k handle).Fits value) same own_fits);
      number_fits = head_fits.number;
      handle_fits = head_fits.own;
      kind = same;
    }

-- what is written of a valid one has the Typed form of it
pub typed_form_written : (version : Version) (classes : List Class) (number handle : ℕ) (common : Common) (value : Body)
    → IsValidTyped version classes number handle common value → length (body_bytes version (TypedValue number handle common value)) < 2 ^ 29
    → TypedForm version classes (body_bytes version (TypedValue number handle common value)) number handle common value
typed_form_written version classes number handle common value is small =
    let own : List Bool = own_main version handle value in
    let refs : List Bool = own_refs version handle value in
    let fill : List Bool = padding (object_bits version number handle common own refs) in
    let few = (padding_fills (object_bits version number handle common own refs)).1 in
    let part = own_is_body version (body_kind value) handle is.handle_fits in
    record {
      own = own;
      own_refs = refs;
      left = fill;
      form =
          common_form_written version classes number handle common own refs
          (record { number_fits = is.number_fits; positive = is.fits.0; handle_fits = is.handle_fits; common_fits = is.fits.1 })
          (subst (λ (k : Kind). is_of_entity common ≡ is_entity_kind k) (sym is.kind) is.whole.1) small;
      own_spelled =
          subst (λ (k : Kind). (own_body version k handle).Spells value own refs (length fill)) (sym is.kind)
          (part.canonical value (length fill) is.fits.2 (part.padded (length fill) few));
      few = few;
    }
