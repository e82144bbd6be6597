-- Forms of a body: one object at the most, which is found from its head; and that of a body that is written is the object itself.
use Rattle.std.proofs.Common.{◌≡◌, refl, sym, ◌∙◌, ap, ap₂, subst, ℕ, ◌+◌, ◌^◌, ◌<◌, Bool, List, ◌++◌, length, Option, Some, None, inl, inr, arith}
use Rattle.dwg_base.specs.declared.version.Version.{Version}
use Rattle.std.specs.Prelude.{◌⊎◌}
use Rattle.std.specs.Int.{w16, to_le_bytes}
use Rattle.std.proofs.lemmas.List.{length-append}
use Rattle.dwg_base.specs.Bytes.{AreBytes}
use Rattle.dwg_bits.specs.Bits.{bits}
use Rattle.dwg_bits.specs.Sink.{padding}
use Rattle.dwg_bits.proofs.WholeBytes.{whole_are_bytes}
use Rattle.dwg_check.specs.CheckWord.{CHECK_SEED, check_word}
use Rattle.dwg_classes.specs.declared.class.Class.{Class}
use Rattle.dwg_grammar.specs.ModularCodes.{ms}
use Rattle.dwg_grammar.proofs.ModularLemmas.{ms_is_code, ms_has}
use Rattle.dwg_grammar.proofs.NumberLemmas.{bytes_of_number}
use Rattle.dwg_grammar.specs.ToEnd.{short_all}
use Rattle.dwg_grammar.specs.ReferenceCodes.{reference}
use Rattle.dwg_object.proofs.CommonForms.{head_of_common}
use Rattle.dwg_object.specs.Objects.{HeadParts, ObjectValue, TypedValue, PlainValue, RawValue, number_of, handle_of}
use Rattle.dwg_object.specs.Forms.{HasTypedForm, HasPlainForm, FormOf}
use Rattle.dwg_object.specs.Heads.{head, HasHead, BeginsWithHead}
use Rattle.dwg_object.specs.Written.{own_main, own_refs, object_bits, body_bytes, PartsFit, IsValidObject}
use Rattle.dwg_object.specs.Frames.{frame_bytes}
use Rattle.dwg_object.specs.OwnBodies.{body_kind}
use Rattle.dwg_object.proofs.LengthLemmas.{bytes_joined, length_is_bytes}
use Rattle.dwg_object.proofs.HeadLemmas.{head_begins, begins_head, begins_same, heads_same, head_fits, head_parsed, head_unparsed}
use Rattle.dwg_object.proofs.OwnLaws.{own_narrower}
use Rattle.dwg_object.proofs.PlainLemmas.{has_plain, plain_forms_same, plain_decided}
use Rattle.dwg_object.proofs.PlainWritten.{plain_short, plain_valid, plain_form_written}
use Rattle.dwg_object.proofs.TypedLemmas.{has_typed, typed_forms_same, typed_decided}
use Rattle.dwg_object.proofs.TypedWritten.{typed_short, typed_valid, typed_form_written}
use Rattle.dwg_object.proofs.WrittenLemmas.{common_narrower}
use Rattle.dwg_object.specs.FormLaws.{FormsAreOne, FormsAreValid, FormsHaveHeads, HeadsHaveForms, PartsFitNewer, ValidObjectsAreForms, WrittenFramesAreBytes, WrittenFramesStand}

-- so it is
pub forms_same : FormsAreOne
forms_same version classes body (TypedValue number handle common value) (TypedValue other other_handle other_common other_value) is was = typed_forms_same (has_typed is) (has_typed was)
forms_same version classes body (TypedValue number handle common value) (PlainValue other other_handle other_common other_rest others) is was = absurd (was.1 (has_typed is))
forms_same version classes body (TypedValue number handle common value) (RawValue other other_handle others) is was = absurd (was.2 (has_typed is))
forms_same version classes body (PlainValue number handle common rest refs) (TypedValue other other_handle other_common value) is was = absurd (is.1 (has_typed was))
forms_same version classes body (PlainValue number handle common rest refs) (PlainValue other other_handle other_common other_rest others) is was = plain_forms_same (has_plain is.0) (has_plain was.0)
forms_same version classes body (PlainValue number handle common rest refs) (RawValue other other_handle others) is was = absurd (was.1 (has_plain is.0))
forms_same version classes body (RawValue number handle bytes) (TypedValue other other_handle other_common value) is was = absurd (is.2 (has_typed was))
forms_same version classes body (RawValue number handle bytes) (PlainValue other other_handle other_common other_rest others) is was = absurd (is.1 (has_plain was.0))
forms_same version classes body (RawValue number handle bytes) (RawValue other other_handle others) is was =
    let heads = begins_same version (bits body) number handle other other_handle is.0.begins was.0.begins in
    ap₂ (λ (n h : ℕ). RawValue n h bytes) heads.0 heads.1 ∙ ap (RawValue other other_handle) (is.0.same ∙ sym was.0.same)

-- so it has
pub head_of_form : FormsHaveHeads
head_of_form version classes body (TypedValue number handle common value) is = (_, head_of_common is.form, refl, refl)
head_of_form version classes body (PlainValue number handle common rest refs) is = (_, head_of_common is.0.form, refl, refl)
head_of_form version classes body (RawValue number handle bytes) is = (_, head_begins (bits body) number handle is.0.begins, refl, refl)

-- so it is
pub form_of_head : HeadsHaveForms
form_of_head version classes body parts is = by_typed (typed_decided is)
  where
    of_form : (value : ObjectValue) → FormOf version classes body value → (value : ObjectValue) × FormOf version classes body value × (number_of value ≡ parts.number) × (handle_of value ≡ parts.own)
    of_form value form =
        let has = head_of_form version classes body value form in
        let heads = heads_same (bits body) has.0 parts has.1 is in
        (value, form, has.2 ∙ ap (λ (p : HeadParts). p.number) heads, has.3 ∙ ap (λ (p : HeadParts). p.own) heads)

    by_plain : (HasTypedForm version classes body → ⊥) → HasPlainForm version classes body ⊎ (HasPlainForm version classes body → ⊥)
        → (value : ObjectValue) × FormOf version classes body value × (number_of value ≡ parts.number) × (handle_of value ≡ parts.own)
    by_plain untyped (inl has) = of_form (PlainValue has.number has.handle has.common has.rest has.refs) (has.form, untyped)
    by_plain untyped (inr none) = of_form (RawValue parts.number parts.own body) (record { begins = begins_head (bits body) parts is; same = refl }, none, untyped)

    by_typed : HasTypedForm version classes body ⊎ (HasTypedForm version classes body → ⊥)
        → (value : ObjectValue) × FormOf version classes body value × (number_of value ≡ parts.number) × (handle_of value ≡ parts.own)
    by_typed (inl has) = of_form (TypedValue has.number has.handle has.common has.value) has.form
    by_typed (inr untyped) = by_plain untyped (plain_decided is)

-- the object that a body is read as, by what is parsed of its head
form_found : (version : Version) (classes : List Class) (body : List ℕ) (found : Option (HeadParts × List Bool)) → (head version).parse (bits body) ≡ found → ObjectValue
form_found version classes body None same = RawValue 0 0 body
form_found version classes body (Some (parts, rest)) same = (form_of_head version classes body parts (head_parsed (bits body) rest parts same)).0

-- the object that a body is read as, as a function of its bytes; `drawing_laws` of `dwg_file` pins it by `FormOf`
pub form_at : Version → List Class → List ℕ → ObjectValue
form_at version classes body = form_found version classes body ((head version).parse (bits body)) refl

-- what is so found of a body with a head is its form
found_is_form : (version : Version) (classes : List Class) (body : List ℕ) (parts : HeadParts) → HasHead version (bits body) parts → (found : Option (HeadParts × List Bool)) (same : (head version).parse (bits body) ≡ found)
    → FormOf version classes body (form_found version classes body found same)
unfolding form_found
found_is_form version classes body parts is None same = absurd (head_unparsed (bits body) same parts is)
found_is_form version classes body parts is (Some (reported, rest)) same = (form_of_head version classes body reported (head_parsed (bits body) rest reported same)).1

-- a body with a head is read as that object
pub form_is_at : (version : Version) (classes : List Class) (body : List ℕ) (parts : HeadParts) → HasHead version (bits body) parts → FormOf version classes body (form_at version classes body)
unfolding form_at
form_is_at version classes body parts is = found_is_form version classes body parts is ((head version).parse (bits body)) refl

-- and every object that it is read as is that one
pub form_at_same : (version : Version) (classes : List Class) (body : List ℕ) (value : ObjectValue) → FormOf version classes body value → form_at version classes body ≡ value
form_at_same version classes body value is =
    let has = head_of_form version classes body value is in
    forms_same version classes body (form_at version classes body) value (form_is_at version classes body has.0 has.1) is

-- so it is
pub form_is_valid : FormsAreValid
form_is_valid version classes body (TypedValue number handle common value) are small is =
    let short = typed_short is in
    ((typed_valid is, omega (arith, short, small)), short)
form_is_valid version classes body (PlainValue number handle common rest refs) are small is =
    let short = plain_short is.0 in
    ((plain_valid small is.0 is.1, omega (arith, short, small)), short)
form_is_valid version classes body (RawValue number handle bytes) are small is =
    let fits = head_fits (bits body) _ (head_begins (bits body) number handle is.0.begins) in
    let same : body ≡ bytes = sym is.0.same in (
      (
        record {
          whole = fits.positive;
          are = subst AreBytes same are;
          begins = subst (λ (b : List ℕ). BeginsWithHead version (bits b) number handle) same is.0.begins;
          unplain = subst (λ (b : List ℕ). HasPlainForm version classes b → ⊥) same is.1;
          untyped = subst (λ (b : List ℕ). HasTypedForm version classes b → ⊥) same is.2;
        },
        subst (λ (b : List ℕ). length b < 2 ^ 29) same small,
      ),
      omega (arith, ap length same),
    )

-- so it is
pub valid_is_form : ValidObjectsAreForms
valid_is_form version classes (TypedValue number handle common value) is = typed_form_written version classes number handle common value is.0 is.1
valid_is_form version classes (PlainValue number handle common rest refs) is = (plain_form_written version classes number handle common rest refs is.0 is.1, is.0.untyped)
valid_is_form version classes (RawValue number handle bytes) is = (record { begins = is.0.begins; same = refl }, is.0.unplain, is.0.untyped)

-- the parts of a valid object fit, and its body are fewer than 2^29 bytes
pub valid_fits : (version : Version) (classes : List Class) (value : ObjectValue) → IsValidObject version classes value → PartsFit version value × AreBytes (body_bytes version value) × (length (body_bytes version value) < 2 ^ 29)
valid_fits version classes (TypedValue number handle common value) is =
    let letters : List Bool = object_bits version number handle common (own_main version handle value) (own_refs version handle value) in
    (is.0.fits, whole_are_bytes (letters ++ padding letters), is.1)
valid_fits version classes (PlainValue number handle common rest refs) is =
    let letters : List Bool = object_bits version number handle common rest (short_all (reference handle) refs) in
    (is.0.fits, whole_are_bytes (letters ++ padding letters), is.1)
valid_fits version classes (RawValue number handle bytes) is = (is.0.whole, is.0.are, is.1)

-- and its handle isn't null and below 2^63
pub valid_handle : (version : Version) (classes : List Class) (value : ObjectValue) → IsValidObject version classes value → (0 < handle_of value) × (handle_of value < 2 ^ 63)
valid_handle version classes (TypedValue number handle common value) is = (is.0.whole.0.0, is.0.handle_fits)
valid_handle version classes (PlainValue number handle common rest refs) is = (is.0.whole.0, is.0.handle_fits)
valid_handle version classes (RawValue number handle bytes) is =
    let fits = head_fits (bits bytes) _ (head_begins (bits bytes) number handle is.0.begins) in
    (fits.positive, fits.own)

-- the length of a frame as it is written
pub length_of_frame : (version : Version) (value : ObjectValue) → length (frame_bytes version value) ≡ length (ms.short (length (body_bytes version value))) + length (body_bytes version value) + 2
unfolding frame_bytes
length_of_frame version value =
    let body : List ℕ = body_bytes version value in
    let size : List ℕ = ms.short (length body) in
    length-append (size ++ body) (to_le_bytes w16 (check_word CHECK_SEED (size ++ body))) ∙ ap (λ n. n + 2) (length-append size body)

-- so they do
pub parts_narrower : PartsFitNewer
parts_narrower version (TypedValue number handle common value) fits = (fits.0, common_narrower version handle common fits.1, own_narrower version (body_kind value) handle value fits.2)
parts_narrower version (PlainValue number handle common rest refs) fits = (fits.0, common_narrower version handle common fits.1, fits.2)
parts_narrower version (RawValue number handle bytes) fits = fits

-- so it is
pub written_frame : WrittenFramesStand
unfolding frame_bytes
written_frame version bytes place value small stands = record {
  size = ms.short (length (body_bytes version value));
  spelled = ms_is_code.canonical (length (body_bytes version value)) (ms_has (length (body_bytes version value)) (omega arith));
  stands = stands;
  ends = omega (arith, length_of_frame version value);
}

-- so they are
pub frame_is_bytes : WrittenFramesAreBytes
unfolding frame_bytes
frame_is_bytes version value are small =
    let body : List ℕ = body_bytes version value in
    let size : List ℕ = ms.short (length body) in
    bytes_joined (size ++ body) (to_le_bytes w16 (check_word CHECK_SEED (size ++ body))) (bytes_joined size body (length_is_bytes (length body) (omega arith)) are)
    (bytes_of_number 0 2 (check_word CHECK_SEED (size ++ body)))
