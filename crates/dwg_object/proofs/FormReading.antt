-- Reading a body in its forms, by its head, its common part and what stands after it.
use Rattle.std.proofs.Common.{◌≡◌, refl, sym, ◌∙◌, ap, ap₂, subst, ℕ, ◌*◌, ◌≤◌, Bool, List, ◌++◌, length, Some, None, inl, inr, arith}
use Rattle.dwg_base.specs.declared.version.Version.{Version}
use Rattle.std.specs.Prelude.{◌⊎◌}
use Rattle.dwg_bits.specs.Bits.{bits}
use Rattle.dwg_bits.proofs.BitLaws.{bits_between_all, bits_between_joined, length_of_bits, length_of_bits_between}
use Rattle.dwg_bits.specs.Cursor.{bits_between, rest}
use Rattle.dwg_bits.specs.declared.cursor.BitCursor.{BitCursor}
use Rattle.dwg_classes.specs.declared.class.Class.{Class}
use Rattle.dwg_common.specs.BitSizes.{ReadsSize, SpellsSize}
use Rattle.dwg_grammar.specs.ToEnd.{ReadsToEnd}
use Rattle.dwg_grammar.specs.Reference.{Reference}
use Rattle.dwg_grammar.specs.ReferenceCodes.{reference}
use Rattle.dwg_kinds.specs.declared.kind.Kind.{Kind}
use Rattle.dwg_kinds.specs.declared.kind.Kind.TheVariants.{Unknown}
use Rattle.dwg_object.proofs.CommonForms.{AreParted, entity_under, cut_between, same_prefixes, size_of_common, unsized}
use Rattle.dwg_object.specs.Forms.{HasCommonForm, HasTypedForm, HasPlainForm, HasSize, kind_under}
use Rattle.dwg_object.specs.Heads.{IsHeadAt}
use Rattle.dwg_object.proofs.HeadReading.{head_within}
use Rattle.dwg_object.specs.Objects.{HeadParts}
use Rattle.dwg_object.proofs.PlainLemmas.{plain_cut}
use Rattle.dwg_object.specs.OwnBits.{HasOwn}
use Rattle.dwg_object.proofs.TypedLemmas.{typed_own}

-- what is left for a cursor between two places
between_same : (bytes others : List ℕ) (from other_from to other_to : ℕ) → bytes ≡ others → from ≡ other_from → to ≡ other_to → bits_between bytes from to ≡ bits_between others other_from other_to
between_same bytes others from other_from to other_to a b c = ap (λ (all : List ℕ). bits_between all from to) a ∙ ap₂ (bits_between others) b c

pub rest_between : (cursor : BitCursor) (body : List ℕ) (from to : ℕ) → cursor.bytes.now ≡ body → cursor.place ≡ from → cursor.end ≡ to → rest cursor ≡ bits_between body from to
rest_between cursor body from to same begins ends = between_same cursor.bytes.now body cursor.place from cursor.end to same begins ends

-- a body is cut for cursors that stand after its head and at its bit size
pub cut_of_cursors : {version : Version} {classes : List Class} (body : List ℕ) {parts : HeadParts} {at : ℕ} (size end : ℕ) (main references : BitCursor) (is : IsHeadAt version (bits body) parts at)
    → HasSize version (entity_under classes parts) parts size is.has.rest → at ≤ size → size ≤ end → end ≡ 8 * length body
    → main.bytes.now ≡ body → main.place ≡ at → main.end ≡ size → references.bytes.now ≡ body → references.place ≡ size → references.end ≡ end
    → AreParted version classes (bits body) parts size (rest main) (rest references)
cut_of_cursors {version} {classes} body {parts} {at} size end main references is reported after within whole main_bytes main_place main_end bytes place to =
    let cut = cut_between body size end is reported after within whole in
    let same_main : rest main ≡ bits_between body at size = between_same main.bytes.now body main.place at main.end size main_bytes main_place main_end in
    let same : rest references ≡ bits_between body size end = between_same references.bytes.now body references.place size references.end end bytes place to in
    subst (λ (m : List Bool). AreParted version classes (bits body) parts size m (rest references)) (sym same_main) (subst (λ (r : List Bool). AreParted version classes (bits body) parts size (bits_between body at size) r) (sym same) cut)

-- the bits after a head are those from its end on
rest_after : {version : Version} (body : List ℕ) {parts : HeadParts} {at : ℕ} (is : IsHeadAt version (bits body) parts at) → is.has.rest ≡ bits_between body at (8 * length body)
rest_after body {parts} {at} is =
    let end : ℕ = 8 * length body in
    let within : at ≤ end = head_within body parts at is in
    let all : bits body ≡ bits_between body 0 at ++ bits_between body at end =
    sym (bits_between_all body end refl) ∙ sym (bits_between_joined body 0 at end (omega arith) within) in
    let long : length (bits_between body 0 at) ≡ at = omega (arith, length_of_bits_between body 0 at (omega (arith, within))) in
    (same_prefixes is.has.prefix is.has.rest (bits_between body 0 at) (bits_between body at end) (sym is.has.whole ∙ all) (is.far ∙ sym long)).1

-- a size that they report of an entity, or of another object, is reported where the object is one
pub reported_after : {version : Version} (classes : List Class) (body : List ℕ) {parts : HeadParts} {at : ℕ} (entity : Bool) (size : ℕ) (is : IsHeadAt version (bits body) parts at)
    → entity ≡ entity_under classes parts → HasSize version entity parts size (bits_between body at (8 * length body)) → HasSize version (entity_under classes parts) parts size is.has.rest
reported_after {version} classes body {parts} {at} entity size is same reported =
    subst (λ (e : Bool). HasSize version e parts size is.has.rest) same (subst (λ (after : List Bool). HasSize version entity parts size after) (sym (rest_after body is)) reported)

-- where they report none, the body isn't cut into parts
pub unreported : {version : Version} {classes : List Class} (body : List ℕ) {parts : HeadParts} {at : ℕ} (entity : Bool) → IsHeadAt version (bits body) parts at → entity ≡ entity_under classes parts
    → ((size : ℕ) → HasSize version entity parts size (bits_between body at (8 * length body)) → ⊥) → HasCommonForm version classes body → ⊥
unreported {version} {classes} body {parts} {at} entity is same none =
    unsized is.has (λ size reported. none size (subst (λ (after : List Bool). HasSize version entity parts size after) (rest_after body is) (subst (λ (e : Bool). HasSize version e parts size is.has.rest) (sym same) reported)))

-- what was read of a size after a head is what is reported there
pub size_spelled : (entity : Bool) (base size : ℕ) (main left all : List Bool) → main ≡ all → ReadsSize entity base (Some size) main left → SpellsSize entity base size all
size_spelled entity base size main left all same read = record { prefix = read.0; after = left; spelled = read.1; whole = sym same ∙ read.2 }

pub size_unspelled : (entity : Bool) (base : ℕ) (main left all : List Bool) → main ≡ all → ReadsSize entity base None main left → (size : ℕ) → SpellsSize entity base size all → ⊥
size_unspelled entity base main left all same read size is = read.0 size (subst (SpellsSize entity base size) (sym same) is)

-- a body whose bit size is within its head or past its end isn't cut into parts
pub size_unread : {version : Version} {classes : List Class} {body : List ℕ} {parts : HeadParts} {at : ℕ} (size : ℕ) (is : IsHeadAt version (bits body) parts at) → HasSize version (entity_under classes parts) parts size is.has.rest
    → (at ≤ size → size ≤ 8 * length body → ⊥) → HasCommonForm version classes body → ⊥
size_unread {body = body} size is reported outside form =
    let within = size_of_common (record { has = is.has; reported = reported }) form in
    outside (omega (arith, is.far, within.after)) (omega (arith, within.within, length_of_bits body))

-- one whose own bits and own references aren't those of its kind has no Typed form
pub untyped : {version : Version} {classes : List Class} {body : List ℕ} {kind : Kind} (form : HasCommonForm version classes body) → kind ≡ kind_under classes form.number → (HasOwn version kind form.handle form.own form.after → ⊥)
    → HasTypedForm version classes body → ⊥
untyped {version} form same none typed = none (subst (λ (k : Kind). HasOwn version k form.handle form.own form.after) (sym same) (typed_own form typed))

-- one whose kind is unknown, or in which no references stand after those of the common part, has no Plain form
pub unread_rest : {version : Version} {classes : List Class} {body : List ℕ} {kind : Kind} (form : HasCommonForm version classes body) → kind ≡ kind_under classes form.number
    → (kind ≡ Unknown) ⊎ ((left : List Bool) × ReadsToEnd {V = Reference} 8 (reference form.handle) None form.after left) → HasPlainForm version classes body → ⊥
unread_rest form same (inl unknown) plain = (plain_cut form plain).known (sym same ∙ unknown)
unread_rest form same (inr unread) plain = let cut = (plain_cut form plain).cut in unread.1.0 cut.values cut.left cut.cut
