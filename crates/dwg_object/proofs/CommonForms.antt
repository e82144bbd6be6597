-- Common parts in bodies: a body is cut in one way at the most into head, common part, own bits and references, and whether it is so cut follows from its bits.
use Rattle.std.proofs.Common.{◌≡◌, refl, sym, ◌∙◌, ap, ap₂, subst, ℕ, ◌*◌, ◌^◌, ◌<◌, ◌≤◌, Bool, true, false, List, ◌++◌, length, take, Option, Some, None, inl, inr, arith}
use Rattle.dwg_base.specs.declared.version.Version.{Version}
use Rattle.dwg_base.specs.declared.version.Version.TheVariants.{Ac1014, Ac1015}
use Rattle.std.specs.Prelude.{◌⊎◌, nat_lt}
use Rattle.std.proofs.lemmas.Bool.Decides.{nat_tests}
use Rattle.std.proofs.lemmas.List.{append_assoc, append_cancel_left, length-append, take_at}
use Rattle.std.proofs.lemmas.Option.{none-some}
use Rattle.dwg_common.specs.BitSizes.{SpellsSize, sized_prefix}
use Rattle.dwg_common.specs.declared.app_data.AppData.{AppData}
use Rattle.dwg_common.specs.declared.bit_layout.Layout.{Layout}
use Rattle.dwg_common.proofs.SizeLemmas.{entity_spells_size, object_spells_size, one_size, sized_prefix_is_code}
use Rattle.dwg_bits.specs.Bits.{bits}
use Rattle.dwg_bits.specs.Cursor.{bits_between}
use Rattle.dwg_bits.proofs.BitLaws.{bits_between_all, bits_between_joined, length_of_bits, length_of_bits_between}
use Rattle.dwg_classes.specs.declared.class.Class.{Class}
use Rattle.dwg_grammar.proofs.CodeLemmas.{unique_of_code, reads_none}
use Rattle.dwg_grammar.proofs.NumberLemmas.{rl_is_code}
use Rattle.dwg_grammar.specs.Grammar.{AnyLetters}
use Rattle.dwg_grammar.specs.Bodies.{BodyGrammar, BeginsWithBody, IsBody}
use Rattle.dwg_grammar.proofs.BodyLemmas.{begins_parsed, unique_body}
use Rattle.dwg_common.specs.CommonLaws.{entity_is_body, object_is_body}
use Rattle.dwg_common.specs.Entities.{entity_common}
use Rattle.dwg_grammar.proofs.MadeBodies.{variant_is_body}
use Rattle.dwg_common.specs.NonEntities.{object_common}
use Rattle.dwg_kinds.specs.Kinds.{is_entity_kind}
use Rattle.dwg_object.specs.declared.common.Common.{Common}
use Rattle.dwg_object.specs.Objects.{HeadParts, is_of_entity}
use Rattle.dwg_object.specs.Forms.{CommonForm, HasCommonForm, HasSize, kind_under, common_part, layout_in}
use Rattle.dwg_object.specs.Heads.{head, HasHead, IsHead, IsHeadAt, size_given}
use Rattle.dwg_object.proofs.HeadLemmas.{head_is_code, size_small}

-- nothing begins with a body where none is parsed
pub none_begins : {V : Type 0} (base : ℕ) (body : BodyGrammar V) (main references : List Bool) → IsBody base body → body.parse main references ≡ None
    → (value : V) (main_after references_after : List Bool) → BeginsWithBody body value main main_after references references_after → ⊥
none_begins {V} base body main references is none value main_after references_after begins =
    none-some {A = V × (List Bool × List Bool)} (value, (main_after, references_after))
    (sym none ∙ begins_parsed base body value main main_after references references_after is begins)

-- the layout of a bit size of an RL has one
pub layout_small : (version : Version) (size : ℕ) → size < 2 ^ 32 → (layout_in version size).size < 2 ^ 32
layout_small Ac1014 size small = small
layout_small Ac1015 size small = omega arith

-- the common part of an object is a body
pub common_is_body : (layout : Layout) (entity : Bool) (base : ℕ) → layout.size < 2 ^ 32 → base < 2 ^ 63 → IsBody base (common_part layout entity base)
common_is_body layout true base few small = variant_is_body base _ _ _ (entity_is_body layout base few small) (λ common. refl)
common_is_body layout false base few small = variant_is_body base _ _ _ (object_is_body layout base few small) (λ common. refl)

-- what is spelled of an entity is an entity's
pub common_of_entity : (layout : Layout) (entity : Bool) (base : ℕ) (common : Common) (main references : List Bool) (over : ℕ)
    → (common_part layout entity base).Spells common main references over → is_of_entity common ≡ entity
common_of_entity layout true base common main references over spelled = ap is_of_entity spelled.1
common_of_entity layout false base common main references over spelled = ap is_of_entity spelled.1

-- any count of bits may follow a common part
pub common_may_follow : (layout : Layout) (entity : Bool) (base over : ℕ) → (common_part layout entity base).MayFollow over
unfolding entity_common object_common
common_may_follow layout true base over = tt
common_may_follow layout false base over = tt

-- whether the object of a head is an entity under the classes of its drawing
abbrev pub entity_under : List Class → HeadParts → Bool
entity_under classes parts = is_entity_kind (kind_under classes parts.number)

-- a spelled size is one of an RL
pub spelled_small : (entity : Bool) (base size : ℕ) (main : List Bool) → SpellsSize entity base size main → size < 2 ^ 32
spelled_small entity base size main is = rl_is_code.value _ size is.spelled.2.3.3

-- main bits that begin so with more after them report the size too
further : (entity : Bool) (base size : ℕ) (main more : List Bool) → SpellsSize entity base size main → SpellsSize entity base size (main ++ more)
further entity base size main more is = record {
  prefix = is.prefix;
  after = is.after ++ more;
  spelled = is.spelled;
  whole = ap (λ (l : List Bool). l ++ more) is.whole ∙ append_assoc is.prefix is.after more;
}

-- the bits of a body, cut after its head and at its bit size
pub record AreParted (version : Version) (classes : List Class) (letters : List Bool) (parts : HeadParts) (size : ℕ) (main references : List Bool) : Type 0 where
  pub prefix : List Bool
  pub spelled : (head version).Spells parts prefix
  pub reported : HasSize version (entity_under classes parts) parts size (main ++ references)
  pub whole : letters ≡ (prefix ++ main) ++ references
  pub filled : length (prefix ++ main) ≡ size

-- lists that begin alike and have as many letters before are joined of the same
pub same_prefixes : {A : Type 0} (prefix back other other_back : List A) → prefix ++ back ≡ other ++ other_back → length prefix ≡ length other → (prefix ≡ other) × (back ≡ other_back)
same_prefixes {A} prefix back other other_back same long =
    let prefixes : prefix ≡ other =
    sym (take_at prefix back (length prefix) refl) ∙ ap₂ (λ (n : ℕ) (all : List A). take n all) long same ∙ take_at other other_back (length other) refl in
    (prefixes, append_cancel_left prefix back other_back (same ∙ ap (λ first. first ++ other_back) (sym prefixes)))

-- bits have one head, and after it one bit size is reported
pub record IsSized (version : Version) (classes : List Class) (letters : List Bool) (parts : HeadParts) (size : ℕ) : Type 0 where
  pub has : HasHead version letters parts
  pub reported : HasSize version (entity_under classes parts) parts size has.rest

reported_same : (version : Version) (entity : Bool) (parts : HeadParts) (size other : ℕ) (after : List Bool) → parts.own < 2 ^ 63 → HasSize version entity parts size after → HasSize version entity parts other after
    → size ≡ other
reported_same Ac1014 entity parts size other after small is was = one_size entity parts.own size other after small is was
reported_same Ac1015 entity parts size other after small is was = is ∙ sym was

own_of_head : {version : Version} {letters : List Bool} {parts : HeadParts} → HasHead version letters parts → parts.own < 2 ^ 63
unfolding head
own_of_head {version} is = let fits : IsHead version _ = (head_is_code version).value is.prefix _ is.spelled in fits.own

-- so there is one
pub sized_same : {version : Version} {classes : List Class} {letters : List Bool} {parts other : HeadParts} {size other_size : ℕ} (is : IsSized version classes letters parts size) (was : IsSized version classes letters other other_size)
    → (parts ≡ other) × (size ≡ other_size) × (is.has.prefix ≡ was.has.prefix)
sized_same {version} {classes} {letters} {parts} {other} {size} {other_size} is was =
    let joined : is.has.prefix ++ is.has.rest ≡ was.has.prefix ++ was.has.rest = sym is.has.whole ∙ was.has.whole in
    let heads = unique_of_code AnyLetters (head version) (head_is_code version) parts other is.has.prefix was.has.prefix is.has.rest was.has.rest is.has.spelled was.has.spelled joined in
    let rests : is.has.rest ≡ was.has.rest = append_cancel_left is.has.prefix is.has.rest was.has.rest (joined ∙ ap (λ (first : List Bool). first ++ was.has.rest) (sym heads.1)) in
    let reported : HasSize version (entity_under classes other) other size was.has.rest =
    subst (λ (rest : List Bool). HasSize version (entity_under classes other) other size rest) rests
    (subst (λ (p : HeadParts). HasSize version (entity_under classes p) p size is.has.rest) heads.0 is.reported) in
    (heads.0, reported_same version (entity_under classes other) other size other_size was.has.rest (own_of_head was.has) reported was.reported, heads.1)

-- a body that is cut has its head and reports its size
sized_cut : {version : Version} {classes : List Class} {letters : List Bool} {parts : HeadParts} {size : ℕ} {main references : List Bool} → AreParted version classes letters parts size main references
    → IsSized version classes letters parts size
sized_cut {main = main} {references = references} cut = record {
  has = record { prefix = cut.prefix; rest = main ++ references; spelled = cut.spelled; whole = cut.whole ∙ append_assoc cut.prefix main references };
  reported = cut.reported;
}

-- a body is cut at the place after its head and at its bit size
pub cut_between : {version : Version} {classes : List Class} (body : List ℕ) {parts : HeadParts} {at : ℕ} (size end : ℕ) (is : IsHeadAt version (bits body) parts at) → HasSize version (entity_under classes parts) parts size is.has.rest
    → at ≤ size → size ≤ end → end ≡ 8 * length body → AreParted version classes (bits body) parts size (bits_between body at size) (bits_between body size end)
cut_between {version} {classes} body {parts} {at} size end is reported after within whole =
    let all : bits body ≡ bits_between body 0 at ++ bits_between body at end =
    sym (bits_between_all body end whole) ∙ sym (bits_between_joined body 0 at end (omega arith) (omega (arith, after, within))) in
    let pieces : bits_between body at end ≡ bits_between body at size ++ bits_between body size end =
    sym (bits_between_joined body at size end after within) in
    let long : length (bits_between body 0 at) ≡ at = omega (arith, length_of_bits_between body 0 at (omega (arith, after, within, whole))) in
    let prefixes = same_prefixes is.has.prefix is.has.rest (bits_between body 0 at) (bits_between body at end) (sym is.has.whole ∙ all) (is.far ∙ sym long) in
    record {
      prefix = is.has.prefix;
      spelled = is.has.spelled;
      reported = subst (λ (left : List Bool). HasSize version (entity_under classes parts) parts size left) (prefixes.1 ∙ pieces) reported;
      whole =
          is.has.whole ∙ ap (λ rest. is.has.prefix ++ rest) (prefixes.1 ∙ pieces) ∙ sym (append_assoc is.has.prefix (bits_between body at size) (bits_between body size end));
      filled = omega (
        arith,
        is.far,
        after,
        length-append is.has.prefix (bits_between body at size),
        length_of_bits_between body at size (omega (arith, within, whole)),
      );
    }

-- it is cut in one way
cut_same : {version : Version} {classes : List Class} {letters : List Bool} {parts other : HeadParts} {size other_size : ℕ} {main references other_main other_references : List Bool}
    → AreParted version classes letters parts size main references → AreParted version classes letters other other_size other_main other_references
    → (parts ≡ other) × (size ≡ other_size) × (main ≡ other_main) × (references ≡ other_references)
unfolding sized_cut
cut_same {version} {classes} {letters} {parts} {other} {size} {other_size} {main} {references} {other_main} {other_references} is was =
    let heads = sized_same (sized_cut is) (sized_cut was) in
    let sizes : length (is.prefix ++ main) ≡ length (was.prefix ++ other_main) = is.filled ∙ heads.1 ∙ sym was.filled in
    let pieces = same_prefixes (is.prefix ++ main) references (was.prefix ++ other_main) other_references (sym is.whole ∙ was.whole) sizes in
    (heads.0, heads.1, append_cancel_left is.prefix main other_main (pieces.0 ∙ ap (λ first. first ++ other_main) (sym heads.2)), pieces.1)

-- the own handle of a head is that of a handle, and the bit size is one of an RL
pub own_small : {version : Version} {classes : List Class} {letters : List Bool} {parts : HeadParts} {size : ℕ} {main references : List Bool} → AreParted version classes letters parts size main references → parts.own < 2 ^ 63
own_small cut = own_of_head (sized_cut cut).has

reported_small : (version : Version) (entity : Bool) (parts : HeadParts) (size : ℕ) (after : List Bool) → IsHead version parts → HasSize version entity parts size after → size < 2 ^ 32
reported_small Ac1014 entity parts size after is reported = spelled_small entity parts.own size after reported
reported_small Ac1015 entity parts size after is reported = omega (arith, reported, size_small Ac1015 parts is)

pub cut_small : {version : Version} {classes : List Class} {letters : List Bool} {parts : HeadParts} {size : ℕ} {main references : List Bool} → AreParted version classes letters parts size main references → size < 2 ^ 32
unfolding head
cut_small {version} {classes} {parts = parts} {size = size} {main = main} {references = references} cut =
    reported_small version (entity_under classes parts) parts size (main ++ references) ((head_is_code version).value cut.prefix _ cut.spelled) cut.reported

-- what is spelled of a common part after a head reports the size that the head doesn't
size_of_spelled : (version : Version) (entity : Bool) (number handle size : ℕ) (common : Common) (main references more : List Bool) (over : ℕ)
    → (common_part (layout_in version size) entity handle).Spells common main references over
    → HasSize version entity (record { number = number; size = size_given version size; own = handle }) size (main ++ more)
size_of_spelled Ac1014 true number handle size common main references more over spelled =
    further true handle size main more (entity_spells_size size handle spelled.0 main references over spelled.2)
size_of_spelled Ac1014 false number handle size common main references more over spelled =
    further false handle size main more (object_spells_size size handle spelled.0 main references over spelled.2)
size_of_spelled Ac1015 entity number handle size common main references more over spelled = refl

-- the head of a body in that form
abbrev pub head_in : Version → ℕ → ℕ → ℕ → HeadParts
head_in version number size handle = record { number = number; size = size_given version size; own = handle }

-- a body in that form is cut after its head and at its bit size
form_cut : {version : Version} {classes : List Class} {body : List ℕ} {number handle : ℕ} {common : Common} {own after : List Bool} (is : CommonForm version classes body number handle common own after)
    → AreParted version classes (bits body) (head_in version number is.size handle) is.size (is.common_main ++ own) (is.common_refs ++ after)
form_cut {version} {classes} {number = number} {handle = handle} {common = common} {own = own} {after = after} is = record {
  prefix = is.head_bits;
  spelled = is.head_spelled;
  reported =
      subst (λ (left : List Bool). HasSize version (is_entity_kind (kind_under classes number)) (head_in version number is.size handle) is.size left)
      (sym (append_assoc is.common_main own (is.common_refs ++ after)))
      (size_of_spelled version (is_entity_kind (kind_under classes number)) number handle is.size common is.common_main is.common_refs (own ++ (is.common_refs ++ after)) (length after) is.common_spelled);
  whole = is.whole;
  filled = is.filled;
}

-- so its bit size is one of an RL
pub size_of_form : {version : Version} {classes : List Class} {body : List ℕ} {number handle : ℕ} {common : Common} {own after : List Bool} (is : CommonForm version classes body number handle common own after) → is.size < 2 ^ 32
size_of_form is = cut_small (form_cut is)

-- and it has a head
pub head_of_common : {version : Version} {classes : List Class} {body : List ℕ} {number handle : ℕ} {common : Common} {own after : List Bool} (is : CommonForm version classes body number handle common own after)
    → HasHead version (bits body) (head_in version number is.size handle)
head_of_common {own = own} {after = after} is = record {
  prefix = is.head_bits;
  rest = (is.common_main ++ own) ++ (is.common_refs ++ after);
  spelled = is.head_spelled;
  whole = is.whole ∙ append_assoc is.head_bits (is.common_main ++ own) (is.common_refs ++ after);
}

-- whose parts lie in their ranges
pub fits_of_common : {version : Version} {classes : List Class} {body : List ℕ} {number handle : ℕ} {common : Common} {own after : List Bool} (is : CommonForm version classes body number handle common own after)
    → IsHead version (head_in version number is.size handle)
unfolding head
fits_of_common {version} is = (head_is_code version).value is.head_bits _ is.head_spelled

-- main bits and reference bits begin with the common part of an object of these numbers, laid out with this bit size
abbrev pub BeginsWithCommon : Version → List Class → ℕ → ℕ → ℕ → Common → List Bool → List Bool → List Bool → List Bool → Type 0
BeginsWithCommon version classes size number handle common main own references after =
    BeginsWithBody (common_part (layout_in version size) (is_entity_kind (kind_under classes number)) handle) common main own references after

-- in any cutting of the body stand the parts of its form
pub common_in_cut : {version : Version} {classes : List Class} {body : List ℕ} {parts : HeadParts} {size : ℕ} {main references : List Bool} → AreParted version classes (bits body) parts size main references
    → (has : HasCommonForm version classes body)
    → (has.number ≡ parts.number) × (has.handle ≡ parts.own) × BeginsWithCommon version classes size parts.number parts.own has.common main has.own references has.after
common_in_cut {version} {classes} {size = size} {main = main} {references = references} cut has =
    let is = has.form in
    let same = cut_same (form_cut is) cut in
    let begins : BeginsWithCommon version classes is.size has.number has.handle has.common (is.common_main ++ has.own) has.own (is.common_refs ++ has.after) has.after = record {
      main_prefix = is.common_main;
      reference_prefix = is.common_refs;
      spelled = is.common_spelled;
      main_whole = refl;
      references_whole = refl;
    } in (
      ap (λ (p : HeadParts). p.number) same.0,
      ap (λ (p : HeadParts). p.own) same.0,
      subst (λ (p : HeadParts). BeginsWithCommon version classes size p.number p.own has.common main has.own references has.after) same.0
          (subst (λ (n : ℕ). BeginsWithCommon version classes n has.number has.handle has.common main has.own references has.after) same.1
          (subst (λ (m : List Bool). BeginsWithCommon version classes is.size has.number has.handle has.common m has.own references has.after) same.2
          (subst (λ (r : List Bool). BeginsWithCommon version classes is.size has.number has.handle has.common (is.common_main ++ has.own) has.own r has.after) same.3 begins))),
    )

-- in AC1015 the head of a cutting reports its size, in AC1014 it reports 0
reported_of_cut : (version : Version) (entity : Bool) (parts : HeadParts) (size : ℕ) (after : List Bool) → IsHead version parts → HasSize version entity parts size after → parts ≡ head_in version parts.number size parts.own
reported_of_cut Ac1014 entity parts size after is reported = let none : parts.size ≡ 0 = is.size in ap (λ (n : ℕ). record { number = parts.number; size = n; own = parts.own }) none
reported_of_cut Ac1015 entity parts size after is reported = ap (λ (n : ℕ). record { number = parts.number; size = n; own = parts.own }) (sym reported)

-- and a cutting in which they stand is that form
pub common_of_cut : {version : Version} {classes : List Class} {body : List ℕ} {parts : HeadParts} {size : ℕ} {main references : List Bool} {common : Common} {own after : List Bool}
    → AreParted version classes (bits body) parts size main references → BeginsWithCommon version classes size parts.number parts.own common main own references after
    → CommonForm version classes body parts.number parts.own common own after
unfolding head
common_of_cut {version} {classes} {parts = parts} {size = size} {main = main} {references = references} cut begins = record {
  size = size;
  head_bits = cut.prefix;
  common_main = begins.main_prefix;
  common_refs = begins.reference_prefix;
  whole = cut.whole ∙ ap₂ (λ main references. (cut.prefix ++ main) ++ references) begins.main_whole begins.references_whole;
  head_spelled =
      subst (λ (p : HeadParts). (head version).Spells p cut.prefix)
      (reported_of_cut version (entity_under classes parts) parts size (main ++ references) ((head_is_code version).value cut.prefix _ cut.spelled) cut.reported) cut.spelled;
  common_spelled = begins.spelled;
  filled = ap (λ main. length (cut.prefix ++ main)) (sym begins.main_whole) ∙ cut.filled;
}

-- the parts of a body in that form
pub record Parts : Type 0 where
  pub number : ℕ
  pub handle : ℕ
  pub common : Common
  pub own : List Bool
  pub after : List Bool

abbrev pub parts_of : {version : Version} {classes : List Class} {body : List ℕ} → HasCommonForm version classes body → Parts
parts_of has = record { number = has.number; handle = has.handle; common = has.common; own = has.own; after = has.after }

-- a body in a form with a common part has that
abbrev pub has_common : {version : Version} {classes : List Class} {body : List ℕ} {number handle : ℕ} {common : Common} {own after : List Bool} → CommonForm version classes body number handle common own after → HasCommonForm version classes body
has_common {version} {classes} {body} {number} {handle} {common} {own} {after} is = record { number = number; handle = handle; common = common; own = own; after = after; form = is }

-- a body is so cut in one way at the most
pub common_forms_same : {version : Version} {classes : List Class} {body : List ℕ} (is was : HasCommonForm version classes body) → parts_of is ≡ parts_of was
common_forms_same {version} {classes} is was =
    let cut = form_cut was.form in
    let parts = common_in_cut cut is in
    let others = common_in_cut cut was in
    let entity : Bool = is_entity_kind (kind_under classes was.number) in
    let layout : Layout = layout_in version was.form.size in
    let alike = unique_body was.handle (common_part layout entity was.handle) (common_is_body layout entity was.handle (layout_small version was.form.size (cut_small cut)) (own_small cut)) is.common was.common _ is.own was.own _ is.after was.after parts.2 others.2 in
    ap₂ (λ (n h : ℕ). record { number = n; handle = h; common = is.common; own = is.own; after = is.after }) parts.0 parts.1
    ∙ ap (λ (c : Common). record { number = was.number; handle = was.handle; common = c; own = is.own; after = is.after }) alike.0
    ∙ ap₂ (λ (o b : List Bool). record { number = was.number; handle = was.handle; common = was.common; own = o; after = b }) alike.1 alike.2

-- its bit size is after the head and within the body
pub record IsSizeWithin (letters prefix : List Bool) (size : ℕ) : Type 0 where
  pub after : length prefix ≤ size
  pub within : size ≤ length letters

pub size_of_common : {version : Version} {classes : List Class} {body : List ℕ} {parts : HeadParts} {size : ℕ} (sized : IsSized version classes (bits body) parts size) → HasCommonForm version classes body
    → IsSizeWithin (bits body) sized.has.prefix size
unfolding sized_cut form_cut
size_of_common {version} {size = size} sized has =
    let is = has.form in
    let main : List Bool = is.common_main ++ has.own in
    let references : List Bool = is.common_refs ++ has.after in
    let same = sized_same (sized_cut (form_cut is)) sized in
    let prefixes : is.head_bits ≡ sized.has.prefix = same.2 in
    record {
      after = omega (arith, same.1, is.filled, length-append is.head_bits main, ap length prefixes);
      within = omega (arith, same.1, is.filled, ap length is.whole, length-append (is.head_bits ++ main) references);
    }

-- where no size is reported, there is no such form
pub unsized : {version : Version} {classes : List Class} {body : List ℕ} {parts : HeadParts} (begins : HasHead version (bits body) parts)
    → ((size : ℕ) → HasSize version (entity_under classes parts) parts size begins.rest → ⊥) → HasCommonForm version classes body → ⊥
unsized {version} {classes} {body} {parts} begins none has =
    let cut = sized_cut (form_cut has.form) in
    let heads = unique_of_code AnyLetters (head version) (head_is_code version) _ parts cut.has.prefix begins.prefix cut.has.rest begins.rest cut.has.spelled begins.spelled (sym cut.has.whole ∙ begins.whole) in
    let rests : cut.has.rest ≡ begins.rest =
    append_cancel_left cut.has.prefix cut.has.rest begins.rest (sym cut.has.whole ∙ begins.whole ∙ ap (λ (first : List Bool). first ++ begins.rest) (sym heads.1)) in
    none has.form.size
    (subst (λ (rest : List Bool). HasSize version (entity_under classes parts) parts has.form.size rest) rests
    (subst (λ (p : HeadParts). HasSize version (entity_under classes p) p has.form.size cut.has.rest) heads.0 cut.reported))

-- a size is reported, or none is
reported_or_not : (version : Version) (entity : Bool) (parts : HeadParts) (after : List Bool) → parts.own < 2 ^ 63
    → ((size : ℕ) × HasSize version entity parts size after) ⊎ ((size : ℕ) → HasSize version entity parts size after → ⊥)
reported_or_not Ac1015 entity parts after small = inl (parts.size, refl)
reported_or_not Ac1014 entity parts after small = by_parse ((sized_prefix entity parts.own).parse after) refl
  where
    by_parse : (found : Option ((List AppData × (Option (List ℕ) × ℕ)) × List Bool)) → (sized_prefix entity parts.own).parse after ≡ found
        → ((size : ℕ) × SpellsSize entity parts.own size after) ⊎ ((size : ℕ) → SpellsSize entity parts.own size after → ⊥)
    by_parse None none = inr (λ size is.
        (reads_none AnyLetters (sized_prefix entity parts.own) after (sized_prefix_is_code entity parts.own small) none).0 ((is.spelled.0, (is.spelled.1, size)), is.prefix, is.after, is.spelled.2, is.whole))
    by_parse (Some ((app, (picture, size)), left)) found =
        let is = (sized_prefix_is_code entity parts.own small).sound after left (app, (picture, size)) tt found in
        inl (size, record { prefix = is.0; after = left; spelled = (app, picture, is.1); whole = is.2 })

-- a bit size lies after the head and within the body, or it doesn't
size_or_not : (letters prefix : List Bool) (size : ℕ) → IsSizeWithin letters prefix size ⊎ (IsSizeWithin letters prefix size → ⊥)
size_or_not letters prefix size = by_tests (nat_lt size (length prefix)) (nat_lt (length letters) size) refl refl
  where
    by_tests : (ahead past : Bool) → nat_lt size (length prefix) ≡ ahead → nat_lt (length letters) size ≡ past → IsSizeWithin letters prefix size ⊎ (IsSizeWithin letters prefix size → ⊥)
    by_tests true past is any = inr (λ within. let less : size < length prefix = grind (arith, nat_tests) in omega (arith, less, within.after))
    by_tests false true is any = inr (λ within. let more : length letters < size = grind (arith, nat_tests) in omega (arith, more, within.within))
    by_tests false false is any = inl (record { after = grind (arith, nat_tests); within = grind (arith, nat_tests) })

-- a body that is cut has no common part where none is parsed
pub common_unread : {version : Version} {classes : List Class} {body : List ℕ} {parts : HeadParts} {size : ℕ} {main references : List Bool} (entity : Bool) (layout : Layout)
    → AreParted version classes (bits body) parts size main references → entity ≡ is_entity_kind (kind_under classes parts.number) → layout ≡ layout_in version size
    → (common_part layout entity parts.own).parse main references ≡ None → HasCommonForm version classes body → ⊥
common_unread {version} {parts = parts} {size = size} {main = main} {references = references} entity layout cut same laid none has =
    let reported : Layout = layout_in version size in
    none_begins parts.own (common_part reported entity parts.own) main references (common_is_body reported entity parts.own (layout_small version size (cut_small cut)) (own_small cut))
    (subst (λ (l : Layout). (common_part l entity parts.own).parse main references ≡ None) laid none) has.common has.own has.after
    (subst (λ (e : Bool). BeginsWithBody (common_part reported e parts.own) has.common main has.own references has.after) (sym same) (common_in_cut cut has).2)

-- and has the one that is
pub common_read : {version : Version} {classes : List Class} {body : List ℕ} {parts : HeadParts} {size : ℕ} {main references own after : List Bool} {common : Common} (entity : Bool) (layout : Layout)
    → AreParted version classes (bits body) parts size main references → entity ≡ is_entity_kind (kind_under classes parts.number) → layout ≡ layout_in version size
    → (common_part layout entity parts.own).parse main references ≡ Some (common, (own, after)) → CommonForm version classes body parts.number parts.own common own after
common_read {version} {parts = parts} {size = size} {main = main} {references = references} {own = own} {after = after} {common = common} entity layout cut same laid parsed =
    let reported : Layout = layout_in version size in
    common_of_cut cut
    (subst (λ (e : Bool). BeginsWithBody (common_part reported e parts.own) common main own references after) same
    ((common_is_body reported entity parts.own (layout_small version size (cut_small cut)) (own_small cut)).sound main own references after common
    (subst (λ (l : Layout). (common_part l entity parts.own).parse main references ≡ Some (common, (own, after))) laid parsed)))

-- whether a body with a head is so cut follows from its bits
common_form_decided : {version : Version} {classes : List Class} {body : List ℕ} {parts : HeadParts} → HasHead version (bits body) parts → HasCommonForm version classes body ⊎ (HasCommonForm version classes body → ⊥)
common_form_decided {version} {classes} {body} {parts} has = by_reported (reported_or_not version (entity_under classes parts) parts has.rest (own_of_head has))
  where
    by_parse : (size : ℕ) (main references : List Bool) (found : Option (Common × (List Bool × List Bool))) → AreParted version classes (bits body) parts size main references
        → (common_part (layout_in version size) (is_entity_kind (kind_under classes parts.number)) parts.own).parse main references ≡ found → HasCommonForm version classes body ⊎ (HasCommonForm version classes body → ⊥)
    by_parse size main references None cut none = inr (common_unread _ (layout_in version size) cut refl refl none)
    by_parse size main references (Some (common, (own, after))) cut parsed = inl (has_common (common_read _ (layout_in version size) cut refl refl parsed))

    by_size : (size : ℕ) → HasSize version (entity_under classes parts) parts size has.rest → IsSizeWithin (bits body) has.prefix size ⊎ (IsSizeWithin (bits body) has.prefix size → ⊥)
        → HasCommonForm version classes body ⊎ (HasCommonForm version classes body → ⊥)
    by_size size reported (inr outside) = inr (λ form. outside (size_of_common (record { has = has; reported = reported }) form))
    by_size size reported (inl within) =
        let inside : size ≤ 8 * length body = omega (arith, within.within, length_of_bits body) in
        by_parse size _ _ _ (cut_between body size (8 * length body) (record { has = has; far = refl }) reported within.after inside refl) refl

    by_reported : ((size : ℕ) × HasSize version (entity_under classes parts) parts size has.rest) ⊎ ((size : ℕ) → HasSize version (entity_under classes parts) parts size has.rest → ⊥)
        → HasCommonForm version classes body ⊎ (HasCommonForm version classes body → ⊥)
    by_reported (inl (size, reported)) = by_size size reported (size_or_not (bits body) has.prefix size)
    by_reported (inr none) = inr (unsized has none)

-- a form is decided where common parts are its own, and whether they are so follows from them
pub decided_after : {version : Version} {classes : List Class} {body : List ℕ} {parts : HeadParts} (Has : Type 0) (At : HasCommonForm version classes body → Type 0) → HasHead version (bits body) parts
    → (Has → HasCommonForm version classes body) → ((form : HasCommonForm version classes body) → Has → At form) → ((form : HasCommonForm version classes body) → At form → Has)
    → ((form : HasCommonForm version classes body) → At form ⊎ (At form → ⊥)) → Has ⊎ (Has → ⊥)
decided_after {version} {classes} {body} Has At begins common there back decide = by_form (common_form_decided begins)
  where
    by_parts : (form : HasCommonForm version classes body) → At form ⊎ (At form → ⊥) → Has ⊎ (Has → ⊥)
    by_parts form (inl at) = inl (back form at)
    by_parts form (inr none) = inr (λ has. none (there form has))

    by_form : HasCommonForm version classes body ⊎ (HasCommonForm version classes body → ⊥) → Has ⊎ (Has → ⊥)
    by_form (inl form) = by_parts form (decide form)
    by_form (inr none) = inr (λ has. none (common has))
