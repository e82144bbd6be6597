-- Lists that are written element by element, and bytes run by run.
use Rattle.std.proofs.Common.{◌≡◌, refl, sym, ◌∙◌, ap, ℕ, ◌+◌, ◌<◌, List, [], ◌∷◌, ◌++◌, length, take, drop, append-nil, append_assoc, arith}
use Rattle.std.specs.Prelude.{get_or, flat_map, map}
use Rattle.std.proofs.lemmas.Grind.{flat_map-append}
use Rattle.std.proofs.lemmas.List.{get_or_default, length-take, take_more}
use Rattle.std.proofs.Math.Seq.{take-add}
use Rattle.dwg_text.specs.Numbered.{numbered}
use Rattle.dwg_text.specs.Lines.{byte_digits}

-- the element after a list has the number of its length
numbered_joined : {A : Type 0} (written : ℕ → A → List ℕ) (from : ℕ) (elements : List A) (last : A)
    → numbered written from (elements ++ last ∷ []) ≡ numbered written from elements ++ written (from + length elements) last
numbered_joined {A} written from [] last =
    let same : from ≡ from + 0 = omega arith in
    append-nil (written from last) ∙ ap (λ n. written n last) same
numbered_joined {A} written from (element ∷ elements) last =
    let same : from + 1 + length elements ≡ from + length (element ∷ elements) = omega arith in
    ap (λ others. written from element ++ others) (numbered_joined written (from + 1) elements last)
    ∙ sym (append_assoc (written from element) (numbered written (from + 1) elements) (written (from + 1 + length elements) last))
    ∙ ap (λ n. written from element ++ numbered written (from + 1) elements ++ written n last) same

-- one element more
pub more_numbered : {A : Type 0} (written : ℕ → A → List ℕ) (elements : List A) (index : ℕ) (element : A) → index < length elements → element ≡ get_or elements index element
    → numbered written 0 (take index elements) ++ written index element ≡ numbered written 0 (take (index + 1) elements)
more_numbered {A} written elements index element within is =
    let long : 0 + length (take index elements) ≡ index = omega (arith, length-take index elements) in
    sym (
    ap (numbered written 0) (take_more elements index element within ∙ ap (λ last. take index elements ++ last ∷ []) (sym is))
    ∙ numbered_joined written 0 (take index elements) element
    ∙ ap (λ n. numbered written 0 (take index elements) ++ written n element) long
    )

-- some bytes more
pub more_digits : (bytes : List ℕ) (at count : ℕ) → flat_map byte_digits (take at bytes) ++ flat_map byte_digits (take count (drop at bytes)) ≡ flat_map byte_digits (take (at + count) bytes)
more_digits bytes at count = sym (ap (flat_map byte_digits) (take-add at count bytes) ∙ flat_map-append byte_digits (take at bytes) (take count (drop at bytes)))

-- one paragraph more
pub more_paragraphs : {A : Type 0} (written : A → List ℕ) (paragraphs : List A) (index : ℕ) (paragraph : A) → index < length paragraphs → paragraph ≡ get_or paragraphs index paragraph
    → flat_map written (take index paragraphs) ++ written paragraph ≡ flat_map written (take (index + 1) paragraphs)
more_paragraphs {A} written paragraphs index paragraph within is = sym (
    ap (flat_map written) (take_more paragraphs index paragraph within ∙ ap (λ last. take index paragraphs ++ last ∷ []) (sym is))
    ∙ flat_map-append written (take index paragraphs) (paragraph ∷ [])
    ∙ ap (λ last. flat_map written (take index paragraphs) ++ last) (append-nil (written paragraph))
    )

-- the same of elements that are plain numbers and flags, of which one stands for every place after the last
pub more_plain : {A : Type 0} (written : A → List ℕ) (paragraphs : List A) (index : ℕ) (none : A) → index < length paragraphs
    → flat_map written (take index paragraphs) ++ written (get_or paragraphs index none) ≡ flat_map written (take (index + 1) paragraphs)
more_plain {A} written paragraphs index none within =
    let paragraph = get_or paragraphs index none in
    more_paragraphs written paragraphs index paragraph within (get_or_default paragraphs index none paragraph within)

-- paragraphs of what is seen of things
pub written_of_seen : {A B : Type 0} (written : B → List ℕ) (seen : A → B) (things : List A) → flat_map (λ thing. written (seen thing)) things ≡ flat_map written (map seen things)
written_of_seen {A} {B} written seen [] = refl
written_of_seen {A} {B} written seen (thing ∷ things) = ap (λ others. written (seen thing) ++ others) (written_of_seen written seen things)
