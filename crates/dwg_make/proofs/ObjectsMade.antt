-- An object whose parts fit and are written by few bits is valid and small.
use Rattle.std.proofs.Common.{◌≡◌, ◌∙◌, ap, ℕ, ◌+◌, ◌*◌, ◌^◌, ◌≤◌, ◌<◌, ◌%◌, Bool, List, [], ◌++◌, length, arith}
use Rattle.std.proofs.lemmas.List.{length-append}
use Rattle.dwg_base.specs.declared.version.Version.TheVariants.{Ac1015}
use Rattle.dwg_common.specs.Layouts.{NEWER}
use Rattle.dwg_bits.specs.Sink.{padding}
use Rattle.dwg_bits.proofs.PaddingLaw.{padding_fills}
use Rattle.dwg_bits.specs.WholeBytes.{whole_bytes}
use Rattle.dwg_bits.proofs.WholeBytes.{length_of_whole}
use Rattle.dwg_file.proofs.ObjectSize.{IsSmall}
use Rattle.dwg_grammar.specs.ReferenceCodes.{own_handle}
use Rattle.dwg_kinds.specs.Kinds.{is_entity_kind}
use Rattle.dwg_object.specs.declared.common.Common.{Common}
use Rattle.dwg_object.specs.declared.body.Body.{Body}
use Rattle.dwg_object.specs.Forms.{kind_under, common_part}
use Rattle.dwg_object.specs.Heads.{head}
use Rattle.dwg_object.specs.Objects.{HeadParts, TypedValue, is_of_entity}
use Rattle.dwg_object.specs.OwnBodies.{body_kind, own_body}
use Rattle.dwg_object.specs.Written.{common_main, common_refs, main_size, written_head, prefix_bits, refs_bits, object_bits, own_main, own_refs}
use Rattle.dwg_make.proofs.CodeSizes.{Few, both, low_few, bs_few, rl_few, number_few}
use Rattle.dwg_make.proofs.PartsMade.{IsMade}

-- how many bytes the body of a made object has at the most
abbrev pub BODY_BYTES : ℕ
BODY_BYTES = 32784

-- a head
pub head_few : (parts : HeadParts) → Few 122 ((head Ac1015).short parts)
unfolding head own_handle
head_few parts = both (bs_few parts.number) (both (rl_few parts.size) (both (low_few 4 0) (number_few parts.own)))

-- the bits of an object, by those of its parts
bits_few : (number handle : ℕ) (common : Common) (own refs : List Bool) → Few 65536 (common_main NEWER handle common) → Few 65536 (common_refs NEWER handle common) → Few 65536 own → Few 65536 refs
    → Few 262266 (object_bits Ac1015 number handle common own refs)
unfolding prefix_bits refs_bits
bits_few number handle common own refs main named own_few refs_few =
    both (both (head_few (written_head Ac1015 number handle (main_size Ac1015 number handle common own))) (both main own_few)) (both named refs_few)

-- bits that are padded to bytes
pub padded_few : (letters : List Bool) (most : ℕ) → Few most letters → 8 * length (whole_bytes (letters ++ padding letters)) ≤ most + 7
padded_few letters most few =
    let fills = padding_fills letters in
    let joined : length (letters ++ padding letters) ≡ length letters + length (padding letters) = length-append letters (padding letters) in
    let whole : length (letters ++ padding letters) % 8 ≡ 0 = ap (λ n. n % 8) joined ∙ fills.0 in
    shorter (length (whole_bytes (letters ++ padding letters))) most (length letters) (length (padding letters)) (length (letters ++ padding letters))
    (length_of_whole (letters ++ padding letters) whole) joined few.few fills.1
  where
    shorter : (written most all fill sum : ℕ) → sum ≡ 8 * written → sum ≡ all + fill → all ≤ most → fill < 8 → 8 * written ≤ most + 7
    shorter written most all fill sum a b c d = omega arith

-- an object that is made
pub typed_made : (number handle : ℕ) (common : Common) (value : Body) → number < 2 ^ 16 → 0 < handle → handle < 2 ^ 63 → kind_under [] number ≡ body_kind value
    → is_of_entity common ≡ is_entity_kind (body_kind value) → IsMade (common_part NEWER (is_of_entity common) handle) common → IsMade (own_body Ac1015 (body_kind value) handle) value
    → IsSmall Ac1015 [] BODY_BYTES (TypedValue number handle common value)
typed_made number handle common value low some small kind entity made own =
    let letters : List Bool = object_bits Ac1015 number handle common (own_main Ac1015 handle value) (own_refs Ac1015 handle value) in
    let few : 8 * length (whole_bytes (letters ++ padding letters)) ≤ 262273 =
    padded_few letters 262266 (bits_few number handle common (own_main Ac1015 handle value) (own_refs Ac1015 handle value) made.main made.refs own.main own.refs) in
    record {
      valid = (
        record { whole = ((some, made.fits, own.fits), entity); fits = (some, made.fits, own.fits); number_fits = low; handle_fits = small; kind = kind },
        omega (arith, few),
      );
      few = omega (arith, few);
    }
