-- Reading a head, part by part.
use Rattle.std.proofs.Common.{◌≡◌, sym, ◌∙◌, ap, ℕ, ◌+◌, ◌*◌, ◌≤◌, Bool, List, ◌++◌, length, Option, Some, None, arith}
use Rattle.dwg_base.specs.declared.version.Version.{Version}
use Rattle.std.specs.Prelude.{option_map}
use Rattle.std.proofs.lemmas.List.{length-append}
use Rattle.dwg_bits.specs.Bits.{bits}
use Rattle.dwg_bits.proofs.BitLaws.{bits_between_all, length_of_bits, length_of_bits_between}
use Rattle.dwg_bits.specs.Cursor.{bits_between, rest}
use Rattle.dwg_bits.specs.declared.cursor.BitCursor.{BitCursor}
use Rattle.dwg_common.specs.Parsing.{Keeps}
use Rattle.dwg_grammar.proofs.BodyReading.{parsed}
use Rattle.dwg_grammar.proofs.OwnLemmas.{own_is_code}
use Rattle.dwg_grammar.specs.Codes.{bs}
use Rattle.dwg_grammar.specs.Grammar.{Reads}
use Rattle.dwg_grammar.specs.ReferenceCodes.{own_handle}
use Rattle.dwg_object.specs.Objects.{HeadParts}
use Rattle.dwg_object.specs.Heads.{head, head_size, HasHead, IsHeadAt, own_of}
use Rattle.dwg_object.proofs.HeadLemmas.{head_is_code, own_reported, head_unparsed}

-- what was read of an own handle is what is parsed
pub own_parsed : (found : Option ℕ) (old new : List Bool) → Reads own_handle found old new → own_handle.parse old ≡ option_map (λ (value : ℕ). (value, new)) found
own_parsed found old new read = parsed own_handle found old new own_is_code read

-- all bits of a body are left for a cursor that stands at its first bit
whole_rest : (body : List ℕ) (cursor : BitCursor) → cursor.bytes.now ≡ body → cursor.place ≡ 0 → cursor.end ≡ 8 * length body → rest cursor ≡ bits body
whole_rest body cursor same from to =
    ap (λ (some : List ℕ). bits_between some cursor.place cursor.end) same ∙ ap (λ (n : ℕ). bits_between body n cursor.end) from ∙ bits_between_all body cursor.end to

-- what is parsed from there is the head of the body, after which the cursor stands
pub body_begins : {version : Version} (body : List ℕ) (old new : BitCursor) (parts : HeadParts) → old.bytes.now ≡ body → old.place ≡ 0 → old.end ≡ 8 * length body → Keeps old new
    → (head version).parse (rest old) ≡ Some (parts, rest new) → IsHeadAt version (bits body) parts new.place
body_begins {version} body old new parts same from to kept found =
    let is = (head_is_code version).sound (bits body) (rest new) parts tt (ap (head version).parse (sym (whole_rest body old same from to)) ∙ found) in
    record {
      has = record { prefix = is.0; rest = rest new; spelled = is.1; whole = is.2 };
      far = omega (
        arith,
        length_of_bits_between new.bytes.now new.place new.end new.within,
        ap length is.2,
        length_of_bits body,
        length-append is.0 (rest new),
        kept.end,
        to,
        new.ordered,
      );
    }

-- where none is parsed from there, it has none
pub body_begins_not : {version : Version} (body : List ℕ) (old : BitCursor) → old.bytes.now ≡ body → old.place ≡ 0 → old.end ≡ 8 * length body → (head version).parse (rest old) ≡ None
    → (parts : HeadParts) → HasHead version (bits body) parts → ⊥
body_begins_not {version} body old same from to none = head_unparsed (bits body) (ap (head version).parse (sym (whole_rest body old same from to)) ∙ none)

-- a head ends within the body
pub head_within : {version : Version} (body : List ℕ) (parts : HeadParts) (at : ℕ) → IsHeadAt version (bits body) parts at → at ≤ 8 * length body
head_within body parts at is = omega (arith, is.far, ap length is.has.whole, length-append is.has.prefix is.has.rest, length_of_bits body)

-- a head is as long as its parts
pub head_long : (version : Version) (number own a b c : ℕ) → a ≡ length (bs.short number) → b ≡ length ((head_size version).short 0) → c ≡ length (own_handle.short own)
    → a + b + c ≡ length ((head version).short (record { number = number; size = 0; own = own }))
unfolding head
head_long version number own a b c is is_size is_own =
    omega (
      arith,
      is,
      is_size,
      is_own,
      length-append (bs.short number) ((head_size version).short 0 ++ own_handle.short own),
      length-append ((head_size version).short 0) (own_handle.short own),
    )

-- a head that a body begins with reports its own handle
pub own_found : {version : Version} (letters : List Bool) (parts : HeadParts) (end : ℕ) → IsHeadAt version letters parts end → Some parts.own ≡ own_of version letters
own_found {version} letters parts end is = own_reported version letters (Some parts) is.has

-- a body without a head reports none
pub own_missing : {version : Version} (letters : List Bool) → ((parts : HeadParts) → HasHead version letters parts → ⊥) → None ≡ own_of version letters
own_missing {version} letters none = own_reported version letters None none
