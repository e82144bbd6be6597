-- Where the parts of a page stand, by its size.
use Rattle.std.proofs.Common.{◌≡◌, sym, ◌∙◌, ap, ap₂, ℕ, ◌+◌, ◌*◌, ◌/◌, ◌%◌, ◌^◌, ◌<◌, ◌≤◌, List, [], ◌∷◌, ◌++◌, length, take, drop, get_or, w16, arith, append_assoc, length-append, length-take, length-drop, take_at, drop_at}
use Rattle.std.specs.Int.{to_be_bytes}
use Rattle.std.proofs.lemmas.List.{take-append-drop, drop-drop, get_or-drop, take-take}
use Rattle.std.proofs.lemmas.List.Elements.{All-from_recursion, recursion_from_All, All-take, All-drop}
use Rattle.dwg_base.specs.Bytes.{AreBytes, StandsAt}
use Rattle.dwg_base.proofs.ByteLists.{byte_below}
use Rattle.dwg_check.specs.CheckWord.{CHECK_SEED, check_word}
use Rattle.dwg_check.proofs.CheckWordLaws.{check_word_fits}
use Rattle.dwg_objmap.specs.Pages.{sized_pairs, page_bytes}
use Rattle.dwg_objmap.specs.MapLines.{word_at, sized_at, body_at, page_end, HasPage, HasPageWord}

-- the first two bytes as a number
prefix_word : List ℕ → ℕ
prefix_word bytes = 256 * get_or bytes 0 0 + get_or bytes 1 0

-- the word at a place is that before what is after the place
word_prefix : (bytes : List ℕ) (place : ℕ) → word_at bytes place ≡ prefix_word (drop place bytes)
unfolding prefix_word
word_prefix bytes place =
    let first : place ≡ place + 0 = omega arith in
    ap₂ (λ high low. 256 * high + low) (ap (λ at. get_or bytes at 0) first ∙ sym (get_or-drop place bytes 0 0)) (sym (get_or-drop place bytes 1 0))

-- two bytes that spell a number are read as it
word_read : (number : ℕ) (rest : List ℕ) → number < 2 ^ 16 → prefix_word (to_be_bytes w16 number ++ rest) ≡ number
unfolding prefix_word
word_read number rest small = omega arith

-- and a number that is read is spelled by the two bytes
word_spelled : (bytes : List ℕ) → AreBytes bytes → 2 ≤ length bytes → to_be_bytes w16 (prefix_word bytes) ≡ take 2 bytes
unfolding prefix_word
word_spelled [] all long = absurd (omega arith)
word_spelled (high ∷ []) all long = absurd (omega arith)
word_spelled (high ∷ low ∷ rest) all long =
    let first : (256 * high + low) / 256 % 256 ≡ high = omega (arith, all.0, all.1.0) in
    let second : (256 * high + low) % 256 ≡ low = omega (arith, all.0, all.1.0) in
    ap₂ (λ (a b : ℕ). a ∷ b ∷ []) first second

-- two bytes are read as a number of 16 bits
word_below : (bytes : List ℕ) → AreBytes bytes → prefix_word bytes < 2 ^ 16
unfolding prefix_word
word_below bytes all = omega (arith, byte_below bytes all 0, byte_below bytes all 1)

-- what is after a place in bytes are bytes
bytes_after : (place : ℕ) (bytes : List ℕ) → AreBytes bytes → AreBytes (drop place bytes)
bytes_after place bytes all =
    let is_byte = λ (byte : ℕ). byte < 2 ^ 8 in recursion_from_All is_byte _ (All-drop is_byte place _ (All-from_recursion is_byte bytes all))

-- and so is a prefix of them
bytes_before : (count : ℕ) (bytes : List ℕ) → AreBytes bytes → AreBytes (take count bytes)
bytes_before count bytes all =
    let is_byte = λ (byte : ℕ). byte < 2 ^ 8 in recursion_from_All is_byte _ (All-take is_byte count _ (All-from_recursion is_byte bytes all))

-- the pairs of a page in bytes are bytes
pub body_is_bytes : (bytes : List ℕ) (place : ℕ) → AreBytes bytes → AreBytes (body_at bytes place)
body_is_bytes bytes place all = bytes_after 2 (sized_at bytes place) (bytes_before (word_at bytes place) (drop place bytes) (bytes_after place bytes all))

-- the parts of a page with this body at a place, as its size reports them
pub record PageStands (bytes : List ℕ) (place : ℕ) (body : List ℕ) : Type 0 where
  pub size : word_at bytes place ≡ 2 + length body
  pub pairs : body_at bytes place ≡ body
  pub has_check_word : HasPageWord bytes place
  pub within : page_end bytes place ≤ length bytes

-- the size and the pairs are as long as the size says
length_sized : (body : List ℕ) → length (sized_pairs body) ≡ 2 + length body
length_sized body = omega (arith, length-append (to_be_bytes w16 (2 + length body)) body)

-- what stands at a place is the prefix of what is after the place
stands_after : (bytes piece : List ℕ) (place : ℕ) (stands : StandsAt bytes place piece) → drop place bytes ≡ piece ++ stands.after
stands_after bytes piece place stands = ap (drop place) stands.whole ∙ drop_at stands.before (piece ++ stands.after) place stands.far

-- a page that stands at a place has its parts there
pub page_stands : (bytes : List ℕ) (place : ℕ) (body : List ℕ) → 2 + length body < 2 ^ 16 → StandsAt bytes place (page_bytes body) → PageStands bytes place body
page_stands bytes place body small stands = record {
  size = size;
  pairs = ap (drop 2) sized;
  has_check_word =
      word_prefix bytes (place + word_at bytes place) ∙ ap prefix_word last
      ∙ word_read (check_word CHECK_SEED (sized_pairs body)) stands.after (check_word_fits CHECK_SEED (sized_pairs body) (omega arith))
      ∙ ap (check_word CHECK_SEED) (sym sized);
  within = omega (
    arith,
    size,
    ap length stands.whole,
    stands.far,
    length-append stands.before (page_bytes body ++ stands.after),
    length-append (page_bytes body) stands.after,
    length-append (sized_pairs body) (to_be_bytes w16 (check_word CHECK_SEED (sized_pairs body))),
    length_sized body,
  );
}
  where
    checked : List ℕ
    checked = to_be_bytes w16 (check_word CHECK_SEED (sized_pairs body))

    after : drop place bytes ≡ sized_pairs body ++ (checked ++ stands.after)
    after = stands_after bytes (page_bytes body) place stands ∙ append_assoc (sized_pairs body) checked stands.after

    size : word_at bytes place ≡ 2 + length body
    size = word_prefix bytes place ∙ ap prefix_word (after ∙ append_assoc (to_be_bytes w16 (2 + length body)) body (checked ++ stands.after))
        ∙ word_read (2 + length body) (body ++ (checked ++ stands.after)) small

    sized : sized_at bytes place ≡ sized_pairs body
    sized = ap₂ take size after ∙ take_at (sized_pairs body) (checked ++ stands.after) (2 + length body) (length_sized body)

    last : drop (place + word_at bytes place) bytes ≡ checked ++ stands.after
    last = sym (drop-drop (word_at bytes place) place bytes) ∙ ap₂ drop size after ∙ drop_at (sized_pairs body) (checked ++ stands.after) (2 + length body) (length_sized body)

-- so long is a page's list of pairs
pub length_of_body : (bytes : List ℕ) (place : ℕ) → HasPage bytes place → 2 + length (body_at bytes place) ≡ word_at bytes place
length_of_body bytes place has =
    omega (arith, has.0, has.1, length-drop 2 (sized_at bytes place), length-take (word_at bytes place) (drop place bytes), length-drop place bytes)

-- a page's size has 16 bits
pub size_below : (bytes : List ℕ) (place : ℕ) → AreBytes bytes → word_at bytes place < 2 ^ 16
size_below bytes place all = omega (arith, word_prefix bytes place, word_below (drop place bytes) (bytes_after place bytes all))

-- where a page lies in bytes with its right check word, it stands there
pub page_there : (bytes : List ℕ) (place : ℕ) → AreBytes bytes → HasPage bytes place → HasPageWord bytes place → StandsAt bytes place (page_bytes (body_at bytes place))
page_there bytes place all has right = record {
  before = take place bytes;
  after = drop 2 (drop size rest);
  whole = sym (take-append-drop place bytes) ∙ ap (λ others. take place bytes ++ others) after;
  far = omega (arith, has.1, length-take place bytes);
}
  where
    size : ℕ
    size = word_at bytes place

    rest : List ℕ
    rest = drop place bytes

    long : place + size + 2 ≤ length bytes
    long = has.1

    two : 2 ≤ size
    two = has.0

    sized : sized_at bytes place ≡ sized_pairs (body_at bytes place)
    sized =
        sym (take-append-drop 2 (sized_at bytes place))
        ∙ ap (λ prefix. prefix ++ body_at bytes place)
        (take-take 2 size rest two ∙ sym (word_spelled rest (bytes_after place bytes all) (omega (arith, long, length-drop place bytes)))
        ∙ ap (to_be_bytes w16) (sym (word_prefix bytes place) ∙ sym (length_of_body bytes place has)))

    checked : take 2 (drop size rest) ≡ to_be_bytes w16 (check_word CHECK_SEED (sized_pairs (body_at bytes place)))
    checked =
        sym (word_spelled (drop size rest) (bytes_after size rest (bytes_after place bytes all)) (omega (arith, long, length-drop size rest, length-drop place bytes)))
        ∙ ap (to_be_bytes w16) (ap prefix_word (drop-drop size place bytes) ∙ sym (word_prefix bytes (place + size)) ∙ right ∙ ap (check_word CHECK_SEED) sized)

    after : rest ≡ page_bytes (body_at bytes place) ++ drop 2 (drop size rest)
    after =
        sym (take-append-drop size rest)
        ∙ ap₂ (λ prefix others. prefix ++ others) sized (sym (take-append-drop 2 (drop size rest)) ∙ ap (λ prefix. prefix ++ drop 2 (drop size rest)) checked)
        ∙ sym (append_assoc (sized_pairs (body_at bytes place)) (to_be_bytes w16 (check_word CHECK_SEED (sized_pairs (body_at bytes place)))) (drop 2 (drop size rest)))
