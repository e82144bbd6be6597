-- The check words of the prefixes of a run of bytes, and of its spans (a rule of this project).
use Rattle.std.proofs.Common.{◌≡◌, sym, ◌∙◌, ap, ap₂, ℕ, ◌+◌, ◌-◌, ◌<◌, ◌≤◌, List, [], ◌∷◌, ◌++◌, length, get_or, take, drop, take-add, arith}
use Rattle.std.specs.Prelude.{bit_xor, replicate}
use Rattle.std.proofs.lemmas.List.{take_more, length-drop, length-take-le}
use Rattle.std.proofs.lemmas.List.FromFn.{map-range_with_len_more, length-map-range_with_len, get_or-map-range_with_len}
use Rattle.std.proofs.lemmas.Nat.{xor_comm}
use lib.Bits.{xor_assoc, xor_self}
use Rattle.dwg_check.specs.CheckWord.{check_word}
use Rattle.dwg_check.proofs.CheckWordLaws.{check_word_none, check_word_append, check_word_xor}
use Rattle.dwg_check.specs.Spans.{prefix_words, words_before}

-- the word of the prefix with one byte more is that after the byte
pub one_byte_more : (bytes : List ℕ) (i : ℕ) → i < length bytes
    → check_word (check_word 0 (take i bytes)) (get_or bytes i 0 ∷ []) ≡ check_word 0 (take (i + 1) bytes)
one_byte_more bytes i inside = sym (ap (check_word 0) (take_more bytes i 0 inside) ∙ check_word_append 0 (take i bytes) (get_or bytes i 0 ∷ []))

-- the word of the empty prefix is 0
pub no_byte_yet : (bytes : List ℕ) → 0 ≡ check_word 0 (take 0 bytes)
no_byte_yet bytes = sym (check_word_none 0)

-- and it is the first word
pub first_word : (bytes : List ℕ) → 0 ∷ [] ≡ words_before bytes (0 + 1)
unfolding words_before
first_word bytes = ap (λ w. w ∷ []) (no_byte_yet bytes)

-- the words of all prefixes
pub all_words : (words bytes : List ℕ) (i : ℕ) → words ≡ words_before bytes (i + 1) → length bytes ≤ i → i ≤ length bytes → words ≡ prefix_words bytes
unfolding prefix_words
all_words words bytes i so_far all most = let same : i ≡ length bytes = omega (arith, all, most) in so_far ∙ ap (λ n. words_before bytes (n + 1)) same

-- the words before one prefix more
pub one_prefix_more : (bytes : List ℕ) (n : ℕ) → words_before bytes n ++ check_word 0 (take n bytes) ∷ [] ≡ words_before bytes (n + 1)
unfolding words_before
one_prefix_more bytes n = sym (map-range_with_len_more (λ k. check_word 0 (take k bytes)) 0 n n (omega arith))

-- there is one word more than bytes
pub words_length : (bytes : List ℕ) → length (prefix_words bytes) ≡ length bytes + 1
unfolding prefix_words words_before
words_length bytes = length-map-range_with_len (λ k. check_word 0 (take k bytes)) 0 (length bytes + 1)

-- the word at a place is that of the prefix which ends there
word_at : (words bytes : List ℕ) (k word : ℕ) → words ≡ prefix_words bytes → k ≤ length bytes → word ≡ get_or words k word → word ≡ check_word 0 (take k bytes)
unfolding prefix_words words_before
word_at words bytes k word all h is =
    is ∙ ap (λ ws. get_or ws k word) all
    ∙ get_or-map-range_with_len (λ n. check_word 0 (take n bytes)) 0 (length bytes + 1) k k word (omega (arith, h)) (omega arith)

-- a word that is xored twice is gone
pub xor_back : (a b : ℕ) → bit_xor b (bit_xor a b) ≡ a
xor_back a b = ap (bit_xor b) (xor_comm a b) ∙ sym (xor_assoc b b a) ∙ ap (λ x. bit_xor x a) (xor_self b)

-- the check word of bytes, from that which another start gives them
restarted : (start other : ℕ) (bytes : List ℕ)
    → bit_xor (check_word other bytes) (check_word (bit_xor other start) (replicate (length bytes) 0)) ≡ check_word start bytes
restarted start other bytes =
    sym (check_word_xor other (bit_xor other start) bytes)
    ∙ ap (λ w. check_word w bytes) (ap (bit_xor other) (xor_comm other start) ∙ xor_back start other)

-- the check word of a span is the word at its end, xored with what its length of zero bytes makes of the word at its begin xored with the start
pub span_word : (words bytes : List ℕ) (start from to first last after : ℕ) → words ≡ prefix_words bytes → from ≤ to → to ≤ length bytes
    → first ≡ get_or words from first → last ≡ get_or words to last → after ≡ check_word (bit_xor first start) (replicate (to - from) 0)
    → bit_xor last after ≡ check_word start (take (to - from) (drop from bytes))
span_word words bytes start from to first last after all order within first_is last_is after_is =
    let span : List ℕ = take (to - from) (drop from bytes) in
    let prefix : ℕ = check_word 0 (take from bytes) in
    let whole : from + (to - from) ≡ to = omega (arith, order) in
    let long : length span ≡ to - from = length-take-le (to - from) (drop from bytes) (omega (arith, order, within, length-drop from bytes)) in
    let ends : last ≡ check_word prefix span =
    word_at words bytes to last all within last_is ∙ ap (λ n. check_word 0 (take n bytes)) (sym whole)
    ∙ ap (check_word 0) (take-add from (to - from) bytes) ∙ check_word_append 0 (take from bytes) span in
    let begins : first ≡ prefix = word_at words bytes from first all (omega (arith, order, within)) first_is in
    ap₂ bit_xor ends (after_is ∙ ap₂ (λ f n. check_word (bit_xor f start) (replicate n 0)) begins (sym long))
    ∙ restarted start prefix span
