-- Texts, read and written by their length and their bytes.
use Rattle.std.proofs.Common.{◌≡◌, refl, ◌∙◌, ap, subst, ℕ, ◌+◌, ◌*◌, Bool, List, ◌++◌, length, Option, Some, None}
use Rattle.std.proofs.lemmas.List.{length-append}
use Rattle.dwg_bits.specs.Bits.{bits}
use Rattle.dwg_bits.proofs.BitLaws.{length_of_bits}
use Rattle.dwg_bits.specs.Sink.{Written, Extends}
use Rattle.dwg_bits.proofs.SinkLemmas.{extends_by_both}
use Rattle.dwg_grammar.specs.Grammar.{Reads}
use Rattle.dwg_grammar.specs.Combinators.{seq, items, chain}
use Rattle.dwg_grammar.specs.Codes.{rc, bs, tv}
use Rattle.dwg_grammar.specs.ToEnd.{short_all}
use Rattle.dwg_grammar.proofs.ByteRunLemmas.{short_of_bytes}
use Rattle.dwg_grammar.proofs.TableLemmas.{bs_is_code}
use Rattle.dwg_codes.proofs.SeqReading.{unread_through, seq_read, first_unread, second_unread}

-- a text is written by its length and its bytes
pub tv_short : (bytes : List ℕ) → tv.short bytes ≡ bs.short (length bytes) ++ bits bytes
unfolding tv chain
tv_short bytes = ap (λ letters. bs.short (length bytes) ++ letters) (short_of_bytes bytes)

-- so it has their bits
pub length_of_tv : (bytes : List ℕ) → length (tv.short bytes) ≡ length (bs.short (length bytes)) + 8 * length bytes
length_of_tv bytes = ap length (tv_short bytes) ∙ length-append (bs.short (length bytes)) (bits bytes) ∙ ap (λ n. length (bs.short (length bytes)) + n) (length_of_bits bytes)

-- a text that was written
pub tv_written : (old mid new : Written) (bytes : List ℕ) → Extends old mid (bs.short (length bytes)) → Extends mid new (short_all rc bytes) → Extends old new (tv.short bytes)
unfolding tv chain
tv_written old mid new bytes first second = extends_by_both old mid new (bs.short (length bytes)) (short_all rc bytes) first second

-- so many bytes that were read, as many as the length says
run_after : (count wide : ℕ) (found run : Option (List ℕ)) (mid new : List Bool) → wide ≡ count → found ≡ run → Reads (items rc wide) found mid new → Reads (items rc count) run mid new
run_after count wide found run mid new same is read =
    subst (λ (n : ℕ). Reads (items rc n) run mid new) same (subst (λ (one : Option (List ℕ)). Reads (items rc wide) one mid new) is read)

-- a length and so many bytes are a text
pub tv_read : (count wide : ℕ) (bytes : List ℕ) (found : Option (List ℕ)) (old mid new : List Bool) → wide ≡ count → found ≡ Some bytes → Reads bs (Some count) old mid
    → Reads (items rc wide) found mid new → Reads tv (Some bytes) old new
unfolding tv
tv_read count wide bytes found old mid new same is first second =
    let both = seq_read bs (λ n. items rc n) count bytes old mid new first (run_after count wide found (Some bytes) mid new same is second) in
    (both.0, ((count, bytes), refl, both.1), both.2)

-- what is spelled by a text is spelled by its length and its bytes
text_through : (value : List ℕ) (prefix : List Bool) → tv.Spells value prefix → (inner : ℕ × List ℕ) × (seq bs (λ n. items rc n)).Spells inner prefix
unfolding tv
text_through value prefix spelled = (spelled.0, spelled.2)

-- where there is no length there is no text
pub tv_unread : (result : Option (List ℕ)) (old mid : List Bool) → result ≡ None → Reads bs None old mid → Reads tv result old old
tv_unread result old mid none first = unread_through (seq bs (λ n. items rc n)) tv result old old text_through none (first_unread bs (λ n. items rc n) old first.0) refl

-- nor where the bytes aren't there
pub tv_cut : (result found : Option (List ℕ)) (count wide : ℕ) (old mid left : List Bool) → result ≡ None → wide ≡ count → found ≡ None → Reads bs (Some count) old mid
    → Reads (items rc wide) found mid left → Reads tv result old old
tv_cut result found count wide old mid left none same is first second =
    unread_through (seq bs (λ n. items rc n)) tv result old old text_through none
    (second_unread bs (λ n. items rc n) count old mid bs_is_code first (run_after count wide found None mid left same is second).0) refl
