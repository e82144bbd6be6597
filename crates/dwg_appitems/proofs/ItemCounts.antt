-- How many bytes items have: whole ones, two at least and 259 at most.
use Rattle.std.proofs.Common.{◌≡◌, ◌∙◌, ap, ℕ, ◌+◌, ◌*◌, ◌<◌, ◌≤◌, Bool, List, length, arith}
use Rattle.std.specs.Prelude.{◌==◌, ◌&&◌, nat_le}
use Rattle.std.proofs.lemmas.List.{length-append}
use Rattle.dwg_grammar.specs.Codes.{rc, rd}
use Rattle.dwg_grammar.specs.Combinators.{chain, items, counted}
use Rattle.dwg_grammar.specs.Grammar.{Grammar}
use Rattle.dwg_grammar.specs.declared.points.Point3.{Point3}
use Rattle.dwg_grammar.proofs.NumberLemmas.{rc_is_code}
use Rattle.dwg_codes.proofs.WordReading.{spelling_counted}
use Rattle.dwg_appitems.specs.declared.item.AppItem.{AppItem}
use Rattle.dwg_appitems.specs.Items.{marked_text, words_of_point, item_by, item}
use Rattle.dwg_appitems.proofs.VariantLemmas.{of_chosen}

-- bits are those of whole bytes, between so many and so many
pub record AreCounted (least most : ℕ) (letters : List Bool) : Type 0 where
  pub count : ℕ
  pub whole : length letters ≡ 8 * count
  pub some : least ≤ count
  pub few : count ≤ most

-- so many bytes have so many bytes
bytes_counted : (count : ℕ) (bytes : List ℕ) (letters : List Bool) → (items rc count).Spells bytes letters → length letters ≡ 8 * count
unfolding chain
bytes_counted count bytes letters spelled = spelling_counted 0 bytes letters spelled.1 ∙ ap (λ n. 8 * n) spelled.0

-- an RC is a byte, and is below 256
rc_below : (value : ℕ) (letters : List Bool) → rc.Spells value letters → (length letters ≡ 8) × (value < 256)
rc_below value letters spelled = (spelled.0, rc_is_code.value letters value spelled)

-- a text
text_counted : (held : List ℕ × List ℕ) (letters : List Bool) → marked_text.Spells held letters → AreCounted 1 258 letters
text_counted held letters (parts, same, (prefix, back, one, (mark, text, marked, run, cut), whole)) =
    let n = rc_below parts.0 prefix one in
    record {
      count = 3 + parts.0;
      whole = omega (arith, n.0, bytes_counted 2 parts.1.0 mark marked, bytes_counted parts.0 parts.1.1 text run, ap length cut, ap length whole, length-append prefix back, length-append mark text);
      some = omega arith;
      few = omega (arith, n.1);
    }

-- counted bytes
run_counted : (held : List ℕ) (letters : List Bool) → (counted rc rc).Spells held letters → AreCounted 1 258 letters
run_counted held letters (parts, same, (prefix, back, one, run, whole)) =
    let n = rc_below parts.0 prefix one in
    record {
      count = 1 + parts.0;
      whole = omega (arith, n.0, bytes_counted parts.0 parts.1 back run, ap length whole, length-append prefix back);
      some = omega arith;
      few = omega (arith, n.1);
    }

-- an RD
rd_counted : (value : ℕ) (letters : List Bool) → rd.Spells value letters → length letters ≡ 64
rd_counted value letters (bytes, same, spelled) = bytes_counted 8 bytes letters spelled

-- three RDs
words_counted : (point : Point3) (letters : List Bool) → words_of_point.Spells point letters → AreCounted 1 258 letters
words_counted point letters (words, same, (prefix, back, one, (second, third, two, three, cut), whole)) = record {
  count = 24;
  whole = omega (
    arith,
    rd_counted words.0 prefix one,
    rd_counted words.1.0 second two,
    rd_counted words.1.1 third three,
    ap length cut,
    ap length whole,
    length-append prefix back,
    length-append second third,
  );
  some = omega arith;
  few = omega arith;
}

-- so many bytes between one and 258
some_counted : (count : ℕ) (letters : List Bool) → length letters ≡ 8 * count → 1 ≤ count → count ≤ 258 → AreCounted 1 258 letters
some_counted count letters whole some few = record { count = count; whole = whole; some = some; few = few }

-- what follows a code byte has 1 to 258 bytes
after_counted : (code : ℕ) (value : AppItem) (letters : List Bool) → (item_by code).Spells value letters → AreCounted 1 258 letters
unfolding item_by
after_counted code value letters =
    let Holds : Grammar Bool AppItem → Type 0 = λ by. by.Spells value letters → AreCounted 1 258 letters in
    of_chosen Holds (code == 0) _ _ (λ at spelled. text_counted spelled.0 letters spelled.2)
    (λ not. of_chosen Holds (code == 2) _ _ (λ at spelled. some_counted 1 letters (omega (arith, (rc_below spelled.2.0 letters spelled.2.2.1).0)) (omega arith) (omega arith))
    (λ not. of_chosen Holds (code == 3) _ _ (λ at spelled. some_counted 8 letters (omega (arith, spelled.2.0)) (omega arith) (omega arith))
    (λ not. of_chosen Holds (code == 4) _ _ (λ at spelled. run_counted spelled.0 letters spelled.2)
    (λ not. of_chosen Holds (code == 5) _ _ (λ at spelled. some_counted 8 letters (omega (arith, spelled.2.0)) (omega arith) (omega arith))
    (λ not. of_chosen Holds (nat_le 10 code && nat_le code 13) _ _ (λ at spelled. words_counted spelled.0 letters spelled.2)
    (λ not. of_chosen Holds (nat_le 40 code && nat_le code 42) _ _
    (λ at spelled. some_counted 8 letters (omega (arith, rd_counted spelled.0 letters spelled.2)) (omega arith) (omega arith))
    (λ not. of_chosen Holds (code == 70) _ _ (λ at spelled. some_counted 2 letters (bytes_counted 2 spelled.2.0 letters spelled.2.2) (omega arith) (omega arith))
    (λ not. of_chosen Holds (code == 71) _ _ (λ at spelled. some_counted 4 letters (bytes_counted 4 spelled.2.0 letters spelled.2.2) (omega arith) (omega arith))
    (λ not spelled. absurd spelled)))))))))

-- an item has 2 to 259 bytes
pub item_counted : (value : AppItem) (letters : List Bool) → item.Spells value letters → AreCounted 2 259 letters
unfolding item
item_counted value letters (code, prefix, back, tagged, spelled, same) =
    let after = after_counted code value back spelled in
    record {
      count = 1 + after.count;
      whole = omega (arith, tagged.0, after.whole, ap length same, length-append prefix back);
      some = omega (arith, after.some);
      few = omega (arith, after.few);
    }
