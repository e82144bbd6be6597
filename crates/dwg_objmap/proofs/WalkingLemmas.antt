-- The leading pairs of a page's bytes are the longest list that is spelled there, and a page that stands gives its own.
use Rattle.std.proofs.Common.{◌≡◌, refl, sym, ◌∙◌, ap, ap₂, subst, ℕ, zero, suc, ◌≤◌, Bool, true, false, List, [], ◌∷◌, ◌++◌, length, Option, Some, None, arith, append_assoc, length-append}
use Rattle.std.specs.Prelude.{◌↔◌, ◌&&◌, nat_le, if◌then◌else◌}
use Rattle.std.proofs.lemmas.Bool.Decides.{nat_tests}
use Rattle.std.proofs.lemmas.List.{append-nil, append_cancel_left}
use Rattle.std.proofs.lemmas.Option.{none-some, same_Some}
use Rattle.dwg_base.specs.Bytes.{AreBytes}
use Rattle.dwg_grammar.specs.Grammar.{BeginsWith}
use Rattle.dwg_grammar.proofs.CombinatorLemmas.{bytes_closed}
use Rattle.dwg_grammar.proofs.CodeLemmas.{unique_of_code}
use Rattle.dwg_objmap.specs.declared.pair.Pair.{Pair}
use Rattle.dwg_objmap.specs.Pairs.{IsPair, ORIGIN, pair_after}
use Rattle.dwg_objmap.proofs.PairLemmas.{pair_is_code}
use Rattle.dwg_objmap.specs.Pages.{PairsSpell, PageAt}
use Rattle.dwg_objmap.specs.MapLines.{word_at, body_at, page_end, last_of, HasPage, HasPageWord}
use Rattle.dwg_objmap.proofs.PairChains.{SpellAfter, origin_is_pair, spelled_is_pair, last_is_pair, pair_has_bytes}
use Rattle.dwg_objmap.proofs.PairsTried.{none_parsed}
use Rattle.dwg_objmap.proofs.PageLemmas.{page_lies, page_next}
use Rattle.dwg_objmap.specs.Walking.{AreLongest, with_next, pairs_from, leading_pairs, size_of_page}

-- no pair is parsed of what is left: the pairs seen are all
pub from_none : (fuel : ℕ) (seen : List Pair) (last : Pair) (bytes : List ℕ) → (pair_after last).parse bytes ≡ None → pairs_from fuel seen last bytes ≡ seen
unfolding pairs_from
from_none zero seen last bytes none = refl
from_none (suc fuel) seen last bytes none = ap (with_next seen (λ pair rest. pairs_from fuel (seen ++ pair ∷ []) pair rest)) none

-- a pair is parsed: it goes on after it
pub from_some : (fuel : ℕ) (seen : List Pair) (last pair : Pair) (bytes rest : List ℕ) → (pair_after last).parse bytes ≡ Some (pair, rest)
    → pairs_from (suc fuel) seen last bytes ≡ pairs_from fuel (seen ++ pair ∷ []) pair rest
unfolding pairs_from
from_some fuel seen last pair bytes rest found = ap (with_next seen (λ pair rest. pairs_from fuel (seen ++ pair ∷ []) pair rest)) found

-- without fuel nothing more is parsed
pub from_out : (seen : List Pair) (last : Pair) (bytes : List ℕ) → pairs_from 0 seen last bytes ≡ seen
unfolding pairs_from
from_out seen last bytes = refl

-- no pair is spelled by no bytes
none_of_nothing : (last : Pair) → IsPair last → (pair_after last).parse [] ≡ None
none_of_nothing last fits = none_parsed AreBytes (pair_after last) [] (pair_is_code last fits) tt none
  where
    none : BeginsWith (pair_after last) [] → ⊥
    none (pair, prefix, rest, spelled, same) = absurd (omega (arith, pair_has_bytes last pair prefix spelled, ap length same, length-append prefix rest))

-- a pair before bytes is parsed of them
parsed_leading : (last pair : Pair) (first back rest prefix : List ℕ) → IsPair last → (pair_after last).Spells pair first → prefix ≡ first ++ back
    → (pair_after last).parse (prefix ++ rest) ≡ Some (pair, back ++ rest)
parsed_leading last pair first back rest prefix fits one same =
    ap (pair_after last).parse (ap (λ all. all ++ rest) same ∙ append_assoc first back rest) ∙ (pair_is_code last fits).complete first (back ++ rest) pair one

-- pairs that are spelled by a prefix after which none is parsed are those that follow
pub from_spelled : (pairs : List Pair) (fuel : ℕ) (seen : List Pair) (last : Pair) (prefix rest : List ℕ) → IsPair last → SpellAfter last pairs prefix → length (prefix ++ rest) ≤ fuel
    → (pair_after (last_of last pairs)).parse rest ≡ None → pairs_from fuel seen last (prefix ++ rest) ≡ seen ++ pairs
from_spelled [] fuel seen last prefix rest fits spelled enough none =
    ap (λ first. pairs_from fuel seen last (first ++ rest)) spelled ∙ from_none fuel seen last rest none ∙ sym (append-nil seen)
from_spelled (pair ∷ pairs) zero seen last prefix rest fits (first, back, one, others, same) enough none =
    absurd (omega (arith, pair_has_bytes last pair first one, ap length same, length-append first back, length-append prefix rest))
from_spelled (pair ∷ pairs) (suc fuel) seen last prefix rest fits (first, back, one, others, same) enough none =
    from_some fuel seen last pair (prefix ++ rest) (back ++ rest) (parsed_leading last pair first back rest prefix fits one same)
    ∙ from_spelled pairs fuel (seen ++ pair ∷ []) pair back rest (spelled_is_pair last pair first one) others
    (omega (arith, enough, pair_has_bytes last pair first one, ap length same, length-append first back, length-append prefix rest, length-append back rest)) none
    ∙ append_assoc seen (pair ∷ []) pairs

-- bytes that pairs spell give just these
pub whole_is_leading : (body : List ℕ) (pairs : List Pair) → PairsSpell pairs body → leading_pairs body ≡ pairs
unfolding leading_pairs
whole_is_leading body pairs spelled =
    ap (pairs_from (length body) [] ORIGIN) (sym (append-nil body))
    ∙ from_spelled pairs (length body) [] ORIGIN body [] origin_is_pair spelled (omega (arith, length-append body []))
    (none_of_nothing (last_of ORIGIN pairs) (last_is_pair pairs ORIGIN body origin_is_pair spelled))

-- pairs after a pair that a prefix of the bytes spells, after which none is parsed
record Stops (last : Pair) (bytes : List ℕ) (pairs : List Pair) : Type 0 where
  prefix : List ℕ
  rest : List ℕ
  spelled : SpellAfter last pairs prefix
  whole : bytes ≡ prefix ++ rest
  none : (pair_after (last_of last pairs)).parse rest ≡ None

-- what follows the pairs seen, up to where none is parsed
record Follow (fuel : ℕ) (seen : List Pair) (last : Pair) (bytes : List ℕ) : Type 0 where
  pairs : List Pair
  all : pairs_from fuel seen last bytes ≡ seen ++ pairs
  stops : Stops last bytes pairs

-- a pair, and what follows after it
follow_more : (fuel : ℕ) (seen : List Pair) (last pair : Pair) (bytes spelling after : List ℕ) → (pair_after last).parse bytes ≡ Some (pair, after) → (pair_after last).Spells pair spelling
    → bytes ≡ spelling ++ after → Follow fuel (seen ++ pair ∷ []) pair after → Follow (suc fuel) seen last bytes
follow_more fuel seen last pair bytes spelling after found spelled same more = record {
  pairs = pair ∷ more.pairs;
  all = from_some fuel seen last pair bytes after found ∙ more.all ∙ append_assoc seen (pair ∷ []) more.pairs;
  stops = record {
    prefix = spelling ++ more.stops.prefix;
    rest = more.stops.rest;
    spelled = (spelling, more.stops.prefix, spelled, more.stops.spelled, refl);
    whole = same ∙ ap (λ left. spelling ++ left) more.stops.whole ∙ sym (append_assoc spelling more.stops.prefix more.stops.rest);
    none = more.stops.none;
  };
}

-- with enough fuel it goes on up to where none is parsed
follow : (fuel : ℕ) (seen : List Pair) (last : Pair) (bytes : List ℕ) → IsPair last → AreBytes bytes → length bytes ≤ fuel → Follow fuel seen last bytes
follow fuel seen last [] fits text enough = record {
  pairs = [];
  all = from_none fuel seen last [] (none_of_nothing last fits) ∙ sym (append-nil seen);
  stops = record { prefix = []; rest = []; spelled = refl; whole = refl; none = none_of_nothing last fits };
}
follow zero seen last (byte ∷ bytes) fits text enough = absurd (omega arith)
follow (suc fuel) seen last (byte ∷ bytes) fits text enough =
    by_parse ((pair_after last).parse (byte ∷ bytes)) refl (λ pair after fits_pair text_after fewer. follow fuel (seen ++ pair ∷ []) pair after fits_pair text_after fewer)
  where
    After : Type 0
    After = (pair : Pair) (after : List ℕ) → IsPair pair → AreBytes after → length after ≤ fuel → Follow fuel (seen ++ pair ∷ []) pair after

    by_parse : (found : Option (Pair × List ℕ)) → (pair_after last).parse (byte ∷ bytes) ≡ found → After → Follow (suc fuel) seen last (byte ∷ bytes)
    by_parse None none go_on = record {
      pairs = [];
      all = from_none (suc fuel) seen last (byte ∷ bytes) none ∙ sym (append-nil seen);
      stops = record { prefix = []; rest = byte ∷ bytes; spelled = refl; whole = refl; none = none };
    }
    by_parse (Some (pair, after)) found go_on =
        let (spelling, spelled, same) = (pair_is_code last fits).sound (byte ∷ bytes) after pair text found in
        follow_more fuel seen last pair (byte ∷ bytes) spelling after found spelled same
        (go_on pair after (spelled_is_pair last pair spelling spelled) (bytes_closed spelling after (subst AreBytes same text))
        (omega (arith, enough, ap length same, length-append spelling after, pair_has_bytes last pair spelling spelled)))

-- the first pairs that prefixes of the same bytes spell are the same, and so is what is after them
same_first : (last pair other : Pair) (first back rest prefix other_first other_back other_rest other_prefix : List ℕ) → IsPair last
    → (pair_after last).Spells pair first → prefix ≡ first ++ back → (pair_after last).Spells other other_first → other_prefix ≡ other_first ++ other_back
    → prefix ++ rest ≡ other_prefix ++ other_rest → (pair ≡ other) × (back ++ rest ≡ other_back ++ other_rest)
same_first last pair other first back rest prefix other_first other_back other_rest other_prefix fits one same other_one other_same both =
    let joined : first ++ (back ++ rest) ≡ other_first ++ (other_back ++ other_rest) =
    sym (ap (λ all. all ++ rest) same ∙ append_assoc first back rest) ∙ both ∙ ap (λ all. all ++ other_rest) other_same ∙ append_assoc other_first other_back other_rest in
    let parts = unique_of_code AreBytes (pair_after last) (pair_is_code last fits) pair other first other_first (back ++ rest) (other_back ++ other_rest) one other_one joined in
    (parts.0, append_cancel_left other_first (back ++ rest) (other_back ++ other_rest) (ap (λ prefix. prefix ++ (back ++ rest)) (sym parts.1) ∙ joined))

-- no prefix of the bytes spells more pairs than one after which none is parsed
no_longer : (pairs others : List Pair) (last : Pair) (prefix rest other_prefix other_rest : List ℕ) → IsPair last → SpellAfter last pairs prefix → (pair_after (last_of last pairs)).parse rest ≡ None
    → SpellAfter last others other_prefix → prefix ++ rest ≡ other_prefix ++ other_rest → length others ≤ length pairs
no_longer pairs [] last prefix rest other_prefix other_rest fits spelled none other_spelled both = omega arith
no_longer [] (other ∷ others) last prefix rest other_prefix other_rest fits spelled none (other_first, other_back, other_one, other_others, other_same) both =
    absurd (none-some {A = Pair × List ℕ} (other, other_back ++ other_rest)
    (sym none ∙ ap (pair_after last).parse (ap (λ first. first ++ rest) (sym spelled) ∙ both)
    ∙ parsed_leading last other other_first other_back other_rest other_prefix fits other_one other_same))
no_longer (pair ∷ pairs) (other ∷ others) last prefix rest other_prefix other_rest fits (first, back, one, more, same) none (other_first, other_back, other_one, other_more, other_same) both =
    let (is, after) = same_first last pair other first back rest prefix other_first other_back other_rest other_prefix fits one same other_one other_same both in
    let fewer = no_longer pairs others pair back rest other_back other_rest (spelled_is_pair last pair first one) more none
    (subst (λ (from : Pair). SpellAfter from others other_back) (sym is) other_more) after in
    omega (arith, fewer)

-- as many pairs that prefixes of the same bytes spell are the same
same_pairs : (pairs others : List Pair) (last : Pair) (prefix rest other_prefix other_rest : List ℕ) → IsPair last → SpellAfter last pairs prefix → SpellAfter last others other_prefix
    → prefix ++ rest ≡ other_prefix ++ other_rest → length pairs ≡ length others → pairs ≡ others
same_pairs [] [] last prefix rest other_prefix other_rest fits spelled other_spelled both many = refl
same_pairs [] (other ∷ others) last prefix rest other_prefix other_rest fits spelled other_spelled both many = absurd (omega arith)
same_pairs (pair ∷ pairs) [] last prefix rest other_prefix other_rest fits spelled other_spelled both many = absurd (omega arith)
same_pairs (pair ∷ pairs) (other ∷ others) last prefix rest other_prefix other_rest fits (first, back, one, more, same) (other_first, other_back, other_one, other_more, other_same) both many =
    let (is, after) = same_first last pair other first back rest prefix other_first other_back other_rest other_prefix fits one same other_one other_same both in
    ap₂ (λ (head : Pair) (tail : List Pair). head ∷ tail) is
    (same_pairs pairs others pair back rest other_back other_rest (spelled_is_pair last pair first one) more (subst (λ (from : Pair). SpellAfter from others other_back) (sym is) other_more) after
    (omega (arith, many)))

-- the pairs that are computed are the longest
pub longest_leading : (body : List ℕ) → AreBytes body → AreLongest body (leading_pairs body)
unfolding leading_pairs
longest_leading body text =
    let all = follow (length body) [] ORIGIN body origin_is_pair text (omega arith) in
    subst (AreLongest body) (sym all.all) (record {
      prefix = all.stops.prefix;
      rest = all.stops.rest;
      spelled = all.stops.spelled;
      whole = all.stops.whole;
      longest = λ others other_prefix other_rest spelled same.
          no_longer all.pairs others ORIGIN all.stops.prefix all.stops.rest other_prefix other_rest origin_is_pair all.stops.spelled all.stops.none spelled (sym all.stops.whole ∙ same);
    })

-- bytes have one longest list of pairs
pub longest_is_unique : (body : List ℕ) (pairs others : List Pair) → AreLongest body pairs → AreLongest body others → pairs ≡ others
longest_is_unique body pairs others longest other =
    same_pairs pairs others ORIGIN longest.prefix longest.rest other.prefix other.rest origin_is_pair longest.spelled other.spelled (sym longest.whole ∙ other.whole)
    (omega (arith, longest.longest others other.prefix other.rest other.spelled other.whole, other.longest pairs longest.prefix longest.rest longest.spelled longest.whole))

-- a page that stands at a place gives its own pairs
pub page_gives : (bytes : List ℕ) (place next : ℕ) (pairs : List Pair) → PageAt bytes place pairs next
    → HasPage bytes place × HasPageWord bytes place × (next ≡ page_end bytes place) × (leading_pairs (body_at bytes place) ≡ pairs)
page_gives bytes place next pairs page =
    let parts = page_lies bytes place pairs next page in (
      (omega (arith, parts.size), parts.within),
      parts.has_check_word,
      page_next bytes place pairs next page,
      ap leading_pairs parts.pairs ∙ whole_is_leading page.body pairs page.spelled,
    )

-- a page has a size where it lies in the input
pub size_there : (bytes : List ℕ) (place : ℕ) → HasPage bytes place → size_of_page bytes place ≡ Some (word_at bytes place)
unfolding size_of_page
size_there bytes place has =
    let two = has.0 in
    let within = has.1 in
    let both : nat_le 2 (word_at bytes place) && nat_le (page_end bytes place) (length bytes) ≡ true = grind (arith, nat_tests) in
    ap (λ (test : Bool). if test then Some (word_at bytes place) else None) both

-- and only there
pub size_missing : (bytes : List ℕ) (place : ℕ) → (HasPage bytes place → ⊥) → size_of_page bytes place ≡ None
unfolding size_of_page
size_missing bytes place none =
    ap (λ (test : Bool). if test then Some (word_at bytes place) else None) (by_test (nat_le 2 (word_at bytes place) && nat_le (page_end bytes place) (length bytes)) refl)
  where
    by_test : (test : Bool) → nat_le 2 (word_at bytes place) && nat_le (page_end bytes place) (length bytes) ≡ test
        → nat_le 2 (word_at bytes place) && nat_le (page_end bytes place) (length bytes) ≡ false
    by_test true is =
        let two : 2 ≤ word_at bytes place = grind (arith, nat_tests) in
        let within : page_end bytes place ≤ length bytes = grind (arith, nat_tests) in absurd (none (two, within))
    by_test false is = is

-- a size that is there is the word at the page's begin, and the page lies in the input
pub size_is : (bytes : List ℕ) (place size : ℕ) → (size_of_page bytes place ≡ Some size) ↔ (HasPage bytes place × (size ≡ word_at bytes place))
size_is bytes place size = (there (nat_le 2 (word_at bytes place)) (nat_le (page_end bytes place) (length bytes)) refl refl, λ both. size_there bytes place both.0 ∙ ap Some (sym both.1))
  where
    there : (some within : Bool) → nat_le 2 (word_at bytes place) ≡ some → nat_le (page_end bytes place) (length bytes) ≡ within → size_of_page bytes place ≡ Some size
        → HasPage bytes place × (size ≡ word_at bytes place)
    there true true is_some is_within same =
        let two : 2 ≤ word_at bytes place = grind (arith, nat_tests) in
        let in_input : page_end bytes place ≤ length bytes = grind (arith, nat_tests) in
        ((two, in_input), same_Some size (word_at bytes place) (sym same ∙ size_there bytes place (two, in_input)))
    there false within is_some is_within same =
        absurd (none-some size (sym (size_missing bytes place (λ has. let two = has.0 in let both : false ≡ true = grind (arith, nat_tests) in cc)) ∙ same))
    there true false is_some is_within same =
        absurd (none-some size (sym (size_missing bytes place (λ has. let in_input = has.1 in let both : false ≡ true = grind (arith, nat_tests) in cc)) ∙ same))
