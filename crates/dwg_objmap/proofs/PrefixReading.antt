-- Pairs read one by one before a page's bytes, said of what is left.
use Rattle.std.proofs.Common.{◌≡◌, sym, ◌∙◌, ap, ap₂, subst, ℕ, ◌+◌, List, [], ◌∷◌, ◌++◌, length, drop, get_or, Some, None, ◌<◌, add-one}
use Rattle.std.specs.Prelude.{Result, Ok, Err, IfOk}
use Rattle.std.proofs.lemmas.List.{drop-drop}
use Rattle.dwg_base.proofs.ByteLists.{are_bytes}
use Rattle.dwg_objmap.specs.declared.pair.Pair.{Pair}
use Rattle.dwg_objmap.specs.Pairs.{ORIGIN, pair_after}
use Rattle.dwg_objmap.specs.MapLines.{body_at}
use Rattle.dwg_objmap.proofs.PagePlaces.{body_is_bytes}
use Rattle.dwg_objmap.specs.Walking.{AreLongest, pairs_from, leading_pairs}
use Rattle.dwg_objmap.proofs.WalkingLemmas.{from_none, from_some, from_out, longest_leading}

-- at the begin all is left
pub prefix_begin : (left : ℕ) (pairs : List Pair) (last : Pair) (body : List ℕ) → left ≡ length body → pairs ≡ [] → last ≡ ORIGIN → pairs_from left pairs last body ≡ leading_pairs body
unfolding leading_pairs
prefix_begin left pairs last body is none origin = ap₂ (λ n (prefix : List Pair). pairs_from n prefix last body) is none ∙ ap (λ (from : Pair). pairs_from (length body) [] from body) origin

-- where no pair is spelled, the pairs so far are all
pub prefix_over : (left at : ℕ) (pairs all : List Pair) (last : Pair) (rest body : List ℕ) → pairs_from left pairs last (drop at body) ≡ all → rest ≡ drop at body
    → (pair_after last).parse rest ≡ None → pairs ≡ all
prefix_over left at pairs all last rest body whole after none = sym (from_none left pairs last (drop at body) (ap (pair_after last).parse (sym after) ∙ none)) ∙ whole

-- and so they are after as many turns as there were bytes
pub prefix_out : (left : ℕ) (pairs all : List Pair) (last : Pair) (rest : List ℕ) → pairs_from left pairs last rest ≡ all → left ≡ 0 → pairs ≡ all
prefix_out left pairs all last rest whole none = sym (from_out pairs last rest) ∙ ap (λ n. pairs_from n pairs last rest) (sym none) ∙ whole

-- with one more pair, what is left gives the whole
pub prefix_on : (left less at used : ℕ) (pairs more all : List Pair) (last pair : Pair) (rest body : List ℕ) → left ≡ less + 1 → pairs_from left pairs last (drop at body) ≡ all → rest ≡ drop at body
    → (pair_after last).parse rest ≡ Some (pair, drop used rest) → more ≡ pairs ++ pair ∷ [] → pairs_from less more pair (drop (at + used) body) ≡ all
prefix_on left less at used pairs more all last pair rest body is whole after found added =
    ap₂ (λ (prefix : List Pair) (bytes : List ℕ). pairs_from less prefix pair bytes) added (sym (ap (drop used) after ∙ drop-drop used at body))
    ∙ sym (from_some less pairs last pair rest (drop used rest) found)
    ∙ ap₂ (λ n bytes. pairs_from n pairs last bytes) (sym (add-one less) ∙ sym is) after ∙ whole

-- the pairs that are computed of a page are the longest
pub longest_of_page : {E : Type 0} (result : Result (List Pair) E) (bytes body : List ℕ) (place : ℕ) → ((i : ℕ) → get_or bytes i 0 < 256) → body ≡ body_at bytes place
    → IfOk result (λ pairs. pairs ≡ leading_pairs body) → IfOk result (λ pairs. AreLongest (body_at bytes place) pairs)
longest_of_page (Ok pairs) bytes body place small same read =
    subst (AreLongest (body_at bytes place)) (sym (read ∙ ap leading_pairs same)) (longest_leading (body_at bytes place) (body_is_bytes bytes place (are_bytes bytes small)))
longest_of_page (Err refused) bytes body place small same read = tt
