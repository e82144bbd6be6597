-- What is answered of a page and of a map, from what was tried.
use Rattle.std.proofs.Common.{◌≡◌, sym, ◌∙◌, ap, subst, ℕ, suc, ◌+◌, ◌-◌, ◌<◌, ◌≤◌, List, [], length, get_or, arith, add-one, inl, inr}
use Rattle.std.specs.Prelude.{Ok, Err}
use Rattle.dwg_base.proofs.ByteLists.{are_bytes}
use Rattle.dwg_base.specs.Refusals.{Tried, Answers, IfRefused}
use Rattle.dwg_base.specs.Refusal.{Refusal}
use Rattle.dwg_base.specs.declared.refusal.Fault.{Fault}
use Rattle.dwg_base.specs.declared.refusal.Fault.TheVariants.{NoMemory, Refused}
use Rattle.dwg_objmap.specs.declared.pair.Pair.{Pair}
use Rattle.dwg_objmap.specs.Pages.{PageAt, AreHandles, handles_of, MapOf}
use Rattle.dwg_objmap.specs.MapLines.{word_at, page_end, page_after, pages_after, tried_page, tried_map, RefusesPage, RefusesMap}
use Rattle.dwg_objmap.proofs.MapLemmas.{page_fails, page_ends, page_follows, page_is_tried, page_is_refused, map_is_tried, map_is_refused}
use Rattle.dwg_objmap.specs.Reading.{AnswersPage}

-- the pairs that were read of a page are those that are tried
pub page_tried : (seen gathered pairs : List Pair) (place index : ℕ) (bytes : List ℕ) → seen ≡ [] → page_after seen place index bytes ≡ Ok gathered → pairs ≡ gathered
    → tried_page place index bytes ≡ Ok pairs
unfolding tried_page
page_tried seen gathered pairs place index bytes none reported same = ap (λ all. page_after all place index bytes) (sym none) ∙ reported ∙ ap Ok (sym same)

-- so they stand there
pub page_found : (pairs : List Pair) (place index next : ℕ) (bytes : List ℕ) → ((i : ℕ) → get_or bytes i 0 < 256) → tried_page place index bytes ≡ Ok pairs → next ≡ page_end bytes place
    → PageAt bytes place pairs next × AreHandles (handles_of pairs)
page_found pairs place index next bytes small tried is =
    let (page, handles) = (page_is_tried place index bytes pairs (are_bytes bytes small)).0 tried in (subst (PageAt bytes place pairs) (sym is) page, handles)

-- the fault of reading a page is that of trying it
pub page_fault : (seen : List Pair) (fault : Fault) (place index end : ℕ) (bytes : List ℕ) → seen ≡ [] → Answers {V = List Pair} (Err fault) (page_after seen place index bytes)
    → AnswersPage (Err fault) (tried_page place index bytes) end
unfolding tried_page
page_fault seen NoMemory place index end bytes none answers = tt
page_fault seen (Refused refusal) place index end bytes none answers = ap (λ all. page_after all place index bytes) (sym none) ∙ answers

-- so the page is refused
pub page_refused_by : (fault : Fault) (place index end : ℕ) (bytes : List ℕ) → ((i : ℕ) → get_or bytes i 0 < 256) → AnswersPage (Err fault) (tried_page place index bytes) end
    → IfRefused fault (RefusesPage [] place index bytes)
page_refused_by NoMemory place index end bytes small answers = tt
page_refused_by (Refused refusal) place index end bytes small answers = (page_is_refused place index bytes refusal (are_bytes bytes small)).0 answers

-- the pairs that were read of a map are those that are tried
pub map_tried : (gathered pairs : List Pair) (place : ℕ) (bytes : List ℕ) → pages_after (length bytes + 1) [] place 0 bytes ≡ Ok gathered → pairs ≡ gathered → tried_map place bytes ≡ Ok pairs
unfolding tried_map
map_tried gathered pairs place bytes reported same = ap (λ n. pages_after n [] place 0 bytes) (sym (add-one (length bytes))) ∙ reported ∙ ap Ok (sym same)

-- so it is a map of them
pub map_found : (pairs : List Pair) (place : ℕ) (bytes : List ℕ) → ((i : ℕ) → get_or bytes i 0 < 256) → tried_map place bytes ≡ Ok pairs → MapOf bytes place pairs
map_found pairs place bytes small tried = (map_is_tried place bytes pairs (are_bytes bytes small)).0 tried

-- the fault of reading a map is that of trying it
pub map_fault : (fault : Fault) (place : ℕ) (bytes : List ℕ) → Answers {V = List Pair} (Err fault) (pages_after (length bytes + 1) [] place 0 bytes)
    → Answers {V = List Pair} (Err fault) (tried_map place bytes)
unfolding tried_map
map_fault NoMemory place bytes answers = tt
map_fault (Refused refusal) place bytes answers = ap (λ n. pages_after n [] place 0 bytes) (sym (add-one (length bytes))) ∙ answers

-- so the map is refused
pub map_refused_by : (fault : Fault) (place : ℕ) (bytes : List ℕ) → ((i : ℕ) → get_or bytes i 0 < 256) → Answers {V = List Pair} (Err fault) (tried_map place bytes)
    → IfRefused fault (RefusesMap place bytes)
map_refused_by NoMemory place bytes small answers = tt
map_refused_by (Refused refusal) place bytes small answers = (map_is_refused place bytes refusal (are_bytes bytes small)).0 answers

-- a refused page ends the map's reading
pub pages_wrong : (fault : Fault) (left index place : ℕ) (seen : List Pair) (bytes : List ℕ) (all : Tried (List Pair)) → 0 < left → pages_after left seen place index bytes ≡ all
    → Answers {V = List Pair} (Err fault) (page_after seen place index bytes) → Answers {V = List Pair} (Err fault) all
pages_wrong NoMemory left index place seen bytes all some whole answers = tt
pages_wrong (Refused refusal) left index place seen bytes all some whole answers =
    let is : left ≡ suc (left - 1) = omega arith in
    sym whole ∙ ap (λ n. pages_after n seen place index bytes) is ∙ page_fails (left - 1) index place seen bytes refusal answers

-- the page of size 2 ends it
pub pages_over : (left index place : ℕ) (seen gathered : List Pair) (bytes : List ℕ) (all : Tried (List Pair)) → 0 < left → pages_after left seen place index bytes ≡ all
    → page_after seen place index bytes ≡ Ok gathered → word_at bytes place ≡ 2 → all ≡ Ok gathered
pages_over left index place seen gathered bytes all some whole reported two =
    let is : left ≡ suc (left - 1) = omega arith in
    sym whole ∙ ap (λ n. pages_after n seen place index bytes) is ∙ page_ends (left - 1) index place seen gathered bytes reported two

-- and so do as many turns as there are bytes
pub pages_out : (left index place : ℕ) (seen : List Pair) (bytes : List ℕ) (all : Tried (List Pair)) → left ≡ 0 → pages_after left seen place index bytes ≡ all → all ≡ Ok seen
unfolding pages_after
pages_out left index place seen bytes all none whole = sym whole ∙ ap (λ n. pages_after n seen place index bytes) none

-- after any other page what is left gives the whole
pub pages_on : (left less index place next : ℕ) (seen gathered : List Pair) (bytes : List ℕ) (all : Tried (List Pair)) → left ≡ less + 1 → pages_after left seen place index bytes ≡ all
    → page_after seen place index bytes ≡ Ok gathered → (word_at bytes place ≡ 2 → ⊥) → next ≡ page_end bytes place → pages_after less gathered next (index + 1) bytes ≡ all
pages_on left less index place next seen gathered bytes all is whole reported other there =
    ap (λ p. pages_after less gathered p (index + 1) bytes) there
    ∙ sym (page_follows less index place seen gathered bytes reported other) ∙ ap (λ n. pages_after n seen place index bytes) (sym (add-one less) ∙ sym is) ∙ whole
