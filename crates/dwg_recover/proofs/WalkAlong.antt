-- The walk page by page: what was walked and what is left give the whole.
use Rattle.std.proofs.Common.{◌≡◌, ◌≢◌, refl, sym, ◌∙◌, ap, ap₂, subst, ℕ, suc, ◌+◌, Bool, true, false, List, [], ◌∷◌, ◌++◌, length, arith, add-one, Option, Some, None, ◌==◌}
use Rattle.std.specs.Prelude.{IfOk, Ok, Err, if◌then◌else◌}
use Rattle.std.specs.declared.result.Result.{Result}
use Rattle.std.proofs.lemmas.Bool.Decides.{nat_tests}
use Rattle.dwg_objmap.specs.declared.pair.Pair.{Pair}
use Rattle.dwg_objmap.specs.Walking.{page_holds_at, size_of_page}
use Rattle.dwg_recover.specs.declared.loss.Loss.{Loss}
use Rattle.dwg_recover.specs.declared.loss.Loss.TheVariants.{Page, MapEnd}
use Rattle.dwg_recover.specs.Walks.{Walk, lost_end, lost_pages, pairs_at, pairs_of, walk_from, walk_of_size, walk_over, with_page}
use Rattle.dwg_recover.proofs.LossesAlong.{nothing_left, part_put}

-- pairs and losses so far, so many pages into a walk, and what the rest of it gives are what the whole gives
pub record IsLeft (bytes : List ℕ) (index : ℕ) (pairs : List Pair) (losses : List Loss) (rest whole : Walk) : Type 0 where
  pub pairs_left : pairs ++ pairs_of bytes rest.pages ≡ pairs_of bytes whole.pages
  pub losses_left : losses ++ (lost_pages bytes index rest.pages ++ lost_end rest.lost) ≡ lost_pages bytes 0 whole.pages ++ lost_end whole.lost

-- pairs and losses are those of a walk
pub record AreWalked (bytes : List ℕ) (pairs : List Pair) (losses : List Loss) (whole : Walk) : Type 0 where
  pub pairs_are : pairs ≡ pairs_of bytes whole.pages
  pub losses_are : losses ≡ lost_pages bytes 0 whole.pages ++ lost_end whole.lost

-- before the first page
pub none_walked : (bytes : List ℕ) (place left : ℕ) (pairs : List Pair) (losses : List Loss) → left ≡ length bytes + 1 → pairs ≡ [] → losses ≡ [] → IsLeft bytes 0 pairs losses (walk_over left bytes place) (walk_from bytes place)
unfolding walk_from
none_walked bytes place left pairs losses is no_pairs no_losses =
    let same : walk_over left bytes place ≡ walk_over (suc (length bytes)) bytes place = ap (λ n. walk_over n bytes place) (is ∙ add-one (length bytes)) in
    record {
      pairs_left = ap₂ (λ (ps : List Pair) (w : Walk). ps ++ pairs_of bytes w.pages) no_pairs same;
      losses_left = ap₂ (λ (ls : List Loss) (w : Walk). ls ++ (lost_pages bytes 0 w.pages ++ lost_end w.lost)) no_losses same;
    }

-- the losses of the first page, and those after
page_first : (test : Bool) (loss : Loss) (rest end : List Loss) → (if test then rest else loss ∷ rest) ++ end ≡ (if test then [] else loss ∷ []) ++ (rest ++ end)
page_first true loss rest end = refl
page_first false loss rest end = refl

-- with the next page, what is left gives the whole
page_walked : (bytes : List ℕ) (index at : ℕ) (pairs more_pairs : List Pair) (losses more_losses : List Loss) (rest whole : Walk) → IsLeft bytes index pairs losses (with_page at rest) whole
    → more_pairs ≡ pairs ++ pairs_at bytes at → more_losses ≡ losses ++ lost_pages bytes index (at ∷ []) → IsLeft bytes (index + 1) more_pairs more_losses rest whole
page_walked bytes index at pairs more_pairs losses more_losses rest whole left added lost = record {
  pairs_left = part_put pairs more_pairs (pairs_at bytes at) (pairs_of bytes rest.pages) _ _ added refl left.pairs_left;
  losses_left =
      part_put losses more_losses (lost_pages bytes index (at ∷ [])) (lost_pages bytes (index + 1) rest.pages ++ lost_end rest.lost) _ _ lost
      (page_first (page_holds_at bytes at) (Page index at) (lost_pages bytes (index + 1) rest.pages) (lost_end rest.lost)) left.losses_left;
}

-- where nothing is left, all was walked
none_left : (bytes : List ℕ) (index : ℕ) (pairs : List Pair) (losses : List Loss) (whole : Walk) → IsLeft bytes index pairs losses (record { pages = []; lost = None }) whole → AreWalked bytes pairs losses whole
none_left bytes index pairs losses whole left =
    record { pairs_are = nothing_left pairs [] _ refl left.pairs_left; losses_are = nothing_left losses [] _ refl left.losses_left }

-- the walk from a place by the size of the page there, where there is fuel
walked_by_size : (less left : ℕ) (bytes : List ℕ) (at : ℕ) (size : Option ℕ) → left ≡ less + 1 → size_of_page bytes at ≡ size → walk_over left bytes at ≡ walk_of_size at (λ next. walk_over less bytes next) size
unfolding walk_over
walked_by_size less left bytes at size is found =
    ap (λ n. walk_over n bytes at) (is ∙ add-one less) ∙ ap (walk_of_size at (λ next. walk_over less bytes next)) found

-- where no page stands, the end is lost
pub end_lost : (bytes : List ℕ) (index at left less : ℕ) (pairs : List Pair) (losses : List Loss) (whole : Walk) → left ≡ less + 1 → IsLeft bytes index pairs losses (walk_over left bytes at) whole
    → size_of_page bytes at ≡ None → AreWalked bytes pairs (losses ++ MapEnd at ∷ []) whole
end_lost bytes index at left less pairs losses whole is rest none =
    let here : IsLeft bytes index pairs losses (record { pages = []; lost = Some at }) whole =
    subst (λ (w : Walk). IsLeft bytes index pairs losses w whole) (walked_by_size less left bytes at None is none) rest in
    record { pairs_are = nothing_left pairs [] _ refl here.pairs_left; losses_are = here.losses_left }

-- what a success gives, said by an equal
pub same_in_ok : {X Y E : Type 0} (part : X → Y) (one other : Y) (result : Result X E) → one ≡ other → IfOk result (λ x. part x ≡ one) → IfOk result (λ x. part x ≡ other)
same_in_ok part one other (Ok x) same is = is ∙ same
same_in_ok part one other (Err e) same is = tt

-- the page of size 2 is the last
pub last_walked : (bytes : List ℕ) (index at left less size : ℕ) (pairs more_pairs : List Pair) (losses more_losses : List Loss) (whole : Walk) → left ≡ less + 1
    → IsLeft bytes index pairs losses (walk_over left bytes at) whole → size_of_page bytes at ≡ Some size → size ≡ 2 → more_pairs ≡ pairs ++ pairs_at bytes at
    → more_losses ≡ losses ++ lost_pages bytes index (at ∷ []) → AreWalked bytes more_pairs more_losses whole
last_walked bytes index at left less size pairs more_pairs losses more_losses whole is rest found two added lost =
    let here : IsLeft bytes index pairs losses (with_page at (record { pages = []; lost = None })) whole =
    subst (λ (w : Walk). IsLeft bytes index pairs losses w whole) (walked_by_size less left bytes at (Some 2) is (found ∙ ap Some two)) rest in
    none_left bytes (index + 1) more_pairs more_losses whole (page_walked bytes index at pairs more_pairs losses more_losses _ whole here added lost)

-- after another page stands the next
pub walked_on : (bytes : List ℕ) (index at left less size next : ℕ) (pairs more_pairs : List Pair) (losses more_losses : List Loss) (whole : Walk) → left ≡ less + 1
    → IsLeft bytes index pairs losses (walk_over left bytes at) whole → size_of_page bytes at ≡ Some size → size ≢ 2 → more_pairs ≡ pairs ++ pairs_at bytes at
    → more_losses ≡ losses ++ lost_pages bytes index (at ∷ []) → next ≡ at + size + 2 → IsLeft bytes (index + 1) more_pairs more_losses (walk_over less bytes next) whole
walked_on bytes index at left less size next pairs more_pairs losses more_losses whole is rest found other added lost there =
    let test : size == 2 ≡ false = grind (arith, nat_tests, other) in
    let others : Walk = with_page at (walk_over less bytes (at + size + 2)) in
    let same : walk_over left bytes at ≡ with_page at (walk_over less bytes next) =
    walked_by_size less left bytes at (Some size) is found ∙ ap (λ (two : Bool). if two then record { pages = at ∷ []; lost = None } else others) test
    ∙ ap (λ n. with_page at (walk_over less bytes n)) (sym there) in
    page_walked bytes index at pairs more_pairs losses more_losses (walk_over less bytes next) whole (subst (λ (w : Walk). IsLeft bytes index pairs losses w whole) same rest) added lost

-- without fuel nothing is left
pub all_walked : (bytes : List ℕ) (index at left : ℕ) (pairs : List Pair) (losses : List Loss) (whole : Walk) → left ≡ 0 → IsLeft bytes index pairs losses (walk_over left bytes at) whole → AreWalked bytes pairs losses whole
unfolding walk_over
all_walked bytes index at left pairs losses whole none rest =
    none_left bytes index pairs losses whole (subst (λ (w : Walk). IsLeft bytes index pairs losses w whole) (ap (λ n. walk_over n bytes at) none) rest)
