-- Tables of places after a mark is set.
use Rattle.std.proofs.Common.{◌≡◌, ◌+◌, ◌<◌, ◌⊎◌, ℕ, zero, suc, Bool, true, false, not, cond, List, [], ◌∷◌, length, get_or, Option, None, refl, sym, ap, ◌∙◌, subst, inl, inr, ⊎_elim, arith}
use Rattle.std.proofs.Math.ListN.{set}
use Rattle.std.proofs.lemmas.List.{get_or-set_same, get_or-set_other}
use Rattle.std.proofs.lemmas.List.Sums.{sum_by-set}
use Rattle.std.proofs.lemmas.Option.{unwrap_or-slice_get}
use Rattle.std.proofs.lemmas.Bool.Decides.{eqb_tells}
use Rattle.dwg_chains.specs.Tables.{leads, marked}
use Rattle.dwg_chains.specs.Marks.{count_unmarked}

-- a place is that one or another
pub same_or_other : (x y : ℕ) → (x ≡ y) ⊎ (x ≡ y → ⊥)
same_or_other x y = ⊎_elim (λ same. inl same.1) (λ other. inr other.1) (eqb_tells x y)

-- where a place leads, by its index
pub leads_is : (table : List (Option ℕ)) (place : ℕ) → leads table place ≡ get_or table place None
leads_is [] place = refl
leads_is (x ∷ xs) zero = refl
leads_is (x ∷ xs) (suc place) = leads_is xs place

-- a place that was set is marked so
pub marked_same : (marks : List Bool) (place : ℕ) (mark : Bool) → place < length marks → marked (set marks place mark) place ≡ mark
marked_same marks place mark inside = unwrap_or-slice_get (set marks place mark) place false ∙ get_or-set_same marks place mark false inside

-- the other places keep their marks
pub marked_other : (marks : List Bool) (place other : ℕ) (mark : Bool) → (other ≡ place → ⊥) → marked (set marks place mark) other ≡ marked marks other
marked_other marks place other mark apart = unwrap_or-slice_get (set marks place mark) other false ∙ get_or-set_other marks place other mark false apart ∙ sym (unwrap_or-slice_get marks other false)

-- a place that was marked stays so
pub marked_still : (marks : List Bool) (place other : ℕ) → place < length marks → marked marks other ≡ true → marked (set marks place true) other ≡ true
marked_still marks place other inside before = ⊎_elim
    (λ same. subst (λ (p : ℕ). marked (set marks place true) p ≡ true) (sym same) (marked_same marks place true inside))
    (λ apart. marked_other marks place other true apart ∙ before)
    (same_or_other other place)

-- a place that was given a number has it
pub leads_same : (table : List (Option ℕ)) (place : ℕ) (number : Option ℕ) → place < length table → leads (set table place number) place ≡ number
leads_same table place number inside = leads_is (set table place number) place ∙ get_or-set_same table place number None inside

-- the other places keep their numbers
pub leads_other : (table : List (Option ℕ)) (place other : ℕ) (number : Option ℕ) → (other ≡ place → ⊥) → leads (set table place number) other ≡ leads table other
leads_other table place other number apart = leads_is (set table place number) other ∙ get_or-set_other table place other number None apart ∙ sym (leads_is table other)

-- a mark that is set where none was leaves one place less without
pub count_set : (marks : List Bool) (place : ℕ) → place < length marks → marked marks place ≡ false → count_unmarked (set marks place true) + 1 ≡ count_unmarked marks
count_set marks place inside before =
    let was : get_or marks place false ≡ false = sym (unwrap_or-slice_get marks place false) ∙ before in
    let one : ◌≡◌ {A = ℕ} (cond (not (get_or marks place false)) 1 0) 1 = ap (λ (b : Bool). cond (not b) 1 0) was in
    omega (arith, sum_by-set (λ b. cond (not b) 1 0) marks place true false inside, one)
