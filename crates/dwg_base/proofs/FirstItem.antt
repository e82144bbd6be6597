-- The first item of a number, as one item more comes in prefix. Cited by dwg_sections and dwg_classes.
use Rattle.std.proofs.Common.{◌≡◌, refl, ap, ℕ, List, [], ◌∷◌, false, arith}
use Rattle.std.specs.Prelude.{◌≢◌, ◌==◌}
use Rattle.std.proofs.lemmas.Bool.Decides.{nat_tests}
use Rattle.dwg_base.specs.FirstItem.{IsFirstOf}

-- numbers whose test fails are others
pub other_number : (one number : ℕ) → (one == number) ≡ false → one ≢ number
other_number one number failed = λ same. absurd (grind (arith, nat_tests))

-- an item before that has the number is the first
pub first_before : {A : Type 0} (number_of : A → ℕ) (item : A) (items : List A) (number : ℕ) → number_of item ≡ number → IsFirstOf number_of (item ∷ items) number item []
first_before {A} number_of item items number has = record {
  after = items;
  whole = refl;
  has = has;
  others = tt;
}

-- after an item of another number the first stays the first
pub first_after : {A : Type 0} (number_of : A → ℕ) (other item : A) (items before : List A) (number : ℕ) → number_of other ≢ number → IsFirstOf number_of items number item before
    → IsFirstOf number_of (other ∷ items) number item (other ∷ before)
first_after {A} number_of other item items before number differs is = record {
  after = is.after;
  whole = ap (λ (rest : List A). other ∷ rest) is.whole;
  has = is.has;
  others = (differs, is.others);
}
