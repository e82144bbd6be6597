-- What is read after a code byte.
use Rattle.std.proofs.Common.{◌≡◌, refl, ℕ, ◌≤◌, Bool, List, None, arith}
use Rattle.std.specs.Prelude.{◌≢◌, ◌==◌, ◌&&◌, nat_le}
use Rattle.std.proofs.lemmas.Bool.Decides.{nat_tests}
use Rattle.dwg_grammar.specs.Codes.{rd}
use Rattle.dwg_grammar.specs.Grammar.{Grammar}
use Rattle.dwg_appitems.specs.declared.item.AppItem.{AppItem}
use Rattle.dwg_appitems.specs.declared.item.AppItem.TheVariants.{Point, Word}
use Rattle.dwg_appitems.specs.Items.{variant, words_of_point, point_in, word_in, item_by}
use Rattle.dwg_appitems.proofs.VariantLemmas.{of_chosen}

-- what holds of points holds of what follows their codes
pub by_point : (Holds : Grammar Bool AppItem → Type 0) (code : ℕ) → 10 ≤ code → code ≤ 13 → Holds (variant (Point code) point_in words_of_point) → Holds (item_by code)
unfolding item_by
by_point Holds code from to holds =
    of_chosen Holds (code == 0) _ _ (λ at. absurd (grind (arith, nat_tests)))
    (λ not. of_chosen Holds (code == 2) _ _ (λ at. absurd (grind (arith, nat_tests)))
    (λ not. of_chosen Holds (code == 3) _ _ (λ at. absurd (grind (arith, nat_tests)))
    (λ not. of_chosen Holds (code == 4) _ _ (λ at. absurd (grind (arith, nat_tests)))
    (λ not. of_chosen Holds (code == 5) _ _ (λ at. absurd (grind (arith, nat_tests)))
    (λ not. of_chosen Holds (nat_le 10 code && nat_le code 13) _ _ (λ at. holds) (λ not. absurd (grind (arith, nat_tests))))))))

-- what holds of words holds of what follows their codes
pub by_word : (Holds : Grammar Bool AppItem → Type 0) (code : ℕ) → 40 ≤ code → code ≤ 42 → Holds (variant (Word code) word_in rd) → Holds (item_by code)
unfolding item_by
by_word Holds code from to holds =
    of_chosen Holds (code == 0) _ _ (λ at. absurd (grind (arith, nat_tests)))
    (λ not. of_chosen Holds (code == 2) _ _ (λ at. absurd (grind (arith, nat_tests)))
    (λ not. of_chosen Holds (code == 3) _ _ (λ at. absurd (grind (arith, nat_tests)))
    (λ not. of_chosen Holds (code == 4) _ _ (λ at. absurd (grind (arith, nat_tests)))
    (λ not. of_chosen Holds (code == 5) _ _ (λ at. absurd (grind (arith, nat_tests)))
    (λ not. of_chosen Holds (nat_le 10 code && nat_le code 13) _ _ (λ at. absurd (grind (arith, nat_tests)))
    (λ not. of_chosen Holds (nat_le 40 code && nat_le code 42) _ _ (λ at. holds) (λ not. absurd (grind (arith, nat_tests)))))))))

-- so a point is parsed after its code
pub point_after : (code : ℕ) (letters : List Bool) → 10 ≤ code → code ≤ 13 → (item_by code).parse letters ≡ (variant (Point code) point_in words_of_point).parse letters
point_after code letters from to = by_point (λ by. by.parse letters ≡ (variant (Point code) point_in words_of_point).parse letters) code from to refl

-- and a word after its own
pub word_after : (code : ℕ) (letters : List Bool) → 40 ≤ code → code ≤ 42 → (item_by code).parse letters ≡ (variant (Word code) word_in rd).parse letters
word_after code letters from to = by_word (λ by. by.parse letters ≡ (variant (Word code) word_in rd).parse letters) code from to refl

-- after no other byte anything is
pub none_after : (code : ℕ) (letters : List Bool) → code ≢ 0 → code ≢ 2 → code ≢ 3 → code ≢ 4 → code ≢ 5 → (10 ≤ code → code ≤ 13 → ⊥) → (40 ≤ code → code ≤ 42 → ⊥) → code ≢ 70
    → code ≢ 71 → (item_by code).parse letters ≡ None
unfolding item_by
none_after code letters text brace layer bytes object point word short long =
    let Holds : Grammar Bool AppItem → Type 0 = λ by. by.parse letters ≡ None in
    of_chosen Holds (code == 0) _ _ (λ at. absurd (text (grind (arith, nat_tests))))
    (λ not. of_chosen Holds (code == 2) _ _ (λ at. absurd (brace (grind (arith, nat_tests))))
    (λ not. of_chosen Holds (code == 3) _ _ (λ at. absurd (layer (grind (arith, nat_tests))))
    (λ not. of_chosen Holds (code == 4) _ _ (λ at. absurd (bytes (grind (arith, nat_tests))))
    (λ not. of_chosen Holds (code == 5) _ _ (λ at. absurd (object (grind (arith, nat_tests))))
    (λ not. of_chosen Holds (nat_le 10 code && nat_le code 13) _ _ (λ at. absurd (point (grind (arith, nat_tests)) (grind (arith, nat_tests))))
    (λ not. of_chosen Holds (nat_le 40 code && nat_le code 42) _ _ (λ at. absurd (word (grind (arith, nat_tests)) (grind (arith, nat_tests))))
    (λ not. of_chosen Holds (code == 70) _ _ (λ at. absurd (short (grind (arith, nat_tests))))
    (λ not. of_chosen Holds (code == 71) _ _ (λ at. absurd (long (grind (arith, nat_tests)))) (λ not. refl)))))))))
