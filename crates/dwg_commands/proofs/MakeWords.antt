-- The words that name the command which makes a drawing.
use Rattle.std.proofs.Common.{◌≡◌, refl, sym, ap, ap₂, ◌∙◌, subst, ℕ, ◌<◌, ◌^◌, List, [], ◌∷◌, Bool, true, false, Some, None, IfSome}
use Rattle.std.specs.Prelude.{Option, codes, decimal, bytes_eq, if◌then◌else◌}
use Rattle.std.proofs.lemmas.Slice.Eq.{bytes_eq-Decides}
use Rattle.dwg_commands.specs.declared.words.Command.{Command}
use Rattle.dwg_commands.specs.declared.words.Command.TheVariants.{Make}
use Rattle.dwg_commands.specs.Commands.{row_of}
use Rattle.dwg_commands.specs.Words.{number_of, make_of, drill_of, reading_of, command_of}
use Rattle.dwg_commands.proofs.CommandsRead.{word_reads}
use Rattle.dwg_commands.proofs.Numerals.{number_of_decimal, spelled}

-- they name it
pub make_named : (words : List (List ℕ)) (result : Option Command) (n seed : ℕ) → result ≡ command_of words → n < 2 ^ 32 → seed < 2 ^ 32
    → words ≡ codes "make" ∷ decimal n ∷ decimal seed ∷ [] → result ≡ Some (Make n seed)
unfolding command_of row_of
make_named words result n seed named small seed_small is =
    named ∙ ap command_of is ∙ ap₂ make_of (number_of_decimal n small) (number_of_decimal seed seed_small)

-- the numbers of a command that makes a drawing are those of its words
of_numbers : (one other : Option ℕ) (n seed : ℕ) → make_of one other ≡ Some (Make n seed) → (one ≡ Some n) × (other ≡ Some seed)
of_numbers (Some a) (Some b) n seed is = (cc, cc)
of_numbers (Some a) None n seed is = absurd cc
of_numbers None other n seed is = absurd cc

-- one word doesn't name it
of_word : (word : List ℕ) (n seed : ℕ) → reading_of word ≡ Some (Make n seed) → ⊥
unfolding row_of
of_word word n seed is =
    let both : false ≡ true = word_reads word (Make n seed) is in
    absurd cc

-- nor do two
of_two_words : (test : Bool) (one : Option ℕ) (n seed : ℕ) → (if test then drill_of one else None) ≡ Some (Make n seed) → ⊥
of_two_words true (Some a) n seed is = absurd cc
of_two_words true None n seed is = absurd cc
of_two_words false one n seed is = absurd cc

-- the text of the number that a word spells
pub text_of : (word : List ℕ) (value : ℕ) → number_of word ≡ Some value → word ≡ decimal value
text_of word value is = subst (λ result. IfSome result (λ number. word ≡ decimal number)) is (spelled word (number_of word) refl)

-- nothing else names it
make_words : (words : List (List ℕ)) (n seed : ℕ) → command_of words ≡ Some (Make n seed) → words ≡ codes "make" ∷ decimal n ∷ decimal seed ∷ []
unfolding command_of row_of
make_words [] n seed names = absurd cc
make_words (word ∷ []) n seed names = absurd (of_word word n seed names)
make_words (word ∷ one ∷ []) n seed names = absurd (of_two_words (bytes_eq word (codes "drill")) (number_of one) n seed names)
make_words (word ∷ one ∷ other ∷ []) n seed names = of_test (bytes_eq word (codes "make")) refl names
  where
    of_test : (test : Bool) → bytes_eq word (codes "make") ≡ test → (if test then make_of (number_of one) (number_of other) else None) ≡ Some (Make n seed)
        → word ∷ one ∷ other ∷ [] ≡ codes "make" ∷ decimal n ∷ decimal seed ∷ []
    of_test true same is =
        let numbers = of_numbers (number_of one) (number_of other) n seed is in
        let is_make : word ≡ codes "make" = (bytes_eq-Decides word (codes "make")).0 same in
        ap₂ (λ prefix back. prefix ∷ back) is_make
        (ap₂ (λ prefix back. prefix ∷ back) (text_of one n numbers.0) (ap (λ last. last ∷ []) (text_of other seed numbers.1)))
    of_test false same is = absurd cc
make_words (word ∷ one ∷ other ∷ more ∷ rest) n seed names = absurd cc

pub make_numbers : (words : List (List ℕ)) (result : Option Command) (n seed : ℕ) → result ≡ command_of words → result ≡ Some (Make n seed)
    → words ≡ codes "make" ∷ decimal n ∷ decimal seed ∷ []
make_numbers words result n seed named is = make_words words n seed (sym named ∙ is)
