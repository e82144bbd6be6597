-- The words that name the command which drills.
use Rattle.std.proofs.Common.{◌≡◌, refl, sym, ap, ap₂, ◌∙◌, ℕ, ◌<◌, ◌^◌, List, [], ◌∷◌, Bool, true, false, Some, None}
use Rattle.std.specs.Prelude.{Option, codes, decimal, bytes_eq, if◌then◌else◌}
use Rattle.std.proofs.lemmas.Slice.Eq.{bytes_eq-Decides}
use Rattle.dwg_commands.specs.declared.words.Command.{Command}
use Rattle.dwg_commands.specs.declared.words.Command.TheVariants.{Drill}
use Rattle.dwg_commands.specs.Commands.{row_of}
use Rattle.dwg_commands.specs.Words.{number_of, make_of, drill_of, reading_of, command_of}
use Rattle.dwg_commands.proofs.CommandsRead.{word_reads}
use Rattle.dwg_commands.proofs.MakeWords.{text_of}
use Rattle.dwg_commands.proofs.Numerals.{number_of_decimal}

-- they name it
pub drill_named : (words : List (List ℕ)) (result : Option Command) (n : ℕ) → result ≡ command_of words → n < 2 ^ 32 → words ≡ codes "drill" ∷ decimal n ∷ [] → result ≡ Some (Drill n)
unfolding command_of row_of
drill_named words result n named small is = named ∙ ap command_of is ∙ ap drill_of (number_of_decimal n small)

-- the number of a command that drills is that of its words
of_number : (one : Option ℕ) (n : ℕ) → drill_of one ≡ Some (Drill n) → one ≡ Some n
of_number (Some a) n is = cc
of_number None n is = absurd cc

-- one word doesn't name it
of_word : (word : List ℕ) (n : ℕ) → reading_of word ≡ Some (Drill n) → ⊥
unfolding row_of
of_word word n is =
    let both : false ≡ true = word_reads word (Drill n) is in
    absurd cc

-- nor do three
of_three_words : (test : Bool) (one other : Option ℕ) (n : ℕ) → (if test then make_of one other else None) ≡ Some (Drill n) → ⊥
of_three_words true (Some a) (Some b) n is = absurd cc
of_three_words true (Some a) None n is = absurd cc
of_three_words true None other n is = absurd cc
of_three_words false one other n is = absurd cc

-- nothing else names it
drill_words : (words : List (List ℕ)) (n : ℕ) → command_of words ≡ Some (Drill n) → words ≡ codes "drill" ∷ decimal n ∷ []
unfolding command_of row_of
drill_words [] n names = absurd cc
drill_words (word ∷ []) n names = absurd (of_word word n names)
drill_words (word ∷ one ∷ []) n names = of_test (bytes_eq word (codes "drill")) refl names
  where
    of_test : (test : Bool) → bytes_eq word (codes "drill") ≡ test → (if test then drill_of (number_of one) else None) ≡ Some (Drill n) → word ∷ one ∷ [] ≡ codes "drill" ∷ decimal n ∷ []
    of_test true same is =
        let is_drill : word ≡ codes "drill" = (bytes_eq-Decides word (codes "drill")).0 same in
        ap₂ (λ prefix back. prefix ∷ back) is_drill (ap (λ last. last ∷ []) (text_of one n (of_number (number_of one) n is)))
    of_test false same is = absurd cc
drill_words (word ∷ one ∷ other ∷ []) n names = absurd (of_three_words (bytes_eq word (codes "make")) (number_of one) (number_of other) n names)
drill_words (word ∷ one ∷ other ∷ more ∷ rest) n names = absurd cc

pub drill_number : (words : List (List ℕ)) (result : Option Command) (n : ℕ) → result ≡ command_of words → result ≡ Some (Drill n) → words ≡ codes "drill" ∷ decimal n ∷ []
drill_number words result n named is = drill_words words n (sym named ∙ is)
