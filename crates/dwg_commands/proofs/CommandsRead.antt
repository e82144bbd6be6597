-- Commands that read, and those that don't.
use Rattle.std.proofs.Common.{◌≡◌, refl, sym, ◌∙◌, subst, List, [], ◌∷◌, Bool, true, false, Some, None}
use Rattle.std.proofs.lemmas.Bool.{and_parts}
use Rattle.std.specs.Prelude.{Option, ℕ, IfSome, IsTrue, find, bytes_eq, if◌then◌else◌}
use Rattle.std.specs.List.{list_all}
use Rattle.dwg_commands.specs.declared.words.Command.{Command}
use Rattle.dwg_commands.specs.declared.words.Command.TheVariants.{Sections, Classes, Show, Rewrite, Audit, Recover, Appdata, Certify, Accept, Carry, Make, Drill}
use Rattle.dwg_commands.specs.Commands.{READERS, reads, row_of}
use Rattle.dwg_commands.specs.OutcomeLaws.{ReadersAreNamed}
use Rattle.dwg_commands.specs.Words.{IsReading, IsUsage, command_of, reading_of}

-- words that name one that reads
pub names_reading : (named : Option Command) (command : Command) → named ≡ Some command → IsTrue (reads command) → IsReading named
names_reading named command names is = subst IsReading (sym names) is

-- and those that don't
pub names_unread : (named : Option Command) (command : Command) → named ≡ Some command → reads command ≡ false → IsReading named → ⊥
names_unread named command names unread reading =
    let read : reads command ≡ true = subst IsReading names reading in
    let both : true ≡ false = sym read ∙ unread in
    absurd cc

-- they can be heeded
pub read_is_heeded : (named : Option Command) → IsReading named → IsUsage named → ⊥
unfolding row_of
read_is_heeded None reading usage = reading
read_is_heeded (Some (Make n seed)) reading usage = let both : false ≡ true = reading in absurd cc
read_is_heeded (Some (Drill n)) reading usage = let both : false ≡ true = reading in absurd cc
read_is_heeded (Some command) reading usage = usage

-- what is found among commands that read is one
found_reads : (test : Command → Bool) (those : List Command) → IsTrue (list_all reads those) → IfSome (find test those) (λ command. IsTrue (reads command))
found_reads test [] all = tt
found_reads test (first ∷ rest) all =
    let both = and_parts (reads first) (list_all reads rest) all in
    of_test (test first) both.0 (found_reads test rest both.1)
  where
    of_test : (found : Bool) → IsTrue (reads first) → IfSome (find test rest) (λ command. IsTrue (reads command))
        → IfSome (if found then Some first else find test rest) (λ command. IsTrue (reads command))
    of_test true is further = is
    of_test false is further = further

-- so a word alone names one that reads
pub word_reads : (word : List ℕ) (command : Command) → reading_of word ≡ Some command → IsTrue (reads command)
unfolding reading_of READERS row_of
word_reads word command is =
    subst (λ (found : Option Command). IfSome found (λ one. IsTrue (reads one))) is (found_reads (λ (one : Command). bytes_eq word (row_of one).word) READERS refl)

-- and each that reads is named by its own word
pub readers_are_named : ReadersAreNamed
unfolding command_of reading_of READERS row_of
readers_are_named Sections is = refl
readers_are_named Classes is = refl
readers_are_named Show is = refl
readers_are_named Rewrite is = refl
readers_are_named Audit is = refl
readers_are_named Recover is = refl
readers_are_named Appdata is = refl
readers_are_named Certify is = refl
readers_are_named Accept is = refl
readers_are_named Carry is = refl
readers_are_named (Make n seed) is = let both : false ≡ true = is in absurd cc
readers_are_named (Drill n) is = let both : false ≡ true = is in absurd cc
