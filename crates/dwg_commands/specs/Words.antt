-- The words of the command line, and which commands read the input. A rule of this project.
use Rattle.std.specs.Prelude.{◌≡◌, ◌⊎◌, ⊤, ℕ, ◌^◌, ◌<◌, Bool, IsTrue, not, ◌&&◌, ◌||◌, ◌==◌, nat_lt, nat_le, List, [], ◌∷◌, length, Option, Some, None, String, find, map, codes, bytes_eq, string_bytes, slice_index, if◌then◌else◌}
use Rattle.std.specs.Char.{is_ascii_digit}
use Rattle.std.specs.List.{list_all}
use Rattle.std.specs.Str.Parse.{digits_value}
use Rattle.dwg_commands.specs.declared.words.Command.{Command}
use Rattle.dwg_commands.specs.declared.words.Command.TheVariants.{Make, Drill}
use Rattle.dwg_commands.specs.Commands.{READERS, reads, row_of}
use Rattle.dwg_make.specs.Made.{MOST_ENTITIES}

-- the words as lists of bytes
abbrev pub texts : {A : Type 0} → List (String A) → List (List ℕ)
texts words = map string_bytes words

-- one to ten decimal digits, without a zero before others
unfoldable pub is_numeral : List ℕ → Bool
is_numeral word = nat_lt 0 (length word) && nat_le (length word) 10 && list_all is_ascii_digit word && (not (slice_index word 0 == 48) || length word == 1)

-- the number below 2^32 that a word spells
unfoldable pub number_of : List ℕ → Option ℕ
number_of word = if is_numeral word && nat_lt (digits_value 10 word) (2 ^ 32) then Some (digits_value 10 word) else None

-- the command that makes a drawing of two numbers
abbrev pub make_of : Option ℕ → Option ℕ → Option Command
make_of (Some n) (Some seed) = Some (Make n seed)
make_of (Some n) None = None
make_of None seed = None

-- the command that makes a drawing of a number, and drills with it
abbrev pub drill_of : Option ℕ → Option Command
drill_of (Some n) = Some (Drill n)
drill_of None = None

-- the command that reads of this word
unfoldable pub reading_of : List ℕ → Option Command
reading_of word = find (λ (command : Command). bytes_eq word (row_of command).word) READERS

-- the command that the words name, if they stand in a line of the command table; whatever the numbers after it, the word of `drill` is one, and that of `make`
unfoldable pub command_of : List (List ℕ) → Option Command
command_of [] = None
command_of (word ∷ []) = reading_of word
command_of (word ∷ one ∷ []) = if bytes_eq word (row_of (Drill 0)).word then drill_of (number_of one) else None
command_of (word ∷ one ∷ other ∷ []) = if bytes_eq word (row_of (Make 0 0)).word then make_of (number_of one) (number_of other) else None
command_of (word ∷ one ∷ other ∷ more ∷ rest) = None

-- the words name a command that reads the input
abbrev pub IsReading : Option Command → Type 0
IsReading None = ⊥
IsReading (Some command) = IsTrue (reads command)

-- the words can't be heeded: they name no command, or one that makes a drawing, with a size that no such drawing has
abbrev pub IsUsage : Option Command → Type 0
IsUsage None = ⊤
IsUsage (Some (Make n seed)) = (n ≡ 0) ⊎ (MOST_ENTITIES < n)
IsUsage (Some (Drill n)) = (n ≡ 0) ⊎ (MOST_ENTITIES < n)
IsUsage (Some command) = ⊥
