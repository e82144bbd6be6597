-- A table of what the first class of each number says.
use Rattle.std.proofs.Common.{◌≡◌, refl, ◌∙◌, ℕ, List, Option, Some, None}
use Rattle.std.specs.Prelude.{option_map}
use Rattle.std.specs.Option.{option_or}
use Rattle.std.specs.Ordering.{nat_cmp}
use Rattle.std.specs.BTreeMap as tree
use Rattle.dwg_kinds.specs.declared.number.ClassHint.{ClassHint}
use Rattle.dwg_kinds.specs.declared.number.ClassHint.TheVariants.{Absent}
use Rattle.dwg_classes.specs.declared.class.Class.{Class}
use Rattle.dwg_classes.specs.Hints.{hint_of_class, hint_of_any, hint_at}
use Rattle.dwg_classes.specs.Firsts.{AreFirsts}
use Rattle.dwg_classes.proofs.ClassHints.{first_with}

-- what is noted, and then the classes that are left, say what all classes say
pub record AreNoted (classes rest : List Class) (firsts : tree.BTreeMap ℕ ClassHint) : Type 0 where
  pub same : (number : ℕ) → option_or (tree.get nat_cmp firsts number) (option_map hint_of_class (first_with number rest)) ≡ option_map hint_of_class (first_with number classes)

-- what is said of a number is what the first class with it says
said_by : (found : Option Class) (hint : ClassHint) → Some hint ≡ option_map hint_of_class found → hint ≡ hint_of_any found
said_by None hint same = absurd (cc)
said_by (Some class) hint same = cc

-- where nothing is said of a number, no class has it
said_by_none : (found : Option Class) → None ≡ option_map hint_of_class found → Absent ≡ hint_of_any found
said_by_none None same = refl
said_by_none (Some class) same = absurd (cc)

-- what the table has of a number is what the classes say of it
pub some_noted : (classes : List Class) (firsts : tree.BTreeMap ℕ ClassHint) (number : ℕ) (hint : ClassHint) → AreFirsts classes firsts → Some hint ≡ tree.get nat_cmp firsts number → hint ≡ hint_at classes number
unfolding hint_at
some_noted classes firsts number hint are some = said_by (first_with number classes) hint (some ∙ are.same number)

-- and where it has nothing, no class has the number
pub none_noted : (classes : List Class) (firsts : tree.BTreeMap ℕ ClassHint) (number : ℕ) → AreFirsts classes firsts → None ≡ tree.get nat_cmp firsts number → Absent ≡ hint_at classes number
unfolding hint_at
none_noted classes firsts number are none = said_by_none (first_with number classes) (none ∙ are.same number)
