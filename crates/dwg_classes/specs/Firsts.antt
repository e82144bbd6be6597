-- A map from type numbers to what the first class of each says. A rule of this project.
use Rattle.std.specs.Prelude.{◌≡◌, ℕ, ◌==◌, List, find, option_map}
use Rattle.std.specs.Ordering.{nat_cmp}
use Rattle.std.specs.BTreeMap as tree
use Rattle.dwg_kinds.specs.declared.number.ClassHint.{ClassHint}
use Rattle.dwg_classes.specs.declared.class.Class.{Class}
use Rattle.dwg_classes.specs.Hints.{hint_of_class}

-- the map has just the numbers of the classes, each with what its first class says
pub record AreFirsts (classes : List Class) (firsts : tree.BTreeMap ℕ ClassHint) : Type 0 where
  pub same : (number : ℕ) → tree.get nat_cmp firsts number ≡ option_map hint_of_class (find (λ class. class.number == number) classes)
