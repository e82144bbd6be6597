-- The first class of a number in a list of classes. A rule of this project.
use Rattle.std.specs.Prelude.{◌≡◌, ℕ, List, length}
use Rattle.dwg_base.specs.FirstItem.{IsFirstOf}
use Rattle.dwg_classes.specs.declared.class.Class.{Class}

-- the number of a class
abbrev pub number_of : Class → ℕ
number_of class = class.number

-- the first class of the number stands at this place
pub record IsFirst (classes : List Class) (number place : ℕ) : Type 0 where
  pub class : Class
  pub before : List Class
  pub first : IsFirstOf number_of classes number class before
  pub far : length before ≡ place
