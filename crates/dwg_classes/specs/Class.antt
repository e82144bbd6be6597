-- Classes: what one spells, and what the content of the classes section is cut into (Open Design Specification, "Classes"). The least number and the slack are rules of this project.
use Rattle.std.specs.Prelude.{ℕ, ◌^◌, ◌<◌, ◌≤◌, Bool, List, length, nat_le}
use Rattle.dwg_base.specs.Bytes.{AreBytes}
use Rattle.dwg_bits.specs.Bits.{bits}
use Rattle.dwg_grammar.specs.Grammar.{Grammar}
use Rattle.dwg_grammar.specs.Combinators.{seq, image, restrict}
use Rattle.dwg_grammar.specs.Codes.{bs, tv, b}
use Rattle.dwg_grammar.specs.ToEnd.{SpellsToEnd}
use Rattle.dwg_classes.specs.declared.class.Class.{Class}

-- a text is one of a drawing
abbrev pub IsClassText : List ℕ → Type 0
IsClassText text = (length text ≤ 65535) × AreBytes text

-- the parts of a class lie in the ranges of their types
pub record IsClass (class : Class) : Type 0 where
  pub number : class.number < 2 ^ 16
  pub version : class.version < 2 ^ 16
  pub application : IsClassText class.application
  pub cpp_name : IsClassText class.cpp_name
  pub dxf_name : IsClassText class.dxf_name
  pub item : class.item < 2 ^ 16

-- the parts of a class in the order in which they are spelled
abbrev pub ClassParts : Type 0
ClassParts = ℕ × (ℕ × (List ℕ × (List ℕ × (List ℕ × (Bool × ℕ)))))

-- BS number, BS version, TV application, TV C++ name, TV DXF name, B was a proxy, BS item class
abbrev pub class_parts : Grammar Bool ClassParts
class_parts =
    seq bs (λ number. seq bs (λ version. seq tv (λ application. seq tv (λ cpp_name. seq tv (λ dxf_name. seq b (λ proxy. bs))))))

-- a class of these parts
abbrev pub class_of : ClassParts → Class
class_of (number, (version, (application, (cpp_name, (dxf_name, (proxy, item)))))) = record {
  number = number;
  version = version;
  application = application;
  cpp_name = cpp_name;
  dxf_name = dxf_name;
  proxy = proxy;
  item = item;
}

-- the parts of a class
abbrev pub parts_of : Class → ClassParts
parts_of class =
    (class.number, (class.version, (class.application, (class.cpp_name, (class.dxf_name, (class.proxy, class.item))))))

-- a class, whatever its number
unfoldable pub any_class : Grammar Bool Class
any_class = image IsClass class_of parts_of class_parts

-- the least number of a class
abbrev pub LEAST_NUMBER : ℕ
LEAST_NUMBER = 500

-- a class whose number is one that classes have
abbrev pub numbered_class : Grammar Bool Class
numbered_class = restrict (λ class. nat_le LEAST_NUMBER class.number) any_class

-- how many bits a class has at the least
abbrev pub LEAST_BITS : ℕ
LEAST_BITS = 29

-- the bits of the content are the classes, one after the other, and fewer bits of slack than a class has
abbrev pub AreClasses : List ℕ → List Class → Type 0
AreClasses content classes = (slack : List Bool) × SpellsToEnd LEAST_BITS numbered_class classes (bits content) slack
