-- Fields as they are printed: each on a line of two spaces, its path, a space and its value. A rule of this project.
use Rattle.std.specs.Prelude.{ℕ, Bool, List, [], ◌++◌, Option, Some, None, codes, decimal, length, ◌==◌, if◌then◌else◌}
use Rattle.dwg_grammar.specs.declared.points.Point2.{Point2}
use Rattle.dwg_grammar.specs.declared.points.Point3.{Point3}
use Rattle.dwg_grammar.specs.Reference.{Reference}
use Rattle.dwg_text.specs.Lines.{line, truth, quoted}
use Rattle.dwg_text.specs.Numbered.{numbered}
use Rattle.dwg_text.specs.Values.{word_text, point2_text, point3_text, reference_text, bytes_text}

-- the lines of a value at a path
abbrev pub Printer : Type 0 → Type 0
Printer A = List ℕ → A → List ℕ

-- a path and what is printed of its value
unfoldable pub field_line : List ℕ → List ℕ → List ℕ
field_line path text = line (codes "  " ++ path ++ codes " " ++ text)

-- the path of a member of what stands at a path: after a full stop, unless it is a member of the object itself
abbrev pub member_path : List ℕ → List ℕ → List ℕ
member_path path name = if length path == 0 then name else path ++ codes "." ++ name

-- the path of an element of the list at a path: its number in brackets after the list's name
abbrev pub element_path : List ℕ → ℕ → List ℕ
element_path path index = path ++ codes "[" ++ decimal index ++ codes "]"

-- values on one line
abbrev pub number : Printer ℕ
number path value = field_line path (decimal value)

abbrev pub word : Printer ℕ
word path value = field_line path (word_text value)

abbrev pub truth_value : Printer Bool
truth_value path value = field_line path (truth value)

abbrev pub point2 : Printer Point2
point2 path value = field_line path (point2_text value)

abbrev pub point3 : Printer Point3
point3 path value = field_line path (point3_text value)

abbrev pub reference : Printer Reference
reference path value = field_line path (reference_text value)

abbrev pub text : Printer (List ℕ)
text path value = field_line path (quoted value)

abbrev pub bytes : Printer (List ℕ)
bytes path value = field_line path (bytes_text value)

-- an option: None has no line
abbrev pub optional : {A : Type 0} → Printer A → Printer (Option A)
optional {A} print path None = []
optional {A} print path (Some value) = print path value

-- what is printed of an element of the list at a path
abbrev pub element : {A : Type 0} → Printer A → List ℕ → ℕ → A → List ℕ
element {A} print path index value = print (element_path path index) value

-- a list: an empty one has no line
abbrev pub listed : {A : Type 0} → Printer A → Printer (List A)
listed {A} print path elements = numbered (element print path) 0 elements

-- a member of what stands at a path, by its name
abbrev pub member : {A : Type 0} → List ℕ → List ℕ → Printer A → A → List ℕ
member {A} path name print value = print (member_path path name) value
