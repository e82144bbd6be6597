-- What is printed of a certificate before a drawing. A rule of this project.
use Rattle.std.specs.Prelude.{ℕ, List, codes}
use Rattle.dwg_text.specs.Lines.{line}

-- it is one of the drawing's objects
unfoldable pub accept_yes : List ℕ
accept_yes = line (codes "accept yes")

-- it isn't
unfoldable pub accept_no : List ℕ
accept_no = line (codes "accept no")
