-- The line by which an audit ends. A rule of this project.
use Rattle.std.specs.Prelude.{ℕ, List, [], ◌∷◌, ◌++◌, length, codes, decimal}
use Rattle.dwg_text.specs.Lines.{line}

-- what is audited, and whether it holds together: yes where nothing is found, else no with the count of findings
unfoldable pub verdict : {A : Type 0} → List ℕ → List A → List ℕ
verdict {A} audited [] = audited ++ line (codes " yes")
verdict {A} audited (finding ∷ more) = audited ++ line (codes " no " ++ decimal (length (finding ∷ more)))
