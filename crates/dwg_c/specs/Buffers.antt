-- A buffer of the caller's that is filled. A rule of this project.
use Rattle.std.specs.Prelude.{◌≡◌, ℕ, List, length, take}

-- the buffer begins with as many of the bytes as it has room for
abbrev pub Keeps : List ℕ → List ℕ → Type 0
Keeps buffer bytes = take (length bytes) buffer ≡ take (length buffer) bytes
