-- What a source in memory gives of its bytes.
use Rattle.std.proofs.Common.{◌≡◌, ℕ, ◌+◌, List, ◌++◌, [], length, take, drop, sym, ap, ◌∙◌, arith, take-append-drop, length-drop}
use Rattle.std.proofs.lemmas.List.{drop-drop, nil_from_length}

-- what was left is what was given and what is left then
pub given_prefix : (bytes buf : List ℕ) (place n : ℕ) → take n buf ≡ take n (drop place bytes) → drop place bytes ≡ take n buf ++ drop (place + n) bytes
given_prefix bytes buf place n same =
    sym (take-append-drop n (drop place bytes)) ∙ ap (λ prefix. prefix ++ drop n (drop place bytes)) (sym same) ∙ ap (λ rest. take n buf ++ rest) (drop-drop n place bytes)

-- nothing is given into room only where nothing is left
pub given_all : (bytes : List ℕ) (place n : ℕ) → length (drop place bytes) ≡ 0 → drop (place + n) bytes ≡ []
given_all bytes place n none =
    nil_from_length _ (omega (arith, none, length-drop place bytes, length-drop (place + n) bytes))
