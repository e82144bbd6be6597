-- The length of a map when all pairs are counted.
use Rattle.std.proofs.Common.{◌≡◌, sym, ◌∙◌, ap, ℕ, ◌+◌, ◌≤◌, List, [], length, drop, length-drop, arith}
use Rattle.std.proofs.lemmas.List.{nil_from_length}
use Rattle.dwg_objmap.specs.declared.pair.Pair.{Pair}
use Rattle.dwg_objmap.specs.Pairs.{ORIGIN}
use Rattle.dwg_objmap.specs.Writing.{map_bytes}
use Rattle.dwg_objmap.specs.MapLength.{length_after}
use Rattle.dwg_objmap.proofs.MapLengthLaw.{length_of_map}

-- what is counted at the end is the whole
pub counted_all : (sent size index total : ℕ) (last : Pair) (pairs : List Pair) → total ≡ sent + length_after size last []
    → sent + length_after size last (drop index pairs) ≡ length_after 0 ORIGIN pairs → length pairs ≤ index → total ≡ length (map_bytes pairs)
counted_all sent size index total last pairs reported whole past =
    reported ∙ ap (λ rest. sent + length_after size last rest) (sym (nil_from_length (drop index pairs) (omega (arith, length-drop index pairs)))) ∙ whole ∙ sym (length_of_map pairs)
