use Rattle.std.proofs.Common.{◌≡◌, take, false}
use Rattle.std.specs.Prelude.{◌==◌, slice_index}
use Rattle.std.specs.List.{list_any}
use Rattle.dwg_sections.specs.HeaderLines.{numbers_at}
use Rattle.dwg_sections.proofs.locator_lines.is_repeated.Given as goal

-- none of the numbers that were looked at is the number
abbrev pub invariant-earlier_ones : goal.invariant-earlier_ones
invariant-earlier_ones l =
    list_any (λ number. number == slice_index (numbers_at l.bytes) l.index) (take l.earlier (numbers_at l.bytes)) ≡ false
