use Rattle.std.proofs.Common.{ℕ, ◌+◌, ◌*◌, ◌<◌}
use Rattle.dwg_preview.specs.Previews.{LiesBetween, entry_at}
use Rattle.dwg_preview.proofs.reading.all_lie_between.Given as goal

-- the pictures of the entries that were looked at lie there
abbrev pub invariant-entries : goal.invariant-entries
invariant-entries l = (i : ℕ) → i < l.i → LiesBetween l.from l.end (entry_at l.content (1 + 9 * i))
