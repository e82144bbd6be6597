use Rattle.std.proofs.Common.{◌≡◌, ◌<◌, ℕ, true, length}
use Rattle.dwg_chains.specs.Tables.{marked}
use Rattle.dwg_chains.specs.RankMarks.{AreKnown}
use Rattle.dwg_chains.proofs.ranking.ranks.Given as goal

-- the places so far were seen, and nothing is left to be known of them
abbrev pub invariant-places : goal.invariant-places
invariant-places l = record {
  seen_places : length l.known.seen.items ≡ length l.up;
  rank_places : length l.known.ranks.items ≡ length l.up;
  known : AreKnown l.up l.goals l.known.seen.items l.known.ranks.items 0 0;
  seen : (place : ℕ) → place < l.place → marked l.known.seen.items place ≡ true;
}
