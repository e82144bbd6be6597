use Rattle.std.proofs.Common.{◌≡◌, ◌↔◌, ◌<◌, ℕ, true, length, IsTrue}
use Rattle.dwg_chains.specs.Tables.{marked, lives_at}
use Rattle.dwg_chains.proofs.chaining.drop_all_unseen.Given as goal

-- the marks that are left are those of the homes whose members so far were seen
abbrev pub invariant-homes : goal.invariant-homes
invariant-homes l = record {
  places : length l.verdicts.items ≡ length l.initial.verdicts.items;
  seen : (home : ℕ) → IsTrue (marked l.verdicts.items home) ↔ (IsTrue (marked l.initial.verdicts.items home) × ((place : ℕ) → place < l.place → lives_at l.homes home place ≡ true → marked l.seen place ≡ true));
}
