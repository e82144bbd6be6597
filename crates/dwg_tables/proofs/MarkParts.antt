-- The counts of marks: read and tried one by one, and what is written of them.
use Rattle.std.proofs.Common.{◌≡◌, refl, sym, ◌∙◌, ap, subst, ℕ, ◌+◌, Bool, List, [], ◌∷◌, ◌++◌, length, map, arith}
use Rattle.std.proofs.lemmas.List.{append_assoc, append-nil, length-append}
use Rattle.dwg_bits.specs.Sink.{Written, Extends}
use Rattle.dwg_bits.proofs.SinkLemmas.{extends_by_both}
use Rattle.dwg_grammar.specs.Codes.{rc}
use Rattle.dwg_grammar.specs.Combinators.{always, IsUntil, until}
use Rattle.dwg_grammar.specs.Grammar.{AnyLetters}
use Rattle.dwg_grammar.proofs.CombinatorLemmas.{always_is_code}
use Rattle.dwg_grammar.proofs.NumberLemmas.{rc_is_code}
use Rattle.dwg_grammar.specs.ToEnd.{AreValues, short_all}
use Rattle.dwg_common.proofs.UntilReading.{TakeBits}
use Rattle.dwg_tables.specs.declared.block_header.InsertMark.{InsertMark}
use Rattle.dwg_tables.specs.BlockHeaderBody.{count_of}
use Rattle.dwg_tables.specs.InsertMarks.{IsMarkCount, mark_counts}

-- a count takes bits
pub counts_take : TakeBits rc (λ (count : ℕ). always count)
counts_take = record {
  tag_is_code = rc_is_code;
  some_bits = λ count prefix spelled. omega (arith, spelled.0);
  value_is_code = λ count. always_is_code AnyLetters count;
}

-- the counts are a value exactly where those that are left are
pub record AreTried (marks left : List InsertMark) : Type 0 where
  pub fit : mark_counts.IsValue (map count_of left) → mark_counts.IsValue (map count_of marks)
  pub fitted : mark_counts.IsValue (map count_of marks) → mark_counts.IsValue (map count_of left)

-- counts that marks may have are numbers of 8 bits
values_of : (counts : List ℕ) → IsUntil IsMarkCount counts → AreValues rc counts
values_of [] fit = tt
values_of (count ∷ counts) fit = (fit.0.few, values_of counts fit.1)

pub counts_parsed : (counts : List ℕ) → mark_counts.IsValue counts → AreValues rc counts
unfolding mark_counts until
counts_parsed counts fits = values_of counts fits

-- the counts are written one after the other, and the mark after them
counts_short : (counts : List ℕ) → mark_counts.short counts ≡ short_all rc counts ++ rc.short 0
unfolding mark_counts until
counts_short [] = refl
counts_short (count ∷ counts) =
    ap (λ (prefix : List Bool). prefix ++ mark_counts.short counts) (append-nil (rc.short count))
    ∙ ap (λ (after : List Bool). rc.short count ++ after) (counts_short counts)
    ∙ sym (append_assoc (rc.short count) (short_all rc counts) (rc.short 0))

-- so they have the bits of each and of the mark
pub counts_length : (counts : List ℕ) → length (mark_counts.short counts) ≡ length (short_all rc counts) + length (rc.short 0)
counts_length counts = ap length (counts_short counts) ∙ length-append (short_all rc counts) (rc.short 0)

-- a sink that grew by each and by the mark grew by them
pub counts_written : (counts : List ℕ) (old mid new : Written) → Extends old mid (short_all rc counts) → Extends mid new (rc.short 0) → Extends old new (mark_counts.short counts)
counts_written counts old mid new each mark =
    subst (Extends old new) (sym (counts_short counts)) (extends_by_both old mid new (short_all rc counts) (rc.short 0) each mark)
