-- What it means that no line on a framed section at a place fails.
use Rattle.std.proofs.Common.{◌≡◌, ℕ, ◌+◌, ◌≤◌, List, length, None, refl, ltb-false, le-ltb, eqb-true, eq-eqb}
use Rattle.std.proofs.lemmas.Bool.{not-false, not_from_true}
use Rattle.dwg_base.specs.Refusals.{first_fault}
use Rattle.dwg_check.specs.CheckWord.{CHECK_SEED, check_word}
use Rattle.dwg_sections.specs.declared.framed.Framed.{Framed}
use Rattle.dwg_sections.specs.Framed.{begin_sentinel, end_sentinel}
use Rattle.dwg_sections.specs.HeaderLines.{bytes_at, rs_at}
use Rattle.dwg_sections.specs.FramedLines.{first_line, size_at, framed_short_line, begin_line, length_line, framed_check_line, end_line, framed_lines}
use Rattle.dwg_sections.proofs.TableLines.{no_refusal, keeps, both_none, none_of_both, same_bytes, bytes_same}

-- what each line on a section at a place asks of the bytes
pub record FramedPasses (bytes : List ℕ) (place : ℕ) (which : Framed) : Type 0 where
  pub long : place + 20 ≤ length bytes
  pub begins : bytes_at bytes place 16 ≡ begin_sentinel which
  pub whole : place + 38 + size_at bytes place ≤ length bytes
  pub check : rs_at bytes (place + 20 + size_at bytes place) ≡ check_word CHECK_SEED (bytes_at bytes (place + 16) (4 + size_at bytes place))
  pub ends : bytes_at bytes (place + 22 + size_at bytes place) 16 ≡ end_sentinel which

-- bytes in which no line fails are as each line asks
pub framed_passes_from_none : (which : Framed) (place : ℕ) (bytes : List ℕ) → first_fault (framed_lines which place) bytes ≡ None → FramedPasses bytes place which
unfolding framed_short_line begin_line length_line framed_check_line end_line
framed_passes_from_none which place bytes none =
    let size = size_at bytes place in
    let short = both_none (framed_short_line which place bytes) _ none in
    let begins = both_none (begin_line which place bytes) _ short.1 in
    let cut = both_none (length_line which place bytes) _ begins.1 in
    let check = both_none (framed_check_line which place bytes) _ cut.1 in
    let ends = both_none (end_line which place bytes) _ check.1 in
    record {
      long = ltb-false _ _ (no_refusal _ (first_line which) 0 place short.0);
      begins = same_bytes _ _ (no_refusal _ (first_line which + 1) 0 place begins.0);
      whole = ltb-false _ _ (no_refusal _ (first_line which + 2) 0 (place + 16) cut.0);
      check = eqb-true _ _ (not-false _ (no_refusal _ (first_line which + 3) 0 (place + 20 + size) check.0));
      ends = same_bytes _ _ (no_refusal _ (first_line which + 4) 0 (place + 22 + size) ends.0);
    }

-- in bytes that are as each line asks no line fails
pub none_from_framed_passes : (which : Framed) (place : ℕ) (bytes : List ℕ) → FramedPasses bytes place which → first_fault (framed_lines which place) bytes ≡ None
unfolding framed_short_line begin_line length_line framed_check_line end_line
none_from_framed_passes which place bytes passes =
    let size = size_at bytes place in
    none_of_both _ _ (keeps _ (first_line which) 0 place (le-ltb _ _ passes.long))
    (none_of_both _ _ (keeps _ (first_line which + 1) 0 place (bytes_same _ _ passes.begins))
    (none_of_both _ _ (keeps _ (first_line which + 2) 0 (place + 16) (le-ltb _ _ passes.whole))
    (none_of_both _ _ (keeps _ (first_line which + 3) 0 (place + 20 + size) (not_from_true _ (eq-eqb _ _ passes.check)))
    (none_of_both _ None (keeps _ (first_line which + 4) 0 (place + 22 + size) (bytes_same _ _ passes.ends)) refl))))
