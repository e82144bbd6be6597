-- The first line on a framed section that fails is the one by which it is refused.
use Rattle.std.proofs.Common.{◌≡◌, refl, sym, ap, ℕ, ◌+◌, Bool, true, false, List, length, Option, Some, None, inl, inr, ltb-false, le-ltb, eqb-true, eq-eqb, arith}
use Rattle.std.specs.Prelude.{◌⊎◌, not, nat_lt, bytes_eq, ◌==◌, if◌then◌else◌}
use Rattle.std.specs.Option.{option_or}
use Rattle.std.proofs.lemmas.Bool.{not-false, not_from_true}
use Rattle.std.proofs.lemmas.Bool.Decides.{nat_tests}
use Rattle.dwg_base.specs.Refusal.{Refusal}
use Rattle.dwg_check.specs.CheckWord.{CHECK_SEED, check_word}
use Rattle.dwg_sections.specs.declared.framed.Framed.{Framed}
use Rattle.dwg_sections.specs.Framed.{begin_sentinel, end_sentinel}
use Rattle.dwg_sections.specs.HeaderLines.{bytes_at, rs_at}
use Rattle.dwg_sections.specs.FramedLines.{first_line, size_at, framed_short_line, begin_line, length_line, framed_check_line, end_line}
use Rattle.dwg_sections.specs.FramedRefusals.{framed_refusal, RefusesFramed, SectionIsRefused}
use Rattle.dwg_sections.proofs.TableLines.{same_bytes, bytes_same}

-- the first of five lines that fails
abbrev FirstOfFive : Bool → Bool → Bool → Bool → Bool → Refusal → Refusal → Refusal → Refusal → Refusal → Refusal → Type 0
FirstOfFive a b c d e one two three four five refusal =
    ((refusal ≡ one) × (a ≡ true))
    ⊎ ((refusal ≡ two) × (a ≡ false) × (b ≡ true))
    ⊎ ((refusal ≡ three) × (a ≡ false) × (b ≡ false) × (c ≡ true))
    ⊎ ((refusal ≡ four) × (a ≡ false) × (b ≡ false) × (c ≡ false) × (d ≡ true))
    ⊎ ((refusal ≡ five) × (a ≡ false) × (b ≡ false) × (c ≡ false) × (d ≡ false) × (e ≡ true))

-- what five lines report
abbrev reported_of_five : Bool → Bool → Bool → Bool → Bool → Refusal → Refusal → Refusal → Refusal → Refusal → Option Refusal
reported_of_five a b c d e one two three four five =
    option_or (if a then Some one else None)
    (option_or (if b then Some two else None)
    (option_or (if c then Some three else None)
    (option_or (if d then Some four else None)
    (option_or (if e then Some five else None) None))))

-- what is reported is one
same_reported : (one refusal : Refusal) → Some one ≡ Some refusal → refusal ≡ one
same_reported one refusal same = cc

-- what five lines report is the refusal of the first that fails
first_of_reported : (a b c d e : Bool) (one two three four five refusal : Refusal) → reported_of_five a b c d e one two three four five ≡ Some refusal
    → FirstOfFive a b c d e one two three four five refusal
first_of_reported true b c d e one two three four five refusal reported = inl (same_reported one refusal reported, refl)
first_of_reported false true c d e one two three four five refusal reported = inr (inl (same_reported two refusal reported, refl, refl))
first_of_reported false false true d e one two three four five refusal reported = inr (inr (inl (same_reported three refusal reported, refl, refl, refl)))
first_of_reported false false false true e one two three four five refusal reported = inr (inr (inr (inl (same_reported four refusal reported, refl, refl, refl, refl))))
first_of_reported false false false false true one two three four five refusal reported = inr (inr (inr (inr (same_reported five refusal reported, refl, refl, refl, refl, refl))))
first_of_reported false false false false false one two three four five refusal reported = absurd cc

-- the first that fails is reported
reported_of_first : (a b c d e : Bool) (one two three four five refusal : Refusal) → FirstOfFive a b c d e one two three four five refusal
    → reported_of_five a b c d e one two three four five ≡ Some refusal
reported_of_first a b c d e one two three four five refusal (inl (same, fails)) = rw fails (ap Some (sym same))
reported_of_first a b c d e one two three four five refusal (inr (inl (same, first, fails))) = rw (first, fails) (ap Some (sym same))
reported_of_first a b c d e one two three four five refusal (inr (inr (inl (same, first, second, fails)))) = rw (first, second, fails) (ap Some (sym same))
reported_of_first a b c d e one two three four five refusal (inr (inr (inr (inl (same, first, second, third, fails))))) = rw (first, second, third, fails) (ap Some (sym same))
reported_of_first a b c d e one two three four five refusal (inr (inr (inr (inr (same, first, second, third, fourth, fails))))) =
    rw (first, second, third, fourth, fails) (ap Some (sym same))

-- bytes that fail a test are others
others_of_test : (some wanted : List ℕ) → not (bytes_eq some wanted) ≡ true → some ≡ wanted → ⊥
others_of_test some wanted fails same = let holds : not (bytes_eq some wanted) ≡ false = bytes_same some wanted same in absurd cc

-- and others fail it
test_of_others : (some wanted : List ℕ) → (some ≡ wanted → ⊥) → not (bytes_eq some wanted) ≡ true
test_of_others some wanted others = of_test (not (bytes_eq some wanted)) refl
  where
    of_test : (test : Bool) → not (bytes_eq some wanted) ≡ test → not (bytes_eq some wanted) ≡ true
    of_test true fails = fails
    of_test false holds = absurd (others (same_bytes some wanted holds))

-- a word that fails a test is another
other_of_test : (some wanted : ℕ) → not (some == wanted) ≡ true → some ≡ wanted → ⊥
other_of_test some wanted fails same = let holds : not (some == wanted) ≡ false = not_from_true _ (eq-eqb some wanted same) in absurd cc

-- and another fails it
test_of_other : (some wanted : ℕ) → (some ≡ wanted → ⊥) → not (some == wanted) ≡ true
test_of_other some wanted other = of_test (not (some == wanted)) refl
  where
    of_test : (test : Bool) → not (some == wanted) ≡ test → not (some == wanted) ≡ true
    of_test true fails = fails
    of_test false holds = absurd (other (eqb-true some wanted (not-false _ holds)))

-- the first line that fails reports how the section is refused
refused_of_first : (which : Framed) (place : ℕ) (bytes : List ℕ) (refusal : Refusal)
    → FirstOfFive (nat_lt (length bytes) (place + 20)) (not (bytes_eq (bytes_at bytes place 16) (begin_sentinel which)))
    (nat_lt (length bytes) (place + 38 + size_at bytes place))
    (not (rs_at bytes (place + 20 + size_at bytes place) == check_word CHECK_SEED (bytes_at bytes (place + 16) (4 + size_at bytes place))))
    (not (bytes_eq (bytes_at bytes (place + 22 + size_at bytes place) 16) (end_sentinel which)))
    (framed_refusal (first_line which) place) (framed_refusal (first_line which + 1) place) (framed_refusal (first_line which + 2) (place + 16))
    (framed_refusal (first_line which + 3) (place + 20 + size_at bytes place)) (framed_refusal (first_line which + 4) (place + 22 + size_at bytes place)) refusal
    → RefusesFramed which place bytes refusal
refused_of_first which place bytes refusal (inl (same, short)) = inl (same, grind (arith, nat_tests))
refused_of_first which place bytes refusal (inr (inl (same, long, other))) = inr (inl (same, ltb-false _ _ long, others_of_test _ _ other))
refused_of_first which place bytes refusal (inr (inr (inl (same, long, begins, cut)))) =
    inr (inr (inl (same, record { long = ltb-false _ _ long; sentinel = same_bytes _ _ begins }, grind (arith, nat_tests))))
refused_of_first which place bytes refusal (inr (inr (inr (inl (same, long, begins, whole, wrong))))) =
    inr (inr (inr (inl (
      same,
      record { begins = record { long = ltb-false _ _ long; sentinel = same_bytes _ _ begins }; room = ltb-false _ _ whole },
      other_of_test _ _ wrong,
    ))))
refused_of_first which place bytes refusal (inr (inr (inr (inr (same, long, begins, whole, right, other))))) =
    inr (inr (inr (inr (
      same,
      record { begins = record { long = ltb-false _ _ long; sentinel = same_bytes _ _ begins }; room = ltb-false _ _ whole },
      eqb-true _ _ (not-false _ right),
      others_of_test _ _ other,
    ))))

-- how the section is refused reports the first line that fails
first_of_refused : (which : Framed) (place : ℕ) (bytes : List ℕ) (refusal : Refusal) → RefusesFramed which place bytes refusal
    → FirstOfFive (nat_lt (length bytes) (place + 20)) (not (bytes_eq (bytes_at bytes place 16) (begin_sentinel which)))
    (nat_lt (length bytes) (place + 38 + size_at bytes place))
    (not (rs_at bytes (place + 20 + size_at bytes place) == check_word CHECK_SEED (bytes_at bytes (place + 16) (4 + size_at bytes place))))
    (not (bytes_eq (bytes_at bytes (place + 22 + size_at bytes place) 16) (end_sentinel which)))
    (framed_refusal (first_line which) place) (framed_refusal (first_line which + 1) place) (framed_refusal (first_line which + 2) (place + 16))
    (framed_refusal (first_line which + 3) (place + 20 + size_at bytes place)) (framed_refusal (first_line which + 4) (place + 22 + size_at bytes place)) refusal
first_of_refused which place bytes refusal (inl (same, short)) = inl (same, grind (arith, nat_tests))
first_of_refused which place bytes refusal (inr (inl (same, long, other))) = inr (inl (same, le-ltb _ _ long, test_of_others _ _ other))
first_of_refused which place bytes refusal (inr (inr (inl (same, begins, cut)))) =
    inr (inr (inl (same, le-ltb _ _ begins.long, bytes_same _ _ begins.sentinel, grind (arith, nat_tests))))
first_of_refused which place bytes refusal (inr (inr (inr (inl (same, room, wrong))))) =
    inr (inr (inr (inl (same, le-ltb _ _ room.begins.long, bytes_same _ _ room.begins.sentinel, le-ltb _ _ room.room, test_of_other _ _ wrong))))
first_of_refused which place bytes refusal (inr (inr (inr (inr (same, room, right, other))))) =
    inr (inr (inr (inr (
      same,
      le-ltb _ _ room.begins.long,
      bytes_same _ _ room.begins.sentinel,
      le-ltb _ _ room.room,
      not_from_true _ (eq-eqb _ _ right),
      test_of_others _ _ other,
    ))))

-- the lines on a section at a place refuse an input exactly as the section there is refused
pub section_is_refused : SectionIsRefused
unfolding framed_short_line begin_line length_line framed_check_line end_line
section_is_refused which place bytes refusal = (
  λ reported. refused_of_first which place bytes refusal (first_of_reported _ _ _ _ _ _ _ _ _ _ refusal reported),
  λ refused. reported_of_first _ _ _ _ _ _ _ _ _ _ refusal (first_of_refused which place bytes refusal refused),
)
