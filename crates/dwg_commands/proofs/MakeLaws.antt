-- What `make` answers: the canonical file of a drawing, which is read again and rewritten as it is.
use Rattle.std.proofs.Common.{◌≡◌, refl, sym, ◌∙◌, ap, subst, ℕ, ◌^◌, ◌<◌, ◌≤◌, List, [], Option, Some, true, false, arith}
use Rattle.std.specs.Prelude.{Bool, nat_lt, ◌==◌, ◌||◌, if◌then◌else◌}
use Rattle.std.proofs.lemmas.Bool.Decides.{nat_tests}
use Rattle.dwg_base.specs.Devices.{MOST_BYTES}
use Rattle.dwg_file.specs.Canonical.{canonical, size_of}
use Rattle.dwg_file.specs.Valid.{IsValid}
use Rattle.dwg_make.specs.Made.{MOST_ENTITIES, made}
use Rattle.dwg_text.specs.Notes.{size_note}
use Rattle.dwg_commands.specs.declared.outcome.Outcome.{Outcome}
use Rattle.dwg_commands.specs.declared.status.Status.TheVariants.{Done, Usage}
use Rattle.dwg_commands.specs.declared.words.Command.{Command}
use Rattle.dwg_commands.specs.declared.words.Command.TheVariants.{Make}
use Rattle.dwg_commands.specs.Answered.{made_outcome, noted, written}
use Rattle.dwg_commands.specs.Commands.{lines_of, row_of}
use Rattle.dwg_commands.specs.Outcome.{outcome_of, outcome_within}
use Rattle.dwg_commands.specs.OutcomeLaws.{MakeWritesDrawing, Rewrites}
use Rattle.dwg_commands.proofs.OutcomeLaws.{DrawingLaws, FileLaws, filed_within, written_rewrites}

-- what is known of made drawings
pub record MakingLaws : Type 0 where
  pub valid : (count seed : ℕ) → 0 < count → count ≤ MOST_ENTITIES → seed < 2 ^ 32 → IsValid (made count seed)
  pub within : (count seed : ℕ) → 0 < count → count ≤ MOST_ENTITIES → seed < 2 ^ 32 → size_of (made count seed) ≤ MOST_BYTES

-- whatever the input, `make` answers this
making_said : (n seed : ℕ) (bytes : List ℕ) → outcome_of (Some (Make n seed)) bytes ≡ made_outcome n seed
unfolding outcome_of outcome_within row_of lines_of
making_said n seed bytes = refl

-- which is the canonical file where a drawing of that size can be made
making_is : (n seed : ℕ) → 0 < n → n ≤ MOST_ENTITIES → made_outcome n seed ≡ written (made n seed)
unfolding made_outcome
making_is n seed some few = of_test (n == 0 || nat_lt MOST_ENTITIES n) (grind (arith, nat_tests))
  where
    of_test : (test : Bool) → test ≡ false → (if test then noted size_note Usage else written (made n seed)) ≡ written (made n seed)
    of_test true is = absurd cc
    of_test false is = refl

-- so it writes that
pub make_writes_drawing : DrawingLaws → FileLaws → MakingLaws → MakeWritesDrawing
make_writes_drawing laws files making n seed words bytes is some few low =
    let within = making.within n seed some few low in
    let answered : outcome_of (Some (Make n seed)) bytes ≡ record { output = canonical (made n seed); note = []; status = Done } =
    making_said n seed bytes ∙ making_is n seed some few ∙ filed_within (made n seed) [] Done within in
    subst (λ (answer : Outcome). Rewrites (made n seed) answer) (sym (ap (λ (command : Option Command). outcome_of command bytes) is ∙ answered))
    (written_rewrites laws files (made n seed) (making.valid n seed some few low) within)
