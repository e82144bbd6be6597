-- What commands that don't read answer, whatever the input.
use Rattle.std.proofs.Common.{◌≡◌, refl, sym, ap, ◌∙◌, ℕ, List, Bool, true, false, Some}
use Rattle.std.specs.Prelude.{Option, if◌then◌else◌}
use Rattle.dwg_commands.specs.declared.words.Command.{Command}
use Rattle.dwg_commands.specs.declared.words.Command.TheVariants.{Make, Drill}
use Rattle.dwg_commands.specs.declared.outcome.Outcome.{Outcome}
use Rattle.dwg_commands.specs.declared.status.Status.TheVariants.{Usage}
use Rattle.dwg_commands.specs.Answered.{made_outcome, drill_outcome}
use Rattle.dwg_commands.specs.Commands.{reads, row_of}
use Rattle.dwg_commands.specs.Outcome.{outcome_within, outcome_of_input, outcome_of}
use Rattle.dwg_commands.specs.Run.{IsSettled}
use Rattle.dwg_commands.specs.Words.{IsUsage}
use Rattle.dwg_commands.proofs.Drills.{drill_settled, drill_usage, drill_usage_reported}
use Rattle.dwg_commands.proofs.Makings.{made_settled, made_usage, made_usage_reported}

-- the same to each
same_within : (command : Command) (one other : List ℕ) → reads command ≡ false → outcome_within command one ≡ outcome_within command other
unfolding outcome_within row_of
same_within (Make n seed) one other unread = refl
same_within (Drill n) one other unread = refl
same_within command one other unread = let both : true ≡ false = unread in absurd cc

-- that of its row
pub made_within : (answer : Outcome) (command : Command) (n seed : ℕ) (bytes : List ℕ) → command ≡ Make n seed → answer ≡ made_outcome n seed → answer ≡ outcome_within command bytes
unfolding outcome_within row_of
made_within answer command n seed bytes names is = is ∙ ap (λ (one : Command). outcome_within one bytes) (sym names)

pub drilled_within : (answer : Outcome) (command : Command) (n : ℕ) (bytes : List ℕ) → command ≡ Drill n → answer ≡ drill_outcome n → answer ≡ outcome_within command bytes
unfolding outcome_within row_of
drilled_within answer command n bytes names is = is ∙ ap (λ (one : Command). outcome_within one bytes) (sym names)

-- which words that name it are answered
pub unread_answered : (named : Option Command) (command : Command) (run bytes : List ℕ) → named ≡ Some command → reads command ≡ false → outcome_within command run ≡ outcome_of named bytes
unfolding outcome_of
unread_answered named command run bytes names unread =
    same_within command run bytes unread
    ∙ sym (ap (λ (test : Bool). if test then outcome_of_input command bytes else outcome_within command bytes) unread)
    ∙ ap (λ (one : Option Command). outcome_of one bytes) (sym names)

-- it is settled, and a note on usage exactly where a made drawing hasn't the size that is asked for
pub unread_settled : (command : Command) (run : List ℕ) → reads command ≡ false → IsSettled (outcome_within command run).status
unfolding outcome_within row_of
unread_settled (Make n seed) run unread = made_settled n seed
unread_settled (Drill n) run unread = drill_settled n
unread_settled command run unread = let both : true ≡ false = unread in absurd cc

pub unread_usage : (command : Command) (run : List ℕ) → reads command ≡ false → (outcome_within command run).status ≡ Usage → IsUsage (Some command)
unfolding outcome_within row_of
unread_usage (Make n seed) run unread ends = made_usage n seed ends
unread_usage (Drill n) run unread ends = drill_usage n ends
unread_usage command run unread ends = let both : true ≡ false = unread in absurd cc

pub unread_usage_reported : (command : Command) (run : List ℕ) → reads command ≡ false → IsUsage (Some command) → (outcome_within command run).status ≡ Usage
unfolding outcome_within row_of
unread_usage_reported (Make n seed) run unread usage = made_usage_reported n seed usage
unread_usage_reported (Drill n) run unread usage = drill_usage_reported n usage
unread_usage_reported command run unread usage = let both : true ≡ false = unread in absurd cc
