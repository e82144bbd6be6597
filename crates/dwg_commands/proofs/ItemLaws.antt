-- What `appdata` answers, said of the drawing that the input spells.
use Rattle.std.proofs.Common.{◌≡◌, refl, sym, ap, ◌∙◌, ℕ, List, [], ◌∷◌, codes}
use Rattle.std.specs.Prelude.{◌↔◌}
use Rattle.dwg_messages.specs.AppText.{appdata_text}
use Rattle.dwg_appitems.specs.AppFailures.{IsAppFinding}
use Rattle.dwg_appitems.specs.AppFindingLaws.{NothingIsFoundIfNothingFails}
use Rattle.dwg_appitems.specs.AppFindings.{app_findings}
use Rattle.dwg_appitems.specs.declared.finding.AppFinding.{AppFinding}
use Rattle.dwg_file.specs.Contents.{Contents}
use Rattle.dwg_file.specs.Spelled.{Spelled}
use Rattle.dwg_commands.specs.declared.outcome.Outcome.{Outcome}
use Rattle.dwg_commands.specs.declared.status.Status.{Status}
use Rattle.dwg_commands.specs.declared.status.Status.TheVariants.{Done, Found}
use Rattle.dwg_commands.specs.declared.words.Command.TheVariants.{Appdata}
use Rattle.dwg_commands.specs.Answered.{items_reported, verdict_status}
use Rattle.dwg_commands.specs.Commands.{READERS, row_of}
use Rattle.dwg_commands.specs.Outcome.{outcome_within}
use Rattle.dwg_commands.specs.OutcomeLaws.{IsInput, said, ReportsItems, NoItemsAreReported, AppdataReportsItems}
use Rattle.dwg_commands.specs.Words.{command_of, reading_of}
use Rattle.dwg_commands.proofs.OutcomeLaws.{DrawingLaws, of_input, passed, refused, first_failing, read_is}

-- the word names its command
pub appdata_said : (bytes : List ℕ) → IsInput bytes → said (codes "appdata") bytes ≡ outcome_within Appdata bytes
unfolding command_of reading_of READERS row_of
appdata_said bytes input = of_input Appdata bytes input refl

-- it refuses an input that spells no drawing
pub no_items_are_reported : DrawingLaws → NoItemsAreReported
unfolding row_of
no_items_are_reported laws bytes input none =
    let fails = first_failing laws bytes input none in
    record { refusal = fails.0; first = fails.1; answers = appdata_said bytes input ∙ refused Appdata bytes fails.0 fails.1 }

-- how an audit ends with findings, of which there are none exactly where something holds
ends_by : {A : Type 0} (found : List A) (Met : Type 0) → (found ≡ []) ↔ Met → (verdict_status found ≡ Done) ↔ Met
ends_by {A} [] Met met = (λ done. met.0 refl, λ holds. refl)
ends_by {A} (finding ∷ more) Met met = (λ done. absurd cc, λ holds. absurd (some (met.1 holds)))
  where
    some : finding ∷ more ≡ [] → ⊥
    some same = absurd cc

-- and where it fails
ends_found : {A : Type 0} (found : List A) (Met : Type 0) → (found ≡ []) ↔ Met → (Met → ⊥) → verdict_status found ≡ Found
ends_found {A} [] Met met fails = absurd (fails (met.0 refl))
ends_found {A} (finding ∷ more) Met met fails = refl

-- of the drawing that an input spells it answers this
items_are : DrawingLaws → (drawing : Contents) (bytes : List ℕ) → IsInput bytes → Spelled drawing bytes → said (codes "appdata") bytes ≡ items_reported drawing
unfolding row_of
items_are laws drawing bytes input spelled =
    appdata_said bytes input ∙ passed Appdata bytes (laws.passes bytes drawing input.are spelled) ∙ ap items_reported (read_is laws drawing bytes input.are spelled)

-- the answer over a drawing's items
reported_of : (drawing : Contents) (answer : Outcome) → NothingIsFoundIfNothingFails → answer ≡ items_reported drawing → ReportsItems drawing answer
unfolding items_reported
reported_of drawing answer none is =
    let found = app_findings drawing.objects in
    let ends : answer.status ≡ verdict_status found = ap (λ (a : Outcome). a.status) is in
    let by = ends_by found ((finding : AppFinding) → IsAppFinding drawing.objects finding → ⊥) (none drawing.objects) in
    record {
      prints = is ∙ ap (λ (status : Status). record { output = appdata_text drawing.objects found; note = []; status = status }) (sym ends);
      met = (λ done. by.0 (sym ends ∙ done), λ holds. ends ∙ by.1 holds);
      unmet = λ finding is. ends ∙ ends_found found ((one : AppFinding) → IsAppFinding drawing.objects one → ⊥) (none drawing.objects) (λ met. met finding is);
    }

-- so it reports its items
pub appdata_reports_items : DrawingLaws → NothingIsFoundIfNothingFails → AppdataReportsItems
appdata_reports_items laws none drawing bytes input spelled = reported_of drawing (said (codes "appdata") bytes) none (items_are laws drawing bytes input spelled)
