-- What is answered of a canonical file with a short change in one object's frame.
use Rattle.std.proofs.Common.{◌≡◌, ap, sym, ◌∙◌, ℕ, List, [], ◌∷◌, codes, Option, Some, None, arith}
use Rattle.std.proofs.lemmas.Option.{same_Some}
use Rattle.dwg_base.specs.Bytes.{AreBytes}
use Rattle.dwg_base.specs.Refusals.{first_fault}
use Rattle.dwg_base.specs.Refusal.{Refusal}
use Rattle.dwg_file.specs.CanonicalLaws.{CarryingIsCounted}
use Rattle.dwg_file.specs.Contents.{Contents}
use Rattle.dwg_file.specs.FileLines.{ALL_LINES}
use Rattle.dwg_file.specs.ShortDamage.{AllElseIsSame, ShortDamageIsRefused}
use Rattle.dwg_file.specs.Spelled.{Spelled}
use Rattle.dwg_recover.specs.declared.loss.Loss.{Loss}
use Rattle.dwg_recover.specs.declared.loss.Loss.TheVariants.{Object}
use Rattle.dwg_recover.specs.Recovering.{recovered}
use Rattle.dwg_recover.specs.ShortDamage.{CostsOneObject, ShortDamageCostsOneObject, word_refusal}
use Rattle.dwg_messages.specs.RecoveryNote.{recovery_note}
use Rattle.dwg_commands.specs.declared.outcome.Outcome.{Outcome}
use Rattle.dwg_commands.specs.declared.status.Status.TheVariants.{Found}
use Rattle.dwg_commands.specs.declared.words.Command.TheVariants.{Show, Rewrite, Audit}
use Rattle.dwg_commands.specs.Commands.{row_of}
use Rattle.dwg_commands.specs.Answered.{filed}
use Rattle.dwg_commands.specs.OutcomeLaws.{IsInput, Refuses, ShortDamageIsReported, SpellsNone, refuses_for, said}
use Rattle.dwg_commands.proofs.CarryLaws.{none_is_carried}
use Rattle.dwg_commands.proofs.CertificateLaws.{FormLaws, no_drawing_after_is_refused, none_is_certified}
use Rattle.dwg_commands.proofs.ItemLaws.{no_items_are_reported}
use Rattle.dwg_commands.proofs.OutcomeLaws.{DrawingLaws, audit_said, damaged_is, filed_large, filed_within, recover_is, refused, rewrite_said, show_said}

-- what `recover` files of an input of which a refusal and losses are reported
recover_files : (bytes : List ℕ) (refusal : Refusal) (losses : List Loss) → IsInput bytes → (recovered bytes).refusal ≡ Some refusal → (recovered bytes).losses ≡ losses
    → said (codes "recover") bytes ≡ filed (recovered bytes).drawing (recovery_note refusal losses (recovered bytes).kept) Found
recover_files bytes refusal losses input reported lost =
    recover_is bytes input ∙ damaged_is (recovered bytes) refusal reported
    ∙ ap (λ (some : List Loss). filed (recovered bytes).drawing (recovery_note refusal some (recovered bytes).kept) Found) lost

-- an answer that refuses an input does so for the first line that fails
refused_for : (bytes : List ℕ) (refusal : Refusal) (answer : Outcome) → first_fault ALL_LINES bytes ≡ Some refusal → Refuses bytes answer → answer ≡ refuses_for refusal
refused_for bytes refusal answer first is = is.answers ∙ ap refuses_for (same_Some _ _ (sym is.first ∙ first))

-- where a line fails no drawing is spelled
failed_is_unspelled : DrawingLaws → (bytes : List ℕ) (drawing : Contents) (refusal : Refusal) → first_fault ALL_LINES bytes ≡ Some refusal → AreBytes bytes → Spelled drawing bytes → ⊥
failed_is_unspelled laws bytes drawing refusal first are spelled = of_both (sym (laws.passes bytes drawing are spelled) ∙ first)
  where
    of_both : None ≡ Some refusal → ⊥
    of_both both = cc

-- so it is answered
pub short_damage_is_reported : DrawingLaws → FormLaws → CarryingIsCounted → ShortDamageIsRefused → AllElseIsSame → ShortDamageCostsOneObject → ShortDamageIsReported
unfolding row_of
short_damage_is_reported laws forms counted refuses same costs carried drawing bytes earlier frame later kept is small are whole damaged = record {
  show = show_said bytes input ∙ refused Show bytes refusal first;
  rewrite = rewrite_said bytes input ∙ refused Rewrite bytes refusal first;
  audit = audit_said bytes input ∙ refused Audit bytes refusal first;
  carry = refused_for bytes refusal (said (codes "carry") bytes) first (none_is_carried laws bytes input none);
  appdata = refused_for bytes refusal (said (codes "appdata") bytes) first (no_items_are_reported laws bytes input none);
  certify = refused_for bytes refusal (said (codes "certify") bytes) first (none_is_certified laws bytes input none);
  accept = λ cert after is begins. refused_for bytes refusal (said (codes "accept") after) first (no_drawing_after_is_refused laws forms after cert bytes is begins none);
  others = cost.others;
  writes = λ within. files ∙ filed_within (recovered bytes).drawing _ Found within;
  large = λ large. files ∙ filed_large (recovered bytes).drawing _ Found large;
}
  where
    input : IsInput bytes
    input = record { are = are; within = omega (arith, (same carried drawing bytes earlier frame later kept is small whole damaged).long, (counted carried drawing kept is small).0, small) }

    refusal : Refusal
    refusal = word_refusal earlier frame

    first : first_fault ALL_LINES bytes ≡ Some refusal
    first = refuses carried drawing bytes earlier frame later kept is small are whole damaged

    none : SpellsNone bytes
    none = λ other spelled. failed_is_unspelled laws bytes other refusal first are spelled

    cost : CostsOneObject bytes earlier frame later
    cost = costs carried drawing bytes earlier frame later kept is small are whole damaged

    files : said (codes "recover") bytes ≡ filed (recovered bytes).drawing (recovery_note refusal (Object frame.pair.handle frame.pair.place ∷ []) (recovered bytes).kept) Found
    files = recover_files bytes refusal (Object frame.pair.handle frame.pair.place ∷ []) input cost.refusal cost.losses
