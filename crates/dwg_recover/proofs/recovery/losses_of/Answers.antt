use Rattle.std.proofs.Common.{◌∙◌, ap, ap₂, Bool, List, ◌++◌}
use Rattle.std.specs.Option.{is_none}
use Rattle.dwg_objmap.specs.declared.pair.Pair.{Pair}
use Rattle.dwg_sections.specs.declared.header.Locator.{Locator}
use Rattle.dwg_recover.specs.declared.frame.Frame.{Frame}
use Rattle.dwg_recover.specs.declared.loss.Loss.{Loss}
use Rattle.dwg_recover.specs.declared.loss.Loss.TheVariants as losses
use Rattle.dwg_recover.specs.Frames.{lost_pairs}
use Rattle.dwg_recover.specs.Recovering.{losses_of}
use Rattle.dwg_recover.specs.Sections.{locators_of, lost_if, lost_sections}
use Rattle.dwg_recover.proofs.RecoveryParts.{losses_joined, none_reported}
use Rattle.dwg_recover.proofs.recovery.losses_of.Goals as goal

pub returns : goal.returns
unfolding losses_of
returns c =
    losses_joined _ _ _ _ _ _ _ _ _ _ _ _ _ _
    (c.in_ok-losses.ensures ∙ ap₂ (λ (l : List Loss) (t : Bool). l ++ lost_if t losses.Header) c.new.ensures (none_reported _ c.is_none.result c.is_none.ensures ∙ ap is_none c.requires.header))
    (c.in_ok-losses-2.ensures ∙ ap (λ (t : Bool). c.in_ok-losses.losses ++ lost_if t losses.Variables) (none_reported _ c.is_none-2.result c.is_none-2.ensures ∙ ap is_none c.requires.variables))
    (c.in_ok-losses-3.ensures ∙ ap (λ (t : Bool). c.in_ok-losses-2.losses ++ lost_if t losses.Classes) (none_reported _ c.is_none-3.result c.is_none-3.ensures ∙ ap is_none c.requires.classes))
    (c.in_ok-losses-4.ensures ∙ ap (λ (l : List Locator). c.in_ok-losses-3.losses ++ lost_sections c.args.bytes.now l) (c.locators_of.ensures ∙ ap locators_of c.requires.header))
    (c.in_ok-losses-5.ensures ∙ ap (λ (l : List Loss). c.in_ok-losses-4.losses ++ l) c.as_slice.ensures)
    c.requires.pages
    (c.in_ok-losses-6.ensures ∙ ap₂ (λ (k : List Frame) (p : List Pair). c.in_ok-losses-5.losses ++ lost_pairs k 0 p) c.requires.mapped (c.as_slice-2.ensures ∙ c.requires.pairs))
